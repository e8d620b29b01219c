-- Laws of refusals: a call is refused by the first test that fails, whatever its tests are.
use Rattle.std.specs.Prelude.{◌≡◌, ℕ, zero, suc, ◌-◌, ◌<◌, ◌≤◌, get_or, Bool, true, false, not, ◌&&◌, List, [], ◌∷◌, ◌++◌, ◌≢◌, nat_le, nat_lt, refl}
use Rattle.std.proofs.Common.{ap, sym, ◌∙◌, arith, le-leb, lt-ltb, le-ltb, ltb-true}
use Rattle.std.proofs.lemmas.Bool.{not-true, not-false, lt-leb}
use Rattle.order.specs.TestLaws.{and→}
use Rattle.std.specs.declared.result.Result.{Result as Told}
use Rattle.std.specs.declared.result.Result.TheVariants.{Ok, Err}
use Rattle.squares.specs.declared.refusal.Refusal.{Refusal}
use Rattle.squares.specs.Refusals.{Bar, unless, first, number_of, refused_by}

-- a call refuses or it does not
pub by-refusal {ℓ} : {A : Type ℓ} (n : ℕ) → (n ≡ 0 → A) → ((n ≢ 0) → A) → A
by-refusal zero f g = f refl
by-refusal (suc n) f g = g (λ (e : suc n ≡ 0). omega arith)

-- the refusals in the order of their numbers, from 1 on; a refusal by its number
abbrev all : List Refusal
all = Refusal.Shape ∷ Refusal.Capacity ∷ Refusal.Tables ∷ Refusal.ZoneNumber ∷ Refusal.CarNumber ∷ Refusal.ZoneStands ∷ Refusal.NoZone ∷ Refusal.NoCar ∷ Refusal.Rectangle ∷ Refusal.OffMap ∷ Refusal.Buffer ∷ Refusal.Entries ∷ Refusal.Square ∷ Refusal.Record ∷ Refusal.Team ∷ []

abbrev pub refusal_at : ℕ → Refusal
refusal_at n = get_or all (n - 1) Refusal.Team

pub at-number : (r : Refusal) → refusal_at (number_of r) ≡ r
at-number Refusal.Shape = refl
at-number Refusal.Capacity = refl
at-number Refusal.Tables = refl
at-number Refusal.ZoneNumber = refl
at-number Refusal.CarNumber = refl
at-number Refusal.ZoneStands = refl
at-number Refusal.NoZone = refl
at-number Refusal.NoCar = refl
at-number Refusal.Rectangle = refl
at-number Refusal.OffMap = refl
at-number Refusal.Buffer = refl
at-number Refusal.Entries = refl
at-number Refusal.Square = refl
at-number Refusal.Record = refl
at-number Refusal.Team = refl

-- no two refusals have one number, and none has 0
pub number-same : (r s : Refusal) → number_of r ≡ number_of s → r ≡ s
number-same r s e = sym (at-number r) ∙ ap refusal_at e ∙ at-number s

pub some-number : (r : Refusal) → number_of r ≢ 0
some-number Refusal.Shape e = omega (arith, e)
some-number Refusal.Capacity e = omega (arith, e)
some-number Refusal.Tables e = omega (arith, e)
some-number Refusal.ZoneNumber e = omega (arith, e)
some-number Refusal.CarNumber e = omega (arith, e)
some-number Refusal.ZoneStands e = omega (arith, e)
some-number Refusal.NoZone e = omega (arith, e)
some-number Refusal.NoCar e = omega (arith, e)
some-number Refusal.Rectangle e = omega (arith, e)
some-number Refusal.OffMap e = omega (arith, e)
some-number Refusal.Buffer e = omega (arith, e)
some-number Refusal.Entries e = omega (arith, e)
some-number Refusal.Square e = omega (arith, e)
some-number Refusal.Record e = omega (arith, e)
some-number Refusal.Team e = omega (arith, e)

-- what refuses has its number, and where nothing does there is none
pub refused-by : {A : Type 0} {t : Told A Refusal} {r : Refusal} {n : ℕ} → refused_by t ≡ n → t ≡ Err r → number_of r ≡ n
refused-by {A} {t} {r} h e = ap refused_by (sym e) ∙ h

pub none-refused : {A : Type 0} {t : Told A Refusal} {a : A} {n : ℕ} → refused_by t ≡ n → t ≡ Ok a → n ≡ 0
none-refused {A} {t} {a} h e = sym h ∙ ap refused_by e

-- every test holds
abbrev pub Clear : List Bar → Type 0
Clear [] = Unit {0}
Clear (x ∷ l) = (x.0 ≡ true) × Clear l

-- test i fails, and those before it hold; past the last one, all hold
abbrev pub Stops : ℕ → List Bar → Type 0
Stops i [] = Unit {0}
Stops zero (x ∷ l) = x.0 ≡ false
Stops (suc i) (x ∷ l) = (x.0 ≡ true) × Stops i l

-- the number of test i; past the last one, 0
abbrev pub number_at : ℕ → List Bar → ℕ
number_at i [] = 0
number_at zero (x ∷ l) = x.1
number_at (suc i) (x ∷ l) = number_at i l

-- no number is 0
abbrev pub numbered : List Bar → Bool
numbered [] = true
numbered (x ∷ l) = nat_lt 0 x.1 && numbered l

-- the number of the test that fails
pub stops : (i : ℕ) (l : List Bar) → Stops i l → number_at i l ≡ first l
unfolding first
stops i [] h = refl
stops zero (x ∷ l) h = rw h
stops (suc i) (x ∷ l) h = rw h.0 (stops i l h.1)

go_on : (b : Bool) (n rest : ℕ) → nat_lt 0 n ≡ true → unless b n rest ≡ 0 → (b ≡ true) × (rest ≡ 0)
go_on true n rest h e = (refl, e)
go_on false n rest h e = let p = ltb-true 0 n h in absurd (omega arith)

-- not refused: every test holds
pub clear : (l : List Bar) → numbered l ≡ true → first l ≡ 0 → Clear l
unfolding first
clear [] h e = tt
clear (x ∷ l) h e =
    let p = and→ (nat_lt 0 x.1) (numbered l) h in
    let q = go_on x.0 x.1 (first l) p.0 e in
    (q.0, clear l p.1 q.1)

-- tests and then more: refused by the first ones, whatever comes after, or by what comes after
later : (b : Bool) (n x y : ℕ) → (unless b n x ≢ 0) → ((x ≢ 0) → y ≡ x) → unless b n y ≡ unless b n x
later true n x y f g = g f
later false n x y f g = refl

pub before : (l m : List Bar) → (first l ≢ 0) → first (l ++ m) ≡ first l
unfolding first
before [] m f = absurd (f refl)
before (x ∷ l) m f = later x.0 x.1 (first l) (first (l ++ m)) f (before l m)

pub after : (i : ℕ) (l m : List Bar) → Clear l → Stops i m → number_at i m ≡ first (l ++ m)
unfolding first
after i [] m h f = stops i m f
after i (x ∷ l) m h f = rw h.0 (after i l m h.1 f)

passed_on : (b : Bool) (n x : ℕ) → nat_lt 0 n ≡ true → unless b n x ≡ 0 → (y : ℕ) → x ≡ 0 → unless b n y ≡ y
passed_on true n x h e y z = refl
passed_on false n x h e y z = let p = ltb-true 0 n h in absurd (omega arith)

-- the first tests hold: refused by those after them
pub past : (l m : List Bar) → numbered l ≡ true → first l ≡ 0 → first (l ++ m) ≡ first m
unfolding first
past [] m h e = refl
past (x ∷ l) m h e =
    let p = and→ (nat_lt 0 x.1) (numbered l) h in
    let q = go_on x.0 x.1 (first l) p.0 e in
    passed_on x.0 x.1 (first l) p.0 e (first (l ++ m)) q.1 ∙ past l m p.1 q.1

-- ---- a test of the code is a test of the call

module _ {a b : Bool} (e : a ≡ b) where
  pub holds : not a ≡ false → b ≡ true
  holds h = sym e ∙ not-false a h

  pub fails : not a ≡ true → b ≡ false
  fails h = sym e ∙ not-true a h

module _ {a b n : ℕ} (e : a ≡ b) where
  pub below : n < a → nat_lt n b ≡ true
  below h = lt-ltb n b (omega arith)

  pub beyond : a ≤ n → nat_lt n b ≡ false
  beyond h = le-ltb n b (omega arith)

  pub enough : a ≤ n → nat_le b n ≡ true
  enough h = le-leb b n (omega arith)

  pub short : n < a → nat_le b n ≡ false
  short h = lt-leb b n (omega arith)
