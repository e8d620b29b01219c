-- Laws of a season: the town that answers a line is the one that the lines before it and their answers say.
use Rattle.std.specs.Prelude.{ℕ, ◌≡◌, refl, Bool, true, false, cond, not, ◌&&◌, List, [], ◌∷◌, ◌++◌, leb, ltb, eqb, length}
use Rattle.std.proofs.Common.{ap, ap₂, sym, subst, ◌∙◌, arith}
use Rattle.std.proofs.Math.Path.{fun_ext}
use Rattle.std.proofs.Math.Option.{Option, none, some}
use Rattle.order.specs.TestLaws.{true-not-false}
use Rattle.order.specs.Order.{upto, keep}
use Rattle.squares.specs.declared.shape.Shape.{Shape}
use Rattle.squares.specs.declared.shape.Rect.{Rect}
use Rattle.squares.specs.Shape.{allowed}
use Rattle.squares.specs.Refusals.{first}
use Rattle.position.specs.declared.Position.{Position}
use Rattle.position.specs.Answer.{on_town}
use Rattle.model.specs.Model.{Car, Town, nowhere, there, holds_spot, holds_car, roster, zones_at, zones_of, zones_entered, zones_left, teamed}
use Rattle.model.specs.declared.opening.Opening.{Opening}
use Rattle.line.specs.declared.records.Record.{Record}
use Rattle.line.specs.declared.records.Record.TheVariants.{Bad, Open, Add, Remove, Report, Leave, Search, Roster}
use Rattle.line.specs.Grammar.{meaning}
use Rattle.line.specs.Lines.{lines}
use Rattle.season.specs.Output.{position_of, opening_of, call_of, line_of, town_after}
use Rattle.season.specs.Season.{Told, told, accepted, last_word, shape_says, zone_says, car_says, last_open, last_add, last_report, car_by, in_zone, car_in, cars_in, zones_over, entered, left, left_behind, report_refusal}
use Rattle.season.specs.OutputLaws.{bare, tells, told-tells}
use Rattle.season.specs.ReplyLaws.{accepting, changed, moves, Proper, proper-next, report_bar}

-- ---- the town that words say

-- the opening of a shape; before any, the one of no town
abbrev pub opening_by : Option Shape → Opening
opening_by none = nowhere.opening
opening_by (some s) = opening_of s.k s.P s.Q

module _ (shape : Option Shape) (zone : ℕ → Option Rect) (car : ℕ → Option Position) where
  abbrev with_cars : (ℕ → Option Car) → Town
  with_cars cars = record { opening = opening_by shape; zone = zone; car = cars }

  abbrev saying : Town
  saying = with_cars (λ (c : ℕ). car_by (car c))

  -- the words after lines
  abbrev said_after : List Told → Town
  said_after ts = record { opening = opening_by (last_word shape_says shape ts); zone = λ (z : ℕ). last_word (zone_says z) (zone z) ts; car = λ (c : ℕ). car_by (last_word (car_says c) (car c) ts) }

  -- the words after one record, accepted or not
  abbrev said_by : Bool → Record → Town
  said_by b r = record { opening = opening_by (cond b (shape_says r shape) shape); zone = λ (z : ℕ). cond b (zone_says z r (zone z)) (zone z); car = λ (c : ℕ). car_by (cond b (car_says c r (car c)) (car c)) }

  -- one car's word changes
  one-car : (c : ℕ) (new : Option Position) → with_cars (λ (d : ℕ). cond (eqb d c) (car_by new) (car_by (car d))) ≡ with_cars (λ (d : ℕ). car_by (cond (eqb d c) new (car d)))
  one-car c new = ap with_cars (fun_ext (λ d. go (eqb d c) (car d)))
    where
      go : (t : Bool) (old : Option Position) → cond t (car_by new) (car_by old) ≡ car_by (cond t new old)
      go true old = refl
      go false old = refl

  says : (r : Record) → changed saying (call_of r) ≡ said_by true r
  says Bad = refl
  says (Open k P Q) = refl
  says (Add z a b w h) = refl
  says (Remove z) = refl
  says (Report c x y) = one-car c (some (position_of x y))
  says (Leave c) = one-car c none
  says (Search x y) = refl
  says (Roster z) = refl

  says-next : (r : Record) → town_after saying (call_of r) ≡ said_by (accepting (bare saying (call_of r))) r
  says-next r = moves saying (call_of r) ∙ go (accepting (bare saying (call_of r)))
    where
      go : (b : Bool) → cond b (changed saying (call_of r)) saying ≡ said_by b r
      go true = says r
      go false = refl

-- ---- along the lines

-- a line's answer is that of a town
pub record Here (m : Town) (l : Told) : Type 0 where
  pub is : l.answer ≡ bare m (line_of l.line)
  pub proper : Proper m

along : (shape : Option Shape) (zone : ℕ → Option Rect) (car : ℕ → Option Position) (ls : List (List ℕ)) (earlier later : List Told) (l : Told) → Proper (saying shape zone car) → tells (saying shape zone car) ls ≡ earlier ++ (l ∷ later) → Here (said_after shape zone car earlier) l
unfolding last_word
along shape zone car [] [] later l h e = absurd (omega (arith, ap length e))
along shape zone car (b ∷ ls) [] later l h e =
    let m = saying shape zone car in
    let one : record { line = b; answer = bare m (line_of b) } ≡ l = cc in
    subst (Here m) one (record { is = refl; proper = h })
along shape zone car [] (t ∷ earlier) later l h e = absurd (omega (arith, ap length e))
along shape zone car (b ∷ ls) (t ∷ earlier) later l h e =
    let m = saying shape zone car in
    let r = meaning b in
    let a = accepting (bare m (line_of b)) in
    let one : record { line = b; answer = bare m (line_of b) } ≡ t = cc in
    let rest : tells (town_after m (line_of b)) ls ≡ earlier ++ (l ∷ later) = cc in
    let next = says-next shape zone car r in
    subst (λ (u : Told). Here (said_after shape zone car (u ∷ earlier)) l) one
    (along (cond a (shape_says r shape) shape) (λ (z : ℕ). cond a (zone_says z r (zone z)) (zone z)) (λ (c : ℕ). cond a (car_says c r (car c)) (car c)) ls earlier later l
    (subst Proper next (proper-next m h (line_of b)))
    (ap (λ (n : Town). tells n ls) (sym next) ∙ rest))

-- the town that lines and their answers say
abbrev pub town_said : List Told → Town
town_said ts = said_after none (λ (z : ℕ). none) (λ (c : ℕ). none) ts

pub here : (input : List ℕ) (earlier later : List Told) (l : Told) → told input ≡ earlier ++ (l ∷ later) → Here (town_said earlier) l
here input earlier later l e = along none (λ (z : ℕ). none) (λ (c : ℕ). none) (lines input) earlier later l (λ z k. absurd (true-not-false false k refl)) (sym (told-tells input) ∙ e)

module _ {m : Town} {l : Told} (h : Here m l) {r : Record} (e : meaning l.line ≡ r) where
  pub answers-so : l.answer ≡ bare m (call_of r)
  answers-so = h.is ∙ ap (λ (r : Record). bare m (call_of r)) e

  pub accepts-so : accepted l ≡ true → accepting (bare m (call_of r)) ≡ true
  accepts-so a = sym (ap accepting answers-so) ∙ a

-- ---- one line more

word_more : {A : Type 0} (f : Record → A → A) (w : A) (ts : List Told) (t : Told) → last_word f w (ts ++ (t ∷ [])) ≡ cond (accepted t) (f (meaning t.line) (last_word f w ts)) (last_word f w ts)
unfolding last_word
word_more f w [] t = refl
word_more f w (u ∷ ts) t = word_more f (cond (accepted u) (f (meaning u.line) w) w) ts t

module _ (ts : List Told) (t : Told) {r : Record} (a : accepted t ≡ true) (e : meaning t.line ≡ r) where
  more : {A : Type 0} (f : Record → A → A) (w : A) → last_word f w (ts ++ (t ∷ [])) ≡ f r (last_word f w ts)
  more f w = word_more f w ts t ∙ rw (a, e)

  pub open_more : last_open (ts ++ (t ∷ [])) ≡ shape_says r (last_open ts)
  open_more = more shape_says none

  -- an accepted line changes the town as its record says
  pub town-more : town_said (ts ++ (t ∷ [])) ≡ changed (town_said ts) (call_of r)
  town-more =
      ap (λ (shape : Option Shape). saying shape (λ (z : ℕ). last_add z (ts ++ (t ∷ []))) (λ (c : ℕ). last_report c (ts ++ (t ∷ [])))) open_more
      ∙ ap₂ (saying (shape_says r (last_open ts))) (fun_ext (λ z. more (zone_says z) none)) (fun_ext (λ c. more (car_says c) none))
      ∙ sym (says (last_open ts) (λ (z : ℕ). last_add z ts) (λ (c : ℕ). last_report c ts) r)

-- ---- what the town gives, counted by hand

-- no town is open before an accepted M
pub opened : (shape : Option Shape) → allowed (opening_by shape).shape ≡ true → (s : Shape) × (shape ≡ some s)
opened none e = absurd (true-not-false false e refl)
opened (some s) e = (s, refl)

pub few-cars : (shape : Option Shape) → leb (opening_by shape).cars 64 ≡ true
few-cars none = refl
few-cars (some s) = refl

pub few-zones : (shape : Option Shape) → leb (opening_by shape).zones 16 ≡ true
few-zones none = refl
few-zones (some s) = refl

-- each car has team 0
pub own-team : (w : Option Position) → teamed (car_by w) 0 ≡ true
own-team none = refl
own-team (some p) = refl

-- so what refuses a report is what the lines say
pub refusal-said : (ts : List Told) (c : ℕ) (p : Position) → report_bar (town_said ts) c p ≡ report_refusal ts c p
unfolding first
refusal-said ts c p = go (last_open ts)
  where
    go : (shape : Option Shape) → first ((allowed (opening_by shape).shape, 3) ∷ (ltb c (opening_by shape).cars, 5) ∷ (on_town (opening_by shape).shape p, 10) ∷ []) ≡ first ((there shape allowed, 3) ∷ (ltb c 64, 5) ∷ (there shape (λ (s : Shape). on_town s p), 10) ∷ [])
    go none = refl
    go (some s) = refl

-- the same test of as many numbers
same : {f g : ℕ → Bool} {n most : ℕ} → n ≡ most → ((x : ℕ) → f x ≡ g x) → keep f (upto n) ≡ keep g (upto most)
same many h = ap₂ (λ (f : ℕ → Bool) (n : ℕ). keep f (upto n)) (fun_ext h) many

-- a test of where a car is
placed : (w : Option Position) (test : Position → Bool) → there (car_by w) (λ (a : Car). test a.position) ≡ there w test
placed none test = refl
placed (some p) test = refl

module _ (ts : List Told) {s : Shape} (e : last_open ts ≡ some s) where
  spot : (z : ℕ) (p : Position) → holds_spot (town_said ts) z p ≡ in_zone ts z p
  spot z p = rw e

  car : (z c : ℕ) → holds_car (town_said ts) z c ≡ car_in ts z c
  car z c = placed (last_report c ts) (holds_spot (town_said ts) z) ∙ ap (there (last_report c ts)) (fun_ext (spot z))

  zones : (opening_by (last_open ts)).zones ≡ 16
  zones = rw e

  pub shape-said : (town_said ts).opening.shape ≡ s
  shape-said = rw e

  pub cars-said : (z : ℕ) → roster (town_said ts) z ≡ cars_in ts z
  cars-said z = same (rw e) (car z)

  pub over-said : (p : Position) → zones_at (town_said ts) p ≡ zones_over ts p
  over-said p = same zones (λ z. spot z p)

  pub entered-said : (c : ℕ) (p : Position) → zones_entered (town_said ts) c p ≡ entered ts c p
  entered-said c p = same zones (λ z. ap₂ (λ (a b : Bool). a && not b) (spot z p) (car z c))

  pub left-said : (c : ℕ) (p : Position) → zones_left (town_said ts) c p ≡ left ts c p
  left-said c p = same zones (λ z. ap₂ (λ (a b : Bool). a && not b) (car z c) (spot z p))

  pub behind-said : (c : ℕ) → zones_of (town_said ts) c ≡ left_behind ts c
  behind-said c = same zones (λ z. car z c)
