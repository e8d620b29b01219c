-- Laws of the promise, each once, whatever the call: how it is kept, that it allows one outcome, and that there is one.
use Rattle.std.specs.Prelude.{ℕ, zero, suc, ◌≡◌, refl, ◌⊎◌, Bool, true, false, List, [], ◌∷◌}
use Rattle.std.proofs.Common.{ap, sym, subst, ◌∙◌, inl, inr, arith}
use Rattle.std.specs.declared.result.Result.{Result as Told}
use Rattle.std.specs.declared.result.Result.TheVariants.{Ok, Err}
use Rattle.squares.specs.declared.refusal.Refusal.{Refusal}
use Rattle.squares.specs.Refusals.{number_of, refused_by, Bar, unless, first, Answer, refuse, accept, Result, refusing, giving, result}
use Rattle.squares.specs.RefusalLaws.{some-number, refused-by, by-refusal, before, past}
use Rattle.model.specs.Answers.{Values}
use Rattle.model.specs.Model.{Call, Event, change_of, change_by, change, Gap, shut, gap, verdict, refusal, refused, outcome}
use Rattle.model.specs.ModelLaws.{checks-numbered, steady}
use Rattle.tables.specs.Tables.{Tables, town_of}
use Rattle.tables.specs.Sound.{Sound}
use Rattle.tables.specs.Lent.{both}
use Rattle.tables.specs.Steps.{step}
use Rattle.promises.specs.Promise.{lengths_in, means, bars, Trusts, Named, Keeps}

-- the number that refuses a call on the tables; its outcome there
abbrev pub refuser : Tables → Call → ℕ
refuser t call = refusal (lengths_in t) (town_of t) call

abbrev pub outcome_in : Tables → Bool → Call → Event
outcome_in t sound call = outcome (lengths_in t) sound (town_of t) call

not-both : (n : ℕ) (v : Values) → ◌≡◌ {A = Answer Values} (accept v) (refuse n) → ⊥
not-both n v e = let z : ◌≡◌ {A = ℕ} 0 1 = cc in omega arith

by_number : {A : Type 0} (n : ℕ) (w : List (List ℕ × List ℕ)) (v : A) → (n ≡ 0 → ⊥) → result n w v ≡ refusing n w
by_number zero w v f = absurd (f refl)
by_number (suc n) w v f = refl

module _ (t : Tables) (call : Call) where
  -- barred: refused by that number
  barred-by : (bars t call ≡ 0 → ⊥) → refuser t call ≡ bars t call
  barred-by f = before (means t call).checks (means t call).late f

  -- not barred: refused by a late number, or by none
  late_by : bars t call ≡ 0 → refuser t call ≡ first (means t call).late
  late_by z = past (means t call).checks (means t call).late (checks-numbered (lengths_in t) (town_of t) call) z

  -- refused by no number: by none of either
  pub accepted→ : refuser t call ≡ 0 → (bars t call ≡ 0) × (first (means t call).late ≡ 0)
  accepted→ e = by-refusal (bars t call) (λ z. (z, sym (late_by z) ∙ e)) (λ f. absurd (f (sym (barred-by f) ∙ e)))

  abbrev event-of : Result Values → Event
  event-of r = record { call = call; result = r }

  refused-out : (sound : Bool) → (bars t call ≡ 0 → ⊥) → outcome_in t sound call ≡ refused (lengths_in t) (town_of t) call (bars t call)
  refused-out sound f =
      ap (λ (n : ℕ). event-of (result n (means t call).writes ((means t call).gives sound))) (barred-by f)
      ∙ ap event-of (by_number (bars t call) (means t call).writes ((means t call).gives sound) f)

  settled-out : (sound : Bool) (n : ℕ) → bars t call ≡ 0 → first (means t call).late ≡ n → outcome_in t sound call ≡ event-of (result n (means t call).writes ((means t call).gives sound))
  settled-out sound n z e = ap (λ (k : ℕ). event-of (result k (means t call).writes ((means t call).gives sound))) (late_by z ∙ e)

-- ---- kept

module _ (t : Tables) (call : Call) (left : Result Values) where
  abbrev e : Event
  e = record { call = call; result = left }

  -- barred by a number
  pub keeps-refused : (n : ℕ) → (n ≡ 0 → ⊥) → n ≡ bars t call → left ≡ refusing n (means t call).writes → Keeps (both t t) e
  keeps-refused n f q w = record {
    refuses = λ g. (ap (event-of t call) (w ∙ ap (λ (k : ℕ). refusing k (means t call).writes) q), refl);
    passes = λ g. absurd (f (q ∙ g));
    does = λ g. absurd (f (q ∙ g));
  }

  -- barred by what answers a refusal
  pub keeps-by : {A : Type 0} {answer : Told A Refusal} {r : Refusal} → refused_by answer ≡ bars t call → answer ≡ Err r → left ≡ refusing (number_of r) (means t call).writes → Keeps (both t t) e
  keeps-by {r = r} h q w = keeps-refused (number_of r) (some-number r) (refused-by h q) w

  -- refused by a late number
  pub keeps-late : (n : ℕ) → bars t call ≡ 0 → Named (suc n) (means t call).late → left ≡ refusing (suc n) (means t call).writes → ((sound : Bool) → Trusts (means t call).trusts sound t → first (means t call).late ≡ suc n) → Keeps (both t t) e
  keeps-late n z named w h = record {
    refuses = λ g. absurd (g z);
    passes = λ g k a. let same : suc n ≡ k = cc in (subst (λ (i : ℕ). Named i (means t call).late) same named, ap (event-of t call) (w ∙ ap (λ (i : ℕ). refusing i (means t call).writes) same), refl);
    does = λ g sound trust. (ap (event-of t call) w ∙ sym (settled-out t call sound (suc n) z (h sound trust)), sym (ap (λ (a : Answer Values). step (change_by a (change_of call)) t) (ap (λ (r : Result Values). r.answer) w)));
  }

  -- accepted
  pub keeps-done : (t' : Tables) (v : Values) → bars t call ≡ 0 → left.answer ≡ accept v → ((sound : Bool) → Trusts (means t call).trusts sound t → (first (means t call).late ≡ 0) × ((left ≡ giving (means t call).writes ((means t call).gives sound)) × (t' ≡ step (change_of call) t))) → Keeps (both t t') e
  keeps-done t' v z a h = record {
    refuses = λ g. absurd (g z);
    passes = λ g n b. absurd (not-both n v (sym a ∙ b));
    does = λ g sound trust.
        let d = h sound trust in
        (ap (event-of t call) d.1.0 ∙ sym (settled-out t call sound 0 z d.0), d.1.1 ∙ sym (ap (λ (b : Answer Values). step (change_by b (change_of call)) t) a));
  }

-- an accepted call is not barred
pub keeps-clear : {t t' : Tables} (e : Event) (v : Values) → Keeps (both t t') e → e.result.answer ≡ accept v → bars t e.call ≡ 0
keeps-clear {t} e v k a = by-refusal (bars t e.call) (λ z. z) (λ f. absurd (not-both (bars t e.call) v (sym a ∙ ap (λ (x : Event). x.result.answer) (k.refuses f).0)))

-- ---- one outcome

module _ (sound : Bool) {t t' : Tables} {e : Event} (k : Keeps (both t t') e) (trust : bars t e.call ≡ 0 → Trusts (means t e.call).trusts sound t) where
  pub keeps-told : (e ≡ outcome_in t sound e.call) × (t' ≡ step (change e) t)
  keeps-told = by-refusal (bars t e.call)
      (λ z. k.does z sound (trust z))
      (λ f.
      let d = k.refuses f in
      (d.0 ∙ sym (refused-out t e.call sound f), d.1 ∙ sym (ap (λ (x : Event). step (change x) t) d.0)))

pub keeps-unique : (sound : Bool) {t u v : Tables} {e f : Event} → Keeps (both t u) e → Keeps (both t v) f → e.call ≡ f.call → (bars t e.call ≡ 0 → Trusts (means t e.call).trusts sound t) → (e ≡ f) × (u ≡ v)
keeps-unique sound {t} {u} {v} {e} {f} k l q trust =
    let a = keeps-told sound k trust in
    let b = keeps-told sound l (subst (λ (c : Call). bars t c ≡ 0 → Trusts (means t c).trusts sound t) q trust) in
    let same : e ≡ f = a.0 ∙ ap (outcome_in t sound) q ∙ sym b.0 in
    (same, a.1 ∙ ap (λ (x : Event). step (change x) t) same ∙ sym b.1)

-- on sound tables every outcome is set
pub trusts-sound : (g : Gap) {t : Tables} → Sound t → Trusts g true t
trusts-sound shut h = tt
trusts-sound gap h = h
trusts-sound verdict h = h

-- ---- and there is one

-- the first test that fails names its number
named_by : (b : Bool) (x n rest : ℕ) (l : List Bar) → unless b x rest ≡ suc n → (rest ≡ suc n → Named (suc n) l) → (suc n ≡ x) ⊎ Named (suc n) l
named_by true x n rest l e f = inr (f e)
named_by false x n rest l e f = inl (sym e)

named-first : (l : List Bar) (n : ℕ) → first l ≡ suc n → Named (suc n) l
unfolding first
named-first [] n e = omega arith
named-first (x ∷ l) n e = named_by x.0 x.1 n (first l) l e (named-first l n)

module _ (t : Tables) (h : Sound t) (call : Call) where
  -- what the trust says of the answer: it is the one of sound tables
  same_gives : (sound : Bool) → Trusts (means t call).trusts sound t → (means t call).gives true ≡ (means t call).gives sound
  same_gives true trust = refl
  same_gives false trust = steady (lengths_in t) (town_of t) call (λ (e : (means t call).trusts ≡ verdict). subst (λ (g : Gap). Trusts g false t) e trust h)

  pub some-kept : (t' : Tables) × Keeps (both t t') (outcome_in t true call)
  some-kept = by-refusal (bars t call) passing (λ f. (t, subst (λ (x : Event). Keeps (both t t) x) (sym (refused-out t call true f)) (keeps-refused t call (refusing (bars t call) (means t call).writes) (bars t call) f refl refl)))
    where
      passing : bars t call ≡ 0 → (t' : Tables) × Keeps (both t t') (outcome_in t true call)
      passing z = go (first (means t call).late) refl
        where
          go : (n : ℕ) → first (means t call).late ≡ n → (t' : Tables) × Keeps (both t t') (outcome_in t true call)
          go zero q = (step (change_of call) t, subst (λ (x : Event). Keeps (both t (step (change_of call) t)) x) (sym (settled-out t call true 0 z q)) (keeps-done t call (giving (means t call).writes ((means t call).gives true)) (step (change_of call) t) ((means t call).gives true) z refl (λ sound trust. (q, (ap (giving (means t call).writes) (same_gives sound trust), refl)))))
          go (suc n) q = (t, subst (λ (x : Event). Keeps (both t t) x) (sym (settled-out t call true (suc n) z q)) (keeps-late t call (refusing (suc n) (means t call).writes) n z (named-first (means t call).late n q) refl (λ sound trust. q)))
