-- Laws of the team that leads: it is the one with strictly more cars than each other, and there is none just if each is matched.
-- And of a zone's counts by team, which add up to its cars.
use Rattle.std.specs.Prelude.{ℕ, ◌+◌, ◌<◌, ◌≤◌, ◌≡◌, refl, Bool, true, false, cond, not, ◌&&◌, leb, eqb, length, get_or}
use Rattle.std.proofs.Common.{ap, sym, ◌∙◌, arith}
use Rattle.std.proofs.Math.Logic.{⊎_elim}
use mathlib.Core.List.Memᴰ
use mathlib.Core.List.{List, [], ◌∷◌, Memᴰ}
use Rattle.std.proofs.Math.Option.{Option, none, some}
use borrow.Author.Tests.{eqb-true, eqb-false, eq-eqb, ne_eqb, le-leb, leb-true, not-true}
use Rattle.order.specs.Order.{keep, upto}
use Rattle.order.specs.Sums.{sum, bit}
use Rattle.order.specs.TestLaws.{lt-or-le, same-or-other, true-or-false, true-not-false, and→, fails}
use Rattle.order.specs.KeepLaws.{span→, →span, keep→, →keep, keep-ext}
use Rattle.order.specs.SumLaws.{sum-ext, sum-none, sum-only, sum-plus}
use Rattle.model.specs.Teams.{last_team, rivals, leads, lead}
use Rattle.model.specs.Model.{Car, Town, there, holds_spot, holds_car, roster, drives_for, squad, teamed}

-- a team that can lead
abbrev pub Rival : ℕ → Type 0
Rival g = (1 ≤ g) × (g ≤ last_team)

-- with n g cars for each team g: g has strictly more than each other; another has as many as g, or more
abbrev pub Ahead : (ℕ → ℕ) → ℕ → Type 0
Ahead n g = (h : ℕ) → Rival h → (h ≡ g → ⊥) → n h < n g

abbrev pub Matched : (ℕ → ℕ) → ℕ → Type 0
Matched n g = (h : ℕ) × Rival h × (h ≡ g → ⊥) × (n g ≤ n h)

-- ---- lists

-- a list whose members are all one
first_one : (l : List ℕ) (x : ℕ) → Memᴰ x l → ((y : ℕ) → Memᴰ y l → y ≡ x) → get_or l 0 0 ≡ x
first_one [] x m f = absurd (Memᴰ.not-nil m)
first_one (y ∷ l) x m f = f y (Memᴰ.head refl)

-- the first of a list is in it, unless it is 0
first→ : (l : List ℕ) → (get_or l 0 0 ≡ 0 → ⊥) → Memᴰ (get_or l 0 0) l
first→ [] f = absurd (f refl)
first→ (y ∷ l) f = Memᴰ.head refl

-- a list that has a length has a member, and the other way round
some_in : (l : List ℕ) → (length l ≡ 0 → ⊥) → (x : ℕ) × Memᴰ x l
some_in [] f = absurd (f refl)
some_in (y ∷ l) f = (y, Memᴰ.head refl)

some-not-none : (l : List ℕ) (x : ℕ) → Memᴰ x l → length l ≡ 0 → ⊥
some-not-none [] x m e = Memᴰ.not-nil m
some-not-none (y ∷ l) x m e = omega arith

rival→ : (g : ℕ) → Memᴰ g rivals → Rival g
rival→ g m = let s = span→ 1 last_team g m in (omega arith, omega arith)

→rival : (g : ℕ) → Rival g → Memᴰ g rivals
→rival g r = →span 1 last_team g r.0 (omega arith)

module _ (n : ℕ → ℕ) where
  -- ---- the test and what it says

  -- another team has as many as g, or more
  abbrev matches : ℕ → ℕ → Bool
  matches g h = not (eqb h g) && leb (n g) (n h)

  leads-matched : (g : ℕ) → leads n g ≡ false → Matched n g
  unfolding leads
  leads-matched g e =
      let x = some_in (keep (matches g) rivals) (eqb-false _ 0 e) in
      let k = keep→ (matches g) rivals x.0 x.1 in
      let t = and→ _ _ k.1 in
      (x.0, rival→ x.0 k.0, eqb-false _ _ (not-true _ t.0), leb-true _ _ t.1)

  leads-ahead : (g : ℕ) → leads n g ≡ true → Ahead n g
  unfolding leads
  leads-ahead g e h r f = ⊎_elim
      (λ (l : n h < n g). l)
      (λ (l : n g ≤ n h). absurd (some-not-none (keep (matches g) rivals) h (→keep (matches g) rivals h (→rival h r) (rw (ne_eqb h g f) (le-leb _ _ l))) (eqb-true _ 0 e)))
      (lt-or-le (n h) (n g))

  ahead-leads : (g : ℕ) → Ahead n g → leads n g ≡ true
  ahead-leads g f = ⊎_elim
      (λ (e : leads n g ≡ true). e)
      (λ (e : leads n g ≡ false). let m = leads-matched g e in absurd (omega (arith, f m.0 m.1 m.2)))
      (true-or-false (leads n g))

  -- ---- the team that leads

  -- the one that has strictly more than each other
  pub lead_is : (g : ℕ) → Rival g → Ahead n g → lead n ≡ g
  unfolding lead
  lead_is g r f = first_one (keep (leads n) rivals) g (→keep (leads n) rivals g (→rival g r) (ahead-leads g f)) only
    where
      only : (h : ℕ) → Memᴰ h (keep (leads n) rivals) → h ≡ g
      only h m = let k = keep→ (leads n) rivals h m in ⊎_elim
          (λ (e : h ≡ g). e)
          (λ (o : h ≡ g → ⊥). absurd (omega (arith, f h (rival→ h k.0) o, leads-ahead h k.1 g r (λ (e : g ≡ h). o (sym e)))))
          (same-or-other h g)

  pub lead→ : (lead n ≡ 0 → ⊥) → Rival (lead n) × Ahead n (lead n)
  unfolding lead
  lead→ f = let k = keep→ (leads n) rivals (lead n) (first→ (keep (leads n) rivals) f) in (rival→ (lead n) k.0, leads-ahead (lead n) k.1)

  -- there is at most one
  pub lead-one : (g h : ℕ) → Rival g → Rival h → Ahead n g → Ahead n h → g ≡ h
  lead-one g h r s a b = sym (lead_is g r a) ∙ lead_is h s b

  pub lead-small : lead n ≤ last_team
  lead-small = ⊎_elim
      (λ (e : lead n ≡ 0). omega arith)
      (λ (f : lead n ≡ 0 → ⊥). (lead→ f).0.1)
      (same-or-other (lead n) 0)

  -- nobody just if each team is matched
  pub lead-none : ((g : ℕ) → Rival g → Matched n g) → lead n ≡ 0
  lead-none f = ⊎_elim
      (λ (e : lead n ≡ 0). e)
      (λ (o : lead n ≡ 0 → ⊥). let l = lead→ o in let m = f (lead n) l.0 in absurd (omega (arith, l.1 m.0 m.1 m.2)))
      (same-or-other (lead n) 0)

  pub none→ : lead n ≡ 0 → (g : ℕ) → Rival g → Matched n g
  none→ e g r = ⊎_elim
      (λ (t : leads n g ≡ true). absurd (omega (arith, lead_is g r (leads-ahead g t))))
      (leads-matched g)
      (true-or-false (leads n g))

  -- two level in front
  pub level-nobody : (g h : ℕ) → Rival g → Rival h → (g ≡ h → ⊥) → n g ≡ n h → ((i : ℕ) → Rival i → n i ≤ n g) → lead n ≡ 0
  level-nobody g h r s f e top = lead-none (λ i q. ⊎_elim
      (λ (k : i ≡ g). (h, s, (λ (j : h ≡ i). f (sym (j ∙ k))), omega (arith, top i q)))
      (λ (k : i ≡ g → ⊥). (g, r, (λ (j : g ≡ i). k (sym j)), top i q))
      (same-or-other i g))

  -- spectators only
  pub no-team-nobody : ((g : ℕ) → Rival g → n g ≡ 0) → lead n ≡ 0
  no-team-nobody f =
      let z : n 1 ≡ 0 = f 1 (omega arith, omega arith) in
      level-nobody 1 2 (omega arith, omega arith) (omega arith, omega arith) (λ (e : ◌≡◌ {A = ℕ} 1 2). omega arith) (z ∙ sym (f 2 (omega arith, omega arith))) (λ i r. omega (arith, f i r))

-- the counts of the teams that can lead say which one does
pub lead-ext : (n n' : ℕ → ℕ) → ((g : ℕ) → Rival g → n g ≡ n' g) → lead n ≡ lead n'
unfolding lead leads
lead-ext n n' f = ap (λ (l : List ℕ). get_or l 0 0) (keep-ext (leads n) (leads n') rivals (λ g m. ap (λ (l : List ℕ). eqb (length l) 0) (keep-ext (matches n g) (matches n' g) rivals (λ h k. rw (f g (rival→ g m), f h (rival→ h k))))))

-- ---- a zone's counts by team

-- a list each of whose members is of one kind: how many there are of each kind, added up
kinds-sum : (f : ℕ → ℕ → Bool) (n : ℕ) (l : List ℕ) → ((c : ℕ) → Memᴰ c l → (g : ℕ) × (g < n) × ((h : ℕ) → f h c ≡ eqb g h)) → sum (λ (g : ℕ). length (keep (f g) l)) n ≡ length l
unfolding keep
kinds-sum f n [] kind = sum-none (λ (g : ℕ). 0) n (λ g k. refl)
kinds-sum f n (c ∷ l) kind =
    let k = kind c (Memᴰ.head refl) in
    let own = sum-only (λ (g : ℕ). bit (f g c)) n k.0 k.1 (λ h o. rw (k.2 h, ne_eqb k.0 h (λ (e : k.0 ≡ h). o (sym e)))) in
    let one : bit (f k.0 c) ≡ 1 = rw (k.2 k.0, eq-eqb k.0 k.0 refl) in
    sum-ext (λ (g : ℕ). length (keep (f g) (c ∷ l))) (λ (g : ℕ). bit (f g c) + length (keep (f g) l)) n (λ g h. more (f g c) (keep (f g) l)) ∙ omega (arith, sum-plus (λ (g : ℕ). bit (f g c)) (λ (g : ℕ). length (keep (f g) l)) n, own, one, kinds-sum f n l (λ d m. kind d (Memᴰ.tail m)))
  where
    more : (t : Bool) (k : List ℕ) → length (cond t (c ∷ k) k) ≡ bit t + length k
    more true k = omega arith
    more false k = omega arith

-- each car on the map has one team, so the counts of a zone by team add up to its cars
pub squads-sum : (m : Town) (z : ℕ) → ((c : ℕ) (a : Car) → m.car c ≡ some a → a.team ≤ last_team) → sum (squad m z) (last_team + 1) ≡ length (roster m z)
squads-sum m z teams = kinds-sum (drives_for m) (last_team + 1) (roster m z) (λ c k. kind c (m.car c) refl (keep→ (holds_car m z) (upto m.opening.cars) c k).1)
  where
    kind : (c : ℕ) (o : Option Car) → m.car c ≡ o → there o (λ (a : Car). holds_spot m z a.position) ≡ true → (g : ℕ) × (g < last_team + 1) × ((h : ℕ) → drives_for m h c ≡ eqb g h)
    kind c none e t = absurd (true-not-false false t refl)
    kind c (some a) e t = (a.team, omega (arith, teams c a e), (λ h. rw e))

-- ---- a team that a car may report

pub teamed-few : (o : Option Car) (g : ℕ) → teamed o g ≡ true → g ≤ last_team
teamed-few none g e = leb-true g last_team e
teamed-few (some a) g e = leb-true g last_team (and→ (leb g last_team) (eqb g a.team) e).0

-- on the map its own
pub teamed-own : (a : Car) (g : ℕ) → teamed (some a) g ≡ true → g ≡ a.team
teamed-own a g e = eqb-true g a.team (and→ (leb g last_team) (eqb g a.team) e).1

-- so a car that has none of the eight may report none
pub teamed-high : (a : Car) (g : ℕ) → last_team < a.team → teamed (some a) g ≡ false
teamed-high a g h = fails (teamed (some a) g) (λ e. omega (arith, teamed-few (some a) g e, teamed-own a g e))
