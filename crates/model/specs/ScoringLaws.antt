-- Laws of the levels looked at: with which level they end, and that a position scores exactly where a square of its cell is in a cut.
use Prim.Native.Nat.{ℕ, zero, suc, ◌+◌, ◌-◌, ◌<◌, ◌≤◌}
use Rattle.std.specs.Prelude.{◌≡◌, Bool, true, false, ◌||◌}
use Rattle.std.proofs.Math.Path.{refl, ap}
use Rattle.std.proofs.Common.{sym, ◌∙◌, lt-ltb, ltb-true}
use Rattle.std.proofs.Math.Logic.{⊎_elim}
use Rattle.std.proofs.Math.Bool.{cond}
use mathlib.Core.List.{Memᴰ}
use Rattle.std.proofs.Math.Option.{Option, none, some}
use native.Mathlib.Omega.{arith}
use Rattle.order.specs.Order.{upto, keep}
use Rattle.order.specs.KeepLaws.{keep_some, some-kept}
use Rattle.order.specs.TestLaws.{lt-or-le, true-or-false, true-not-false, both_ways}
use Rattle.squares.specs.declared.shape.Shape.{Shape}
use Rattle.squares.specs.declared.shape.Rect.{Rect}
use Rattle.squares.specs.Shape.{holds}
use Rattle.squares.specs.Bounds.{Allowed}
use Rattle.squares.specs.Squares.{number}
use Rattle.cuts.specs.Cut.{in_cut}
use Rattle.cuts.specs.CutLaws.{one-level, level_holds}
use Rattle.position.specs.declared.Position.{Position}
use Rattle.position.specs.Answer.{column_of, row_of}
use Rattle.position.specs.Laws.{column-below}
use Rattle.model.specs.Model.{Town, there, zones_at, zones_on, filled, climb}

-- ---- marks on the levels

-- one of the levels from i to 0 has a mark
unfoldable pub some_to : (ℕ → Bool) → ℕ → Bool
some_to marked zero = marked 0
some_to marked (suc i) = marked (suc i) || some_to marked i

-- the same marks
pub climb-ext : (f g : ℕ → Bool) (n : ℕ) → ((i : ℕ) → i ≤ n → f i ≡ g i) → (climb f n ≡ climb g n) × (some_to f n ≡ some_to g n)
unfolding climb some_to
climb-ext f g zero h = (refl, h 0 (omega arith))
climb-ext f g (suc n) h = let below = climb-ext f g n (λ i l. h i (omega arith)) in (rw (h (suc n) (omega arith), below.0), rw (h (suc n) (omega arith), below.1))

-- the level with which they end: the first from n on that has a mark
pub record Ends (marked : ℕ → Bool) (n : ℕ) : Type 0 where
  pub level : ℕ
  pub there : level ≤ n
  pub mark : marked level ≡ true
  pub first : (j : ℕ) → level < j → j ≤ n → marked j ≡ false
  pub count : climb marked n ≡ n - level + 1

module _ (marked : ℕ → Bool) where
  -- a level that has a mark is the last, one that has none is followed by the next
  pub climb-here : (i : ℕ) → marked i ≡ true → (some_to marked i ≡ true) × (climb marked i ≡ 1)
  unfolding climb some_to
  climb-here zero e = (e, refl)
  climb-here (suc i) e = (ap (λ (t : Bool). t || some_to marked i) e, ap (λ (t : Bool). cond t 1 (1 + climb marked i)) e)

  pub climb-on : (i : ℕ) → marked (suc i) ≡ false → (some_to marked (suc i) ≡ some_to marked i) × (climb marked (suc i) ≡ 1 + climb marked i)
  unfolding climb some_to
  climb-on i e = (ap (λ (t : Bool). t || some_to marked i) e, ap (λ (t : Bool). cond t 1 (1 + climb marked i)) e)

  pub climb-few : (n : ℕ) → climb marked n ≤ n + 1
  unfolding climb
  climb-few zero = omega arith
  climb-few (suc n) = ⊎_elim (λ e. omega (arith, (climb-here (suc n) e).1)) (λ e. omega (arith, (climb-on n e).1, climb-few n)) (true-or-false (marked (suc n)))

  some_level : (n i : ℕ) → i ≤ n → marked i ≡ true → some_to marked n ≡ true
  some_level zero i h e = let z : i ≡ 0 = omega arith in (climb-here 0 (ap marked (sym z) ∙ e)).0
  some_level (suc n) i h e = ⊎_elim
      (λ q. (climb-here (suc n) q).0)
      (λ (q : marked (suc n) ≡ false). (climb-on n q).0 ∙ ⊎_elim
      (λ (l : i < suc n). some_level n i (omega arith) e)
      (λ (l : suc n ≤ i). let z : i ≡ suc n = omega arith in absurd (true-not-false (marked (suc n)) (ap marked (sym z) ∙ e) q))
      (lt-or-le i (suc n)))
      (true-or-false (marked (suc n)))

  pub climb-ends : (n : ℕ) → some_to marked n ≡ true → Ends marked n
  unfolding climb some_to
  climb-ends zero e = record { level = 0; there = omega arith; mark = e; first = λ j l h. absurd (omega arith); count = refl }
  climb-ends (suc n) e = ⊎_elim
      (λ q. record { level = suc n; there = omega arith; mark = q; first = λ j l h. absurd (omega arith); count = omega (arith, (climb-here (suc n) q).1) })
      (λ (q : marked (suc n) ≡ false).
      let on = climb-on n q in
      let a = climb-ends n (sym on.0 ∙ e) in
      record {
        level = a.level;
        there = omega (arith, a.there);
        mark = a.mark;
        first = λ j l h. ⊎_elim (λ (b : j < suc n). a.first j l (omega arith)) (λ (b : suc n ≤ j). let z : j ≡ suc n = omega arith in ap marked z ∙ q) (lt-or-le j (suc n));
        count = omega (arith, on.1, a.count, a.there);
      })
      (true-or-false (marked (suc n)))

  -- all, where none has a mark
  pub climb-all : (n : ℕ) → some_to marked n ≡ false → climb marked n ≡ n + 1
  unfolding climb
  climb-all zero e = refl
  climb-all (suc n) e = ⊎_elim (λ q. absurd (true-not-false _ (climb-here (suc n) q).0 e)) (λ q. let on = climb-on n q in omega (arith, on.1, climb-all n (sym on.0 ∙ e))) (true-or-false (marked (suc n)))

-- ---- a position

-- what passes a test is there
there→ : {A : Type 0} (o : Option A) (test : A → Bool) → there o test ≡ true → (a : A) × (o ≡ some a) × (test a ≡ true)
there→ none test e = absurd (true-not-false false e refl)
there→ (some a) test e = (a, refl, e)

module _ (m : Town) (p : Position) (allowed : Allowed m.opening.shape) where
  abbrev s : Shape
  s = m.opening.shape

  abbrev x : ℕ
  x = column_of s p

  abbrev y : ℕ
  y = row_of s p

  abbrev marked : ℕ → Bool
  marked i = filled (zones_on m p i)

  -- the zone holds the position; its cut has the position's square on level i
  abbrev in_zone : Rect → Bool
  in_zone r = holds r x y

  abbrev on_level : ℕ → Rect → Bool
  on_level i r = in_cut s r i (number s i x y)

  -- a zone whose rectangle passes a test is one of those that do, and one of those is such a zone
  zone-in : (test : Rect → Bool) (z : ℕ) (r : Rect) → Memᴰ z (upto m.opening.zones) → m.zone z ≡ some r → test r ≡ true → filled (keep (λ (n : ℕ). there (m.zone n) test) (upto m.opening.zones)) ≡ true
  zone-in test z r h e q = lt-ltb 0 _ (keep_some (λ (n : ℕ). there (m.zone n) test) (upto m.opening.zones) z h (ap (λ (o : Option Rect). there o test) e ∙ q))

  in-zone : (test : Rect → Bool) → filled (keep (λ (n : ℕ). there (m.zone n) test) (upto m.opening.zones)) ≡ true → (z : ℕ) × Memᴰ z (upto m.opening.zones) × (r : Rect) × (m.zone z ≡ some r) × (test r ≡ true)
  in-zone test e =
      let a = some-kept (λ (n : ℕ). there (m.zone n) test) (upto m.opening.zones) (ltb-true 0 _ e) in
      let b = there→ (m.zone a.0) test a.2 in
      (a.0, a.1, b.0, b.1, b.2)

  -- a zone holds the position exactly where a square of its cell is in the zone's cut, on one of the levels
  pub scores-somewhere : filled (zones_at m p) ≡ some_to marked s.k
  scores-somewhere = both_ways (filled (zones_at m p)) (some_to marked s.k)
      (λ (e : filled (zones_at m p) ≡ true).
      let a = in-zone in_zone e in
      let l = one-level s a.2 x y (column-below s p allowed) a.4 in
      some_level marked s.k l.level l.there (zone-in (on_level l.level) a.0 a.2 a.1 a.3 l.taken))
      (λ (e : some_to marked s.k ≡ true).
      let l = climb-ends marked s.k e in
      let a = in-zone (on_level l.level) l.mark in
      zone-in in_zone a.0 a.2 a.1 a.3 (level_holds s a.2 l.level x y l.there (column-below s p allowed) a.4))
