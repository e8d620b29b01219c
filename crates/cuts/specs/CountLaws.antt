-- A level's squares inside a rectangle are counted by columns and rows, and those of the cut are the ones that have no parent inside.
use Prim.Native.Nat.{ℕ, zero, suc, ◌+◌, ◌-◌, ◌*◌, ◌/◌, ◌^◌, ◌<◌, ◌≤◌}
use Rattle.std.specs.Prelude.{◌≡◌, refl, Bool, true, false, not, ◌&&◌, List, [], ◌∷◌, leb, ltb, length, get_or, take, set}
use Rattle.std.proofs.Math.Path.{ap, ap₂}
use Rattle.std.proofs.Common.{sym, ◌∙◌, ⊎_elim, add-one, pow-suc, mul_comm, mul_assoc, suc-mul, zero-mul, mul-le-mul, div-lt_iff_lt-mul, le-div_iff_mul-le, lit<, length-take-le, get_or-set_same, get_or-set_other, pow_pos, le-leb, lt-ltb, leb-true, ltb-true}
use native.Mathlib.Omega.{arith}
use Rattle.std.proofs.Math.Nat.{le-pred_of_lt, div-le_of_le-mul}
use Rattle.std.proofs.Math.ListN.{length-append, length-set}
use Rattle.std.proofs.lemmas.Nat.{shr_le}
use Rattle.order.specs.Sums.{sum, bit}
use Rattle.order.specs.TestLaws.{same-or-other, both_ways, true-not-false}
use Rattle.order.specs.SumLaws.{sum-ext, sum-plus, sum-times, sum-grid, count-sum, count-between}
use Rattle.squares.specs.declared.shape.Shape.{Shape}
use Rattle.squares.specs.declared.shape.Rect.{Rect}
use Rattle.squares.specs.Bounds.{Fits}
use Rattle.squares.specs.Squares.{side_on, squares_on, corner_x, corner_y}
use Rattle.cuts.specs.Cut.{inside, in_cut, cut_on, cut_to}
use Rattle.cuts.specs.Count.{wholes, inside_on, inside_above}
use Rattle.squares.specs.SquareLaws.{column, row, blocks}
use Rattle.cuts.specs.GridLaws.{over-level}
use Rattle.squares.specs.Leaves.{Positive, Below}
use Rattle.cuts.specs.Leaves.{AllRoom, PlacesRoom, Placed, Stretch}
use Rattle.cuts.specs.CutLaws.{parent-inside, length-cut-on, count-few}

-- ---- whole steps of d in a stretch

-- the step from x * d on lies in it
abbrev step_in : ℕ → ℕ → ℕ → ℕ → Bool
step_in a w d x = leb a (x * d) && leb (x * d + d) (a + w)

module _ (a w d : ℕ) (pos : 0 < d) where
  first_step : (x : ℕ) → leb a (x * d) ≡ leb ((a + d - 1) / d) x
  first_step x =
      let same = div-lt_iff_lt-mul {k = d} {x = a + d - 1} {y = suc x} pos in
      let next = suc-mul x d in
      both_ways (leb a (x * d)) (leb ((a + d - 1) / d) x)
      (λ (e : leb a (x * d) ≡ true). le-leb ((a + d - 1) / d) x (omega (arith, same.1 (omega (arith, leb-true a (x * d) e)))))
      (λ (e : leb ((a + d - 1) / d) x ≡ true). le-leb a (x * d) (omega (arith, same.0 (omega (arith, leb-true ((a + d - 1) / d) x e)))))

  last_step : (x : ℕ) → leb (x * d + d) (a + w) ≡ ltb x ((a + w) / d)
  last_step x =
      let same = le-div_iff_mul-le {k = d} {x = suc x} {y = a + w} pos in
      let next = suc-mul x d in
      both_ways (leb (x * d + d) (a + w)) (ltb x ((a + w) / d))
      (λ (e : leb (x * d + d) (a + w) ≡ true). lt-ltb x ((a + w) / d) (same.1 (omega (arith, leb-true (x * d + d) (a + w) e))))
      (λ (e : ltb x ((a + w) / d) ≡ true). le-leb (x * d + d) (a + w) (omega (arith, same.0 (ltb-true x ((a + w) / d) e))))

  count-steps : (n : ℕ) → a + w ≤ n * d → sum (λ (x : ℕ). bit (step_in a w d x)) n ≡ wholes a w d
  count-steps n h =
      sum-ext (λ (x : ℕ). bit (step_in a w d x)) (λ (x : ℕ). bit (leb ((a + d - 1) / d) x && ltb x ((a + w) / d))) n (λ x l. rw (first_step x, last_step x))
      ∙ count-between ((a + d - 1) / d) ((a + w) / d) n (div-le_of_le-mul d (rw (mul_comm d n) h))

-- as shifts find them
pub wholes-is : {a w j side : ℕ} → Stretch a w j → Positive (2 ^ j) 32 side → (t : ℕ) → t ≡ (a + w) / 2 ^ j - (a + side - 1) / 2 ^ j → Below (wholes a w (2 ^ j)) 257 t
wholes-is {a} {w} {j} h p t e = record { is = e ∙ rw p.is; below = omega (arith, e, shr_le (a + w) j, h.short) }

-- ---- the squares of a level

both_bits : (a b c d : Bool) → bit (a && (b && (c && d))) ≡ bit (a && b) * bit (c && d)
both_bits true true true true = refl
both_bits true true true false = refl
both_bits true true false d = refl
both_bits true false c d = sym (zero-mul (bit (c && d)))
both_bits false b c d = sym (zero-mul (bit (c && d)))

-- in the cut or with a parent inside
one_of_two : (a b : Bool) → (b ≡ true → a ≡ true) → bit (a && not b) + bit b ≡ bit a
one_of_two true true h = refl
one_of_two true false h = refl
one_of_two false true h = absurd (true-not-false false (h refl) refl)
one_of_two false false h = refl

module _ (s : Shape) (r : Rect) (fit : Fits s r) where
  inside-count : (i : ℕ) → i ≤ s.k → sum (λ (n : ℕ). bit (inside s r i n)) (squares_on s i) ≡ inside_on s r i
  unfolding inside corner_x corner_y
  inside-count i h =
      let d = side_on s i in
      let across : ℕ → ℕ = λ x. bit (step_in r.a r.w d x) in
      let up : ℕ → ℕ = λ y. bit (step_in r.b r.h d y) in
      let x = column s.P i in
      let y = row s.P i in
      sum-ext (λ (n : ℕ). bit (inside s r i n)) (λ (n : ℕ). across (x n) * up (y n)) (squares_on s i) (λ n l. both_bits (leb r.a (x n * d)) (leb (x n * d + d) (r.a + r.w)) (leb r.b (y n * d)) (leb (y n * d + d) (r.b + r.h)))
      ∙ over-level s.P s.Q i across up
      ∙ ap₂ ◌*◌
      (count-steps r.a r.w d (pow_pos (s.k - i)) (s.P * 2 ^ i) (rw (← blocks s i s.P h) fit.wide))
      (count-steps r.b r.h d (pow_pos (s.k - i)) (s.Q * 2 ^ i) (rw (← blocks s i s.Q h) fit.high))

  -- four children for each square
  parents-count : (i : ℕ) → i ≤ s.k → sum (λ (n : ℕ). bit (inside s r i (n / 4))) (squares_on s (suc i)) ≡ 4 * inside_on s r i
  unfolding sum
  parents-count i h =
      let f : ℕ → ℕ = λ n. bit (inside s r i (n / 4)) in
      let four : squares_on s (suc i) ≡ squares_on s i * 4 = rw (pow-suc 4 i) (sym (mul_assoc (s.P * s.Q) (4 ^ i) 4)) in
      ap (sum f) four
      ∙ sum-grid f (squares_on s i) 4
      ∙ sum-ext (λ (m : ℕ). sum (λ (c : ℕ). f (m * 4 + c)) 4) (λ (m : ℕ). bit (inside s r i m) * 4) (squares_on s i) (λ m l. children m)
      ∙ sum-times (λ (m : ℕ). bit (inside s r i m)) (squares_on s i) 4
      ∙ omega (arith, inside-count i h)
    where
      children : (m : ℕ) → sum (λ (c : ℕ). bit (inside s r i ((m * 4 + c) / 4))) 4 ≡ bit (inside s r i m) * 4
      children m =
          let at : (c : ℕ) → c < 4 → (m * 4 + c) / 4 ≡ m = λ c l. omega arith in
          rw (at 0 (lit< tt), at 1 (lit< tt), at 2 (lit< tt), at 3 (lit< tt)) (omega arith)

  -- the squares of the cut on a level
  cut-count : (i : ℕ) → i ≤ s.k → length (cut_on s r i) + 4 * inside_above s r i ≡ inside_on s r i
  unfolding in_cut inside_above
  cut-count zero h = omega (arith, length-cut-on s r 0, count-sum (in_cut s r 0) (squares_on s 0), inside-count 0 h)
  cut-count (suc i) h =
      let p = in_cut s r (suc i) in
      let parent : ℕ → ℕ = λ n. bit (inside s r i (n / 4)) in
      let both = sum-plus (λ (n : ℕ). bit (p n)) parent (squares_on s (suc i)) in
      let all = sum-ext (λ (n : ℕ). bit (p n) + parent n) (λ (n : ℕ). bit (inside s r (suc i) n)) (squares_on s (suc i)) (λ n l. one_of_two (inside s r (suc i) n) (inside s r i (n / 4)) (parent-inside s r i n h)) in
      omega (arith, length-cut-on s r (suc i), count-sum p (squares_on s (suc i)), both, all, parents-count i (omega arith), inside-count (suc i) h)

-- ---- the count, level by level

pub record CountTurn (s : Shape) (r : Rect) (places : List ℕ) (total above level : ℕ) : Type 0 where
  pub deep : level ≤ suc s.k
  pub levels : length places ≡ suc s.k
  pub at : (i : ℕ) → i < level → get_or places i 0 ≡ length (cut_to s r i)
  pub is : total ≡ length (cut_to s r level)
  pub last : above ≡ inside_above s r level
  pub most : total ≤ level * 65536

-- six places are enough
pub places-room : {s : Shape} {r : Rect} → AllRoom s r → PlacesRoom s r (take (s.k + 1) (0 ∷ 0 ∷ 0 ∷ 0 ∷ 0 ∷ 0 ∷ []))
places-room {s} room = record { shape = room.shape; rect = room.rect; levels = length-take-le (s.k + 1) (0 ∷ 0 ∷ 0 ∷ 0 ∷ 0 ∷ 0 ∷ []) (omega (arith, room.shape.levels)) ∙ add-one s.k }

pub count-begins : {s : Shape} {r : Rect} {places : List ℕ} → PlacesRoom s r places → CountTurn s r places 0 0 0
unfolding cut_to inside_above
count-begins room = record { deep = omega arith; levels = room.levels; at = λ i h. absurd (omega arith); is = refl; last = refl; most = omega arith }

module _ {s : Shape} {r : Rect} {places₀ places : List ℕ} (room : PlacesRoom s r places₀) where
  module _ {total above level x y : ℕ} (turn : CountTurn s r places total above level) (low : level ≤ s.k) (p : Below (wholes r.a r.w (side_on s level)) 257 x) (q : Below (wholes r.b r.h (side_on s level)) 257 y) where
    on-level : length (cut_on s r level) + 4 * above ≡ x * y
    on-level = rw (p.is, q.is, turn.last) (cut-count s r room.rect level low)

    pub count_room : (x * y ≤ 65536) × (4 * above ≤ x * y)
    count_room = (mul-le-mul (le-pred_of_lt p.below) (le-pred_of_lt q.below), omega (arith, on-level))

    -- the places up to the level's own
    placed : (i : ℕ) → i < suc level → get_or (set places level total) i 0 ≡ length (cut_to s r i)
    placed i h = ⊎_elim
        (λ (e : (i ≡ level)). rw (e, get_or-set_same places level total 0 (omega (arith, turn.levels))) turn.is)
        (λ (f : (i ≡ level → ⊥)). rw (get_or-set_other places level i total 0 f) (turn.at i (omega arith)))
        (same-or-other i level)

    pub count-turns : CountTurn s r (set places level total) (total + (x * y - 4 * above)) (x * y) (level + 1)
    unfolding cut_to inside_above
    count-turns = rw (add-one level) (record {
      deep = omega arith;
      levels = length-set places level total ∙ turn.levels;
      at = placed;
      is = omega (arith, turn.is, on-level, length-append (cut_to s r level) (cut_on s r level));
      last = ap₂ ◌*◌ p.is q.is;
      most = omega (arith, turn.most, count_room.0);
    })

  pub count-ends : {total above level : ℕ} → CountTurn s r places total above level → s.k < level → Placed s r places total
  count-ends {level = level} turn h =
      let e : level ≡ suc s.k = omega (arith, turn.deep) in
      record { at = λ i g. turn.at i (omega arith); counted = count-few s r _ room.shape (turn.is ∙ ap (λ (i : ℕ). length (cut_to s r i)) e) }
