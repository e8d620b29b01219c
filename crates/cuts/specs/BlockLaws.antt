-- The cut on a level, block by block: rows from south to north, the blocks of a row from west to east.
use Prim.Native.Nat.{ℕ, zero, suc, ◌+◌, ◌-◌, ◌*◌, ◌/◌, ◌%◌, ◌^◌, ◌<◌, ◌≤◌}
use Rattle.std.specs.Prelude.{◌≡◌, refl, length}
use Rattle.std.proofs.Math.Path.{ap, sym}
use Rattle.std.proofs.Common.{◌∙◌, add-one, zero-mul, one-mul, add_assoc, div-lt_iff_lt-mul, le-div_iff_mul-le, div-mul-le_self, le_of_lt, length-append}
use mathlib.Core.List.{List, [], ◌++◌, append-nil}
use native.Mathlib.Omega.{arith}
use Rattle.std.proofs.Math.Nat.{mul-one, zero-add, add-zero, add-mul, suc-mul, mul_comm, mul-le-mul_right, sub-zero, div-one, lt-div-mul-add}
use Rattle.std.proofs.Math.Arith.{digits_div, digits_mod}
use Rattle.order.specs.Order.{span, keep, upto}
use Rattle.order.specs.KeepLaws.{span-add, keep_append}
use Rattle.squares.specs.declared.shape.Shape.{Shape}
use Rattle.squares.specs.declared.shape.Rect.{Rect}
use Rattle.squares.specs.Shape.{side}
use Rattle.squares.specs.Squares.{squares_on, evens, corner_x, corner_y}
use Rattle.cuts.specs.Cut.{in_cut}
use Rattle.cuts.specs.Descent.{descent, in_row, in_rows}
use Rattle.squares.specs.RectLaws.{Meets, not-meets}
use Rattle.cuts.specs.DescentLaws.{descent-found, none_apart}

module _ (s : Shape) (r : Rect) where
  block-x : (n : ℕ) → corner_x s 0 n ≡ n % s.P * side s
  unfolding corner_x evens
  block-x n = rw (sub-zero s.k, div-one n, mul-one (n % s.P), add-zero (n % s.P))

  block-y : (n : ℕ) → corner_y s 0 n ≡ n / s.P * side s
  unfolding corner_y evens
  block-y n = rw (sub-zero s.k, div-one n, mul-one (n / s.P), add-zero (n / s.P))

  abbrev in_block : ℕ → ℕ → List ℕ
  in_block i n = keep (in_cut s r i) (span (n * 4 ^ i) (4 ^ i))

  block_none : (i n : ℕ) → i ≤ s.k → (Meets r (n % s.P * side s) (n / s.P * side s) (side s) → ⊥) → in_block i n ≡ []
  block_none i n h f = rw zero-add at (none_apart s r 0 i n (omega arith) (rw (block-x n, block-y n, sub-zero s.k) (not-meets r _ _ _ f)))

  block-found : (i n : ℕ) → i ≤ s.k → descent r i (n % s.P * side s) (n / s.P * side s) (side s) n ≡ in_block i n
  unfolding in_cut
  block-found i n h = rw (zero-add i) at (rw (block-x n, block-y n, sub-zero s.k) at (descent-found s r i 0 n (omega arith) refl))

  -- some blocks and then some more
  blocks-add : (i n m t : ℕ) → keep (in_cut s r i) (span (n * 4 ^ i) ((m + t) * 4 ^ i)) ≡ keep (in_cut s r i) (span (n * 4 ^ i) (m * 4 ^ i)) ++ keep (in_cut s r i) (span ((n + m) * 4 ^ i) (t * 4 ^ i))
  blocks-add i n m t = rw (add-mul m t (4 ^ i), span-add (n * 4 ^ i) (m * 4 ^ i) (t * 4 ^ i), keep_append, add-mul n m (4 ^ i))

  block_more : (i n m : ℕ) → keep (in_cut s r i) (span (n * 4 ^ i) (suc m * 4 ^ i)) ≡ keep (in_cut s r i) (span (n * 4 ^ i) (m * 4 ^ i)) ++ in_block i (n + m)
  block_more i n m = rw (← add-one m) (blocks-add i n m 1 ∙ rw (one-mul (4 ^ i)))

  blocks-none : (i n m : ℕ) → i ≤ s.k → ((j : ℕ) → j < m → Meets r ((n + j) % s.P * side s) ((n + j) / s.P * side s) (side s) → ⊥) → keep (in_cut s r i) (span (n * 4 ^ i) (m * 4 ^ i)) ≡ []
  unfolding span keep
  blocks-none i n zero h f = rw (zero-mul (4 ^ i))
  blocks-none i n (suc m) h f = block_more i n m ∙ rw (blocks-none i n m h (λ j g. f j (omega arith)), block_none i (n + m) h (f m (omega arith)))

  -- more of a span keeps no fewer
  longer : (i lo n m : ℕ) → n ≤ m → length (keep (in_cut s r i) (span lo n)) ≤ length (keep (in_cut s r i) (span lo m))
  longer i lo n m h =
      let e : m ≡ n + (m - n) = omega arith in
      let p = in_cut s r i in
      let f : keep p (span lo m) ≡ keep p (span lo n) ++ keep p (span (lo + n) (m - n)) = ap (λ (t : ℕ). keep p (span lo t)) e ∙ rw (span-add lo n (m - n), keep_append) in
      omega (arith, ap length f, length-append (keep p (span lo n)) (keep p (span (lo + n) (m - n))))

  pub row-longer : (i row n m : ℕ) → n ≤ m → length (in_row s r i row n) ≤ length (in_row s r i row m)
  unfolding in_row
  row-longer i row n m h = longer i (row * s.P * 4 ^ i) (n * 4 ^ i) (m * 4 ^ i) (mul-le-mul_right (4 ^ i) h)

  pub rows-longer : (i row : ℕ) → row ≤ s.Q → length (in_rows s r i row) ≤ length (keep (in_cut s r i) (upto (squares_on s i)))
  unfolding in_rows
  rows-longer i row h = longer i 0 (row * s.P * 4 ^ i) (squares_on s i) (mul-le-mul_right (4 ^ i) (rw (mul_comm s.P s.Q) (mul-le-mul_right s.P h)))

  module _ (i row : ℕ) (low : i ≤ s.k) where
    column-of : (col : ℕ) → col < s.P → (row * s.P + col) % s.P ≡ col
    column-of col h = digits_mod row h

    row_of : (col : ℕ) → col < s.P → (row * s.P + col) / s.P ≡ row
    row_of col h = digits_div row h

    -- the blocks west of the rectangle have none
    pub row-start : (col : ℕ) → col ≤ s.P → col * side s ≤ r.a → in_row s r i row col ≡ []
    unfolding in_row
    row-start col h g = blocks-none i (row * s.P) col low (λ j l m. let w = rw (column-of j (omega arith)) at m in omega (arith, w.west, mul-le-mul_right (side s) l, suc-mul j (side s)))

    pub row_more : (col : ℕ) → col < s.P → in_row s r i row (suc col) ≡ in_row s r i row col ++ descent r i (col * side s) (row * side s) (side s) (row * s.P + col)
    unfolding in_row
    row_more col h = block_more i (row * s.P) col ∙ ap (λ (l : List ℕ). in_row s r i row col ++ l) (sym (rw (column-of col h, row_of col h) at (block-found i (row * s.P + col) low)))

    -- nor do those east of it
    pub row-end : (col : ℕ) → col ≤ s.P → r.a + r.w ≤ col * side s → in_row s r i row col ≡ in_row s r i row s.P
    unfolding in_row
    row-end col h g =
        let e : s.P ≡ col + (s.P - col) = omega arith in
        let none = blocks-none i (row * s.P + col) (s.P - col) low (λ j l m. let w = rw (add_assoc (row * s.P) col j, column-of (col + j) (omega arith)) at m in omega (arith, w.east, add-mul col j (side s))) in
        sym (ap (λ (t : ℕ). in_row s r i row t) e ∙ blocks-add i (row * s.P) col (s.P - col) ∙ rw none (append-nil (in_row s r i row col)))

  module _ (i : ℕ) (low : i ≤ s.k) (some : 0 < s.P) where
    from_zero : (m : ℕ) → keep (in_cut s r i) (span (0 * 4 ^ i) (m * 4 ^ i)) ≡ keep (in_cut s r i) (span 0 (m * 4 ^ i))
    from_zero m = rw (zero-mul (4 ^ i))

    pub rows_start : (row : ℕ) → row * side s ≤ r.b → in_rows s r i row ≡ []
    unfolding in_rows
    rows_start row g = sym (from_zero (row * s.P)) ∙ blocks-none i 0 (row * s.P) low (λ j l m. let w = rw (zero-add j) at m in let t = (div-lt_iff_lt-mul some).1 l in omega (arith, w.south, mul-le-mul_right (side s) t, suc-mul (j / s.P) (side s)))

    pub rows_more : (row : ℕ) → in_rows s r i (suc row) ≡ in_rows s r i row ++ in_row s r i row s.P
    unfolding in_rows in_row
    rows_more row = rw (suc-mul row s.P, ← from_zero (row * s.P + s.P), blocks-add i 0 (row * s.P) s.P, from_zero (row * s.P), zero-add (row * s.P))

    pub rows_end : (row : ℕ) → row ≤ s.Q → r.b + r.h ≤ row * side s → in_rows s r i row ≡ keep (in_cut s r i) (upto (squares_on s i))
    unfolding in_rows
    rows_end row h g =
        let t = s.Q - row in
        let q : s.Q ≡ row + t = omega arith in
        let e : s.P * s.Q ≡ row * s.P + t * s.P = mul_comm s.P s.Q ∙ ap (λ (n : ℕ). n * s.P) q ∙ add-mul row t s.P in
        let none = blocks-none i (row * s.P) (t * s.P) low (λ j l m. let b = (le-div_iff_mul-le {x = row} {y = row * s.P + j} some).1 (omega arith) in omega (arith, m.north, mul-le-mul_right (side s) b)) in
        sym (ap (λ (n : ℕ). keep (in_cut s r i) (span 0 (n * 4 ^ i))) e ∙ sym (from_zero (row * s.P + t * s.P)) ∙ blocks-add i 0 (row * s.P) (t * s.P) ∙ rw (zero-add (row * s.P), none, from_zero (row * s.P)) (append-nil (in_rows s r i row)))

-- ---- from the first block that a side of a rectangle meets to the last: a from the start, w long, over p blocks of side d

module _ (a w p d : ℕ) (pos : 0 < d) (some : 0 < w) (fit : a + w ≤ p * d) where
  pub first-in : a / d ≤ p
  first-in = le_of_lt ((div-lt_iff_lt-mul pos).1 (omega arith))

  pub first-before : a / d * d ≤ a
  first-before = div-mul-le_self a d

  pub end-in : (a + w - 1) / d + 1 ≤ p
  end-in = omega (arith, (div-lt_iff_lt-mul {x = a + w - 1} {y = p} pos).1 (omega arith))

  pub end_after : (c : ℕ) → (a + w - 1) / d + 1 ≤ c → a + w ≤ c * d
  end_after c h = omega (arith, lt-div-mul-add {a = a + w - 1} pos, mul-le-mul_right d h, add-mul ((a + w - 1) / d) 1 d)
