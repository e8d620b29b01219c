-- The descent from a block finds the squares of the cut.
use Prim.Native.Nat.{ℕ, zero, suc, ◌+◌, ◌-◌, ◌*◌, ◌/◌, ◌%◌, ◌^◌, ◌<◌, ◌≤◌}
use Rattle.std.specs.Prelude.{◌≡◌, refl, Bool, true, false, cond, List, [], ◌∷◌, ◌++◌}
use Rattle.std.proofs.Common.{sym, subst, ◌∙◌, mul-one, add-mul, mul_assoc, mul_left_comm, lit<, pow_pos}
use Rattle.std.proofs.Math.Logic.{⊎_elim}
use Rattle.std.proofs.Math.Bool.{and-true, and-false}
use native.Mathlib.Omega.{arith}
use Rattle.std.proofs.Math.Nat.{pow-succ', add-zero}
use Rattle.order.specs.Order.{span, keep}
use Rattle.order.specs.TestLaws.{true-or-false}
use Rattle.order.specs.KeepLaws.{span-add, keep_append}
use Rattle.squares.specs.declared.shape.Shape.{Shape}
use Rattle.squares.specs.declared.shape.Rect.{Rect}
use Rattle.squares.specs.Squares.{side_on, corner_x, corner_y}
use Rattle.squares.specs.Shape.{within}
use Rattle.cuts.specs.Cut.{inside, in_cut}
use Rattle.squares.specs.CornerLaws.{side-halves, child-x, child-y}
use Rattle.squares.specs.Leaves.{meets}
use Rattle.cuts.specs.Descent.{descent}
use Rattle.squares.specs.RectLaws.{apart, quarter-apart}
use Rattle.cuts.specs.CutLaws.{inside-child}

-- ---- a square's numbers m levels down, in four parts

four-times : (q : ℕ) → 4 * q ≡ q + (q + (q + q))
four-times q = omega arith

pub span-four : (n m : ℕ) → span (n * 4 ^ suc m) (4 ^ suc m) ≡ span (4 * n * 4 ^ m) (4 ^ m) ++ (span ((4 * n + 1) * 4 ^ m) (4 ^ m) ++ (span ((4 * n + 2) * 4 ^ m) (4 ^ m) ++ span ((4 * n + 3) * 4 ^ m) (4 ^ m)))
span-four n m = go (4 ^ m) (4 ^ suc m) (pow-succ' 4 m)
  where
    go : (q w : ℕ) → w ≡ 4 * q → span (n * w) w ≡ span (4 * n * q) q ++ (span ((4 * n + 1) * q) q ++ (span ((4 * n + 2) * q) q ++ span ((4 * n + 3) * q) q))
    go q w e =
        let a : n * w ≡ 4 * n * q = rw e (mul_left_comm n 4 q ∙ sym (mul_assoc 4 n q)) in
        let b : 4 * n * q + q ≡ (4 * n + 1) * q = omega (arith, add-mul (4 * n) 1 q) in
        let c : (4 * n + 1) * q + q ≡ (4 * n + 2) * q = omega (arith, add-mul (4 * n) 1 q, add-mul (4 * n) 2 q) in
        let d : (4 * n + 2) * q + q ≡ (4 * n + 3) * q = omega (arith, add-mul (4 * n) 3 q, add-mul (4 * n) 2 q) in
        rw (a, e, four-times q, span-add (4 * n * q) q (q + (q + q)), b, span-add ((4 * n + 1) * q) q (q + q), c, span-add ((4 * n + 2) * q) q q, d)

pub keep-four : (p : ℕ → Bool) (n m : ℕ) → keep p (span (n * 4 ^ suc m) (4 ^ suc m)) ≡ keep p (span (4 * n * 4 ^ m) (4 ^ m)) ++ (keep p (span ((4 * n + 1) * 4 ^ m) (4 ^ m)) ++ (keep p (span ((4 * n + 2) * 4 ^ m) (4 ^ m)) ++ keep p (span ((4 * n + 3) * 4 ^ m) (4 ^ m))))
keep-four p n m = rw (span-four n m, keep_append, keep_append, keep_append)

pub keep_one : (p : ℕ → Bool) (n : ℕ) → keep p (span (n * 4 ^ 0) (4 ^ 0)) ≡ cond (p n) (n ∷ []) []
unfolding keep span
keep_one p n = rw (mul-one n)

-- ---- what a square's own place says of all below it

module _ (s : Shape) (r : Rect) where
  -- the squares of the cut among those m levels below square n of level i
  abbrev pub found : ℕ → ℕ → ℕ → List ℕ
  found i m n = keep (in_cut s r (i + m)) (span (n * 4 ^ m) (4 ^ m))

  pub found-four : (i m n : ℕ) → found i (suc m) n ≡ found (suc i) m (4 * n) ++ (found (suc i) m (4 * n + 1) ++ (found (suc i) m (4 * n + 2) ++ found (suc i) m (4 * n + 3)))
  found-four i m n = let e : i + suc m ≡ suc i + m = omega arith in rw e (keep-four (in_cut s r (suc i + m)) n m)

  -- what holds of a square's children holds of each by its number
  first-child : (Bad : ℕ → ℕ → Type 0) (i n : ℕ) → Bad i (4 * n + 0) → Bad i (4 * n)
  first-child Bad i n b = subst (Bad i) (add-zero (4 * n)) b

  -- where what is bad of a square is bad of its children, and nothing bad is in the cut, nothing below a bad square is
  none_below : (Bad : ℕ → ℕ → Type 0) → ((i n c : ℕ) → suc i ≤ s.k → c < 4 → Bad i n → Bad (suc i) (4 * n + c)) → ((i n : ℕ) → Bad i n → in_cut s r i n ≡ false) → (m i n : ℕ) → i + m ≤ s.k → Bad i n → found i m n ≡ []
  none_below Bad step stop zero i n h b = rw add-zero (keep_one (in_cut s r i) n ∙ rw (stop i n b))
  none_below Bad step stop (suc m) i n h b =
      let low : suc i ≤ s.k = omega arith in
      let g : suc i + m ≤ s.k = omega arith in
      let below = none_below Bad step stop m (suc i) in
      found-four i m n ∙ rw (below (4 * n) g (first-child Bad (suc i) n (step i n 0 low (lit< tt) b)), below (4 * n + 1) g (step i n 1 low (lit< tt) b), below (4 * n + 2) g (step i n 2 low (lit< tt) b), below (4 * n + 3) g (step i n 3 low (lit< tt) b))

  -- nothing is found below a square that shares no cell with the rectangle
  Apart : ℕ → ℕ → Type 0
  Apart i n = meets r (corner_x s i n) (corner_y s i n) (side_on s i) ≡ false

  child-apart : (i n c : ℕ) → suc i ≤ s.k → c < 4 → Apart i n → Apart (suc i) (4 * n + c)
  unfolding Apart
  child-apart i n c h g e = rw (child-x s i n c h g, child-y s i n c h g) (quarter-apart r (corner_x s i n) (corner_y s i n) (side_on s (suc i)) (c % 2) (c / 2) (omega arith) (omega arith) (rw (side-halves s i h) at e))

  pub inside-not : (i n : ℕ) → inside s r i n ≡ false → in_cut s r i n ≡ false
  unfolding in_cut
  inside-not zero n e = e
  inside-not (suc i) n e = rw e

  pub none_apart : (i m n : ℕ) → i + m ≤ s.k → meets r (corner_x s i n) (corner_y s i n) (side_on s i) ≡ false → found i m n ≡ []
  unfolding Apart
  none_apart i m n h e = none_below Apart child-apart (λ j t b. inside-not j t (unfold inside in apart r (corner_x s j t) (corner_y s j t) (side_on s j) (pow_pos (s.k - j)) b)) m i n h e

  -- nothing is found below a square that lies inside
  record Covered (i n : ℕ) : Type 0 where
    above : ℕ
    level : i ≡ suc above
    parent : inside s r above (n / 4) ≡ true
    self : inside s r i n ≡ true

  covers : (i n c : ℕ) → suc i ≤ s.k → c < 4 → inside s r i n ≡ true → Covered (suc i) (4 * n + c)
  covers i n c h g e = let q : (4 * n + c) / 4 ≡ n = omega arith in record { above = i; level = refl; parent = rw q e; self = inside-child s r i n c h g e }

  covered-not : (i n : ℕ) → Covered i n → in_cut s r i n ≡ false
  unfolding in_cut
  covered-not i n b = rw (b.level, b.parent) (and-false (inside s r (suc b.above) n))

  pub none_inside : (i m n : ℕ) → i + suc m ≤ s.k → inside s r i n ≡ true → found i (suc m) n ≡ []
  none_inside i m n h e =
      let low : suc i ≤ s.k = omega arith in
      let g : suc i + m ≤ s.k = omega arith in
      let below = none_below Covered (λ j t c l f b. covers j t c l f b.self) covered-not m (suc i) in
      found-four i m n ∙ rw (below (4 * n) g (first-child Covered (suc i) n (covers i n 0 low (lit< tt) e)), below (4 * n + 1) g (covers i n 1 low (lit< tt) e), below (4 * n + 2) g (covers i n 2 low (lit< tt) e), below (4 * n + 3) g (covers i n 3 low (lit< tt) e))

  -- below a square whose parent is not inside, the descent finds the cut
  pub free-child : (i n c : ℕ) → c < 4 → inside s r i n ≡ false → in_cut s r (suc i) (4 * n + c) ≡ inside s r (suc i) (4 * n + c)
  unfolding in_cut
  free-child i n c g e = let q : (4 * n + c) / 4 ≡ n = omega arith in rw (q, e) (and-true (inside s r (suc i) (4 * n + c)))

  half-side : (i : ℕ) → suc i ≤ s.k → side_on s i / 2 ≡ side_on s (suc i)
  half-side i h = omega (arith, side-halves s i h)

  -- what is found below the child c, from where the descent looks for it
  at-child : (i m n c : ℕ) → suc i ≤ s.k → c < 4 → descent r m (corner_x s (suc i) (4 * n + c)) (corner_y s (suc i) (4 * n + c)) (side_on s (suc i)) (4 * n + c) ≡ found (suc i) m (4 * n + c) → (x y : ℕ) → x ≡ corner_x s i n + c % 2 * (side_on s i / 2) → y ≡ corner_y s i n + c / 2 * (side_on s i / 2) → descent r m x y (side_on s i / 2) (4 * n + c) ≡ found (suc i) m (4 * n + c)
  at-child i m n c h g e x y p q = rw (p, q, half-side i h, ← child-x s i n c h g, ← child-y s i n c h g) e

  pub descent-found : (m i n : ℕ) → i + m ≤ s.k → in_cut s r i n ≡ inside s r i n → descent r m (corner_x s i n) (corner_y s i n) (side_on s i) n ≡ found i m n
  unfolding descent inside
  descent-found zero i n h e = rw add-zero (sym (keep_one (in_cut s r i) n ∙ rw e))
  descent-found (suc m) i n h e =
      let low : suc i ≤ s.k = omega arith in
      let g : suc i + m ≤ s.k = omega arith in
      let x = corner_x s i n in
      let y = corner_y s i n in
      let d = side_on s i / 2 in
      ⊎_elim
      (λ (t : meets r x y (side_on s i) ≡ true). ⊎_elim
      (λ (w : within r x y (side_on s i) ≡ true). rw (t, w) (sym (none_inside i m n h w)))
      (λ (w : within r x y (side_on s i) ≡ false).
      let child : (c : ℕ) → c < 4 → (x' y' : ℕ) → x' ≡ x + c % 2 * d → y' ≡ y + c / 2 * d → descent r m x' y' d (4 * n + c) ≡ found (suc i) m (4 * n + c) = λ c l. at-child i m n c low l (descent-found m (suc i) (4 * n + c) g (free-child i n c l w)) in
      rw (t, w) (rw (rw add-zero at (child 0 (lit< tt) x y (omega arith) (omega arith)), child 1 (lit< tt) (x + d) y (omega arith) (omega arith), child 2 (lit< tt) x (y + d) (omega arith) (omega arith), child 3 (lit< tt) (x + d) (y + d) (omega arith) (omega arith)) (sym (found-four i m n))))
      (true-or-false (within r x y (side_on s i))))
      (λ (t : meets r x y (side_on s i) ≡ false). rw t (sym (none_apart i (suc m) n h t)))
      (true-or-false (meets r x y (side_on s i)))
