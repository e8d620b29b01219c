-- Laws of a square and a cut: the square is inside the rectangle, and its parent, if it has one, is not.
use Prim.Native.Nat.{ℕ, zero, suc, ◌+◌, ◌-◌, ◌*◌, ◌/◌, ◌%◌, ◌^◌, ◌≤◌}
use Rattle.std.specs.Prelude.{◌≡◌, refl, true, false, not}
use Rattle.std.proofs.Common.{ap, ◌∙◌, mul_left_comm, le_trans}
use native.Mathlib.Omega.{arith}
use Rattle.std.proofs.Math.Nat.{pow-succ'}
use Rattle.squares.specs.declared.shape.Shape.{Shape}
use Rattle.squares.specs.declared.shape.Rect.{Rect}
use Rattle.squares.specs.declared.shape.Square.{Square}
use Rattle.squares.specs.Squares.{side_on, squares_on, corner_x, corner_y}
use Rattle.squares.specs.Made.{square_of}
use Rattle.squares.specs.Shape.{within}
use Rattle.squares.specs.Leaves.{Near}
use Rattle.squares.specs.SquareLaws.{corner-x-fits, corner-y-fits}
use Rattle.squares.specs.CornerLaws.{side-halves, child-x, child-y}
use Rattle.cuts.specs.Cut.{inside, in_cut}
use Rattle.cuts.specs.Leaves.{Both}

module _ {s : Shape} {r : Rect} {i n : ℕ} where
  pub near-square : Both s r i n → (q : Square) → q ≡ square_of s i n → Near r q.x q.y q.side
  near-square h q e = rw e (record {
    east = le_trans h.rect.wide h.shape.wide;
    north = le_trans h.rect.high h.shape.high;
    right = le_trans (corner-x-fits s i n h.level h.shape.columns) h.shape.wide;
    over = le_trans (corner-y-fits s i n h.level h.shape.columns h.number) h.shape.high;
  })

  pub inside-square : Both s r i n → (q : Square) → q ≡ square_of s i n → within r q.x q.y q.side ≡ inside s r i n
  unfolding inside
  inside-square h q e = rw e

  pub both-parent : Both s r i n → (i ≡ 0 → ⊥) → Both s r (i - 1) (n / 4)
  both-parent h f =
      let e : i ≡ suc (i - 1) = omega arith in
      let more : squares_on s i ≡ 4 * squares_on s (i - 1) = ap (squares_on s) e ∙ rw (pow-succ' 4 (i - 1)) (mul_left_comm (s.P * s.Q) 4 (4 ^ (i - 1))) in
      record { shape = h.shape; rect = h.rect; level = omega (arith, h.level); number = omega (arith, h.number, more) }

-- a square that is not on level 0, by its parent, which begins a side before its eastern two and its northern two
pub record Quarter (s : Shape) (i n : ℕ) (q : Square) : Type 0 where
  pub x : q.x ≡ corner_x s (i - 1) (n / 4) + n % 2 * q.side
  pub y : q.y ≡ corner_y s (i - 1) (n / 4) + n / 2 % 2 * q.side
  pub side : side_on s (i - 1) ≡ 2 * q.side
  pub near : (q.x + q.side ≤ 256) × (q.y + q.side ≤ 256)

pub quarter : {s : Shape} {r : Rect} {i n : ℕ} → Both s r i n → (i ≡ 0 → ⊥) → (q : Square) → q ≡ square_of s i n → Quarter s i n q
quarter {s} {r} {i} {n} h f q e =
    let up : suc (i - 1) ≡ i = omega arith in
    let deep : suc (i - 1) ≤ s.k = omega (arith, h.level) in
    let whole : 4 * (n / 4) + n % 4 ≡ n = omega arith in
    let east : n % 4 % 2 ≡ n % 2 = omega arith in
    let north : n % 4 / 2 ≡ n / 2 % 2 = omega arith in
    let close = near-square h q e in
    record {
      x = rw e (rw (up, whole, east) at (child-x s (i - 1) (n / 4) (n % 4) deep (omega arith)));
      y = rw e (rw (up, whole, north) at (child-y s (i - 1) (n / 4) (n % 4) deep (omega arith)));
      side = rw e (rw up at (side-halves s (i - 1) deep));
      near = (close.right, close.over);
    }

abbrev pub parent_of : ℕ → Square → Square
parent_of n q = record { x = q.x - n % 2 * q.side; y = q.y - n / 2 % 2 * q.side; side = 2 * q.side }

pub parent-square : (s : Shape) (i n : ℕ) (q : Square) → Quarter s i n q → parent_of n q ≡ square_of s (i - 1) (n / 4)
parent-square s i n q h =
    let a : q.x - n % 2 * q.side ≡ corner_x s (i - 1) (n / 4) = omega (arith, h.x) in
    let b : q.y - n / 2 % 2 * q.side ≡ corner_y s (i - 1) (n / 4) = omega (arith, h.y) in
    rw (a, b, h.side)

module _ (s : Shape) (r : Rect) where
  pub cut-outside : (i n : ℕ) → inside s r i n ≡ false → in_cut s r i n ≡ false
  unfolding in_cut
  cut-outside zero n e = e
  cut-outside (suc i) n e = rw e

  pub cut-top : (i n : ℕ) → i ≡ 0 → inside s r i n ≡ true → in_cut s r i n ≡ true
  unfolding in_cut
  cut-top zero n f e = e
  cut-top (suc i) n f e = absurd (omega arith)

  pub cut-lower : (i n : ℕ) → (i ≡ 0 → ⊥) → inside s r i n ≡ true → in_cut s r i n ≡ not (inside s r (i - 1) (n / 4))
  unfolding in_cut
  cut-lower zero n f e = absurd (f refl)
  cut-lower (suc i) n f e = let q : suc i - 1 ≡ i = omega arith in rw (e, q)
