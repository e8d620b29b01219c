-- Where a square's four children lie.
use Rattle.std.specs.Prelude.{◌≡◌, ℕ, suc, ◌+◌, ◌-◌, ◌*◌, ◌/◌, ◌%◌, ◌^◌, ◌<◌, ◌≤◌}
use Rattle.std.proofs.Common.{arith, add-mul, mul_assoc, mul_left_comm}
use Rattle.std.proofs.Math.Nat.{pow-succ', div-div-eq-div-mul}
use Rattle.squares.specs.declared.shape.Shape.{Shape}
use Rattle.squares.specs.Squares.{side_on, evens, corner_x, corner_y}

pub side-halves : (s : Shape) (i : ℕ) → suc i ≤ s.k → side_on s i ≡ 2 * side_on s (suc i)
side-halves s i h = let e : s.k - i ≡ suc (s.k - suc i) = omega arith in rw e (pow-succ' 2 (s.k - suc i))

-- the block of a child is its parent's
child-block : (i n c : ℕ) → c < 4 → (4 * n + c) / 4 ^ suc i ≡ n / 4 ^ i
child-block i n c h = let e : (4 * n + c) / 4 ≡ n = omega arith in rw (pow-succ' 4 i, ← div-div-eq-div-mul (4 * n + c) 4 (4 ^ i), e)

-- twice a column and a half of its side
halved : (b p e c d : ℕ) → (b * (2 * p) + (2 * e + c)) * d ≡ (b * p + e) * (2 * d) + c * d
halved b p e c d = rw (add-mul (b * (2 * p)) (2 * e + c) d, add-mul (2 * e) c d, add-mul (b * p) e (2 * d), mul_left_comm b 2 p, mul_assoc 2 (b * p) d, mul_assoc 2 e d, mul_left_comm (b * p) 2 d, mul_left_comm e 2 d) (omega arith)

pub child-x : (s : Shape) (i n c : ℕ) → suc i ≤ s.k → c < 4 → corner_x s (suc i) (4 * n + c) ≡ corner_x s i n + c % 2 * side_on s (suc i)
unfolding corner_x evens
child-x s i n c h g =
    let e : (4 * n + c) / 4 ≡ n = omega arith in
    let f : (4 * n + c) % 2 ≡ c % 2 = omega arith in
    rw (child-block i n c g, e, f, side-halves s i h, pow-succ' 2 i) (halved (n / 4 ^ i % s.P) (2 ^ i) (evens i n) (c % 2) (side_on s (suc i)))

pub child-y : (s : Shape) (i n c : ℕ) → suc i ≤ s.k → c < 4 → corner_y s (suc i) (4 * n + c) ≡ corner_y s i n + c / 2 * side_on s (suc i)
unfolding corner_y evens
child-y s i n c h g =
    let e : (4 * n + c) / 2 / 4 ≡ n / 2 = omega arith in
    let f : (4 * n + c) / 2 % 2 ≡ c / 2 = omega arith in
    rw (child-block i n c g, e, f, side-halves s i h, pow-succ' 2 i) (halved (n / 4 ^ i / s.P) (2 ^ i) (evens i (n / 2)) (c / 2) (side_on s (suc i)))
