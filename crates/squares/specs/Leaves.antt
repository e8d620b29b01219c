-- What the functions below the calls ask and promise: a number by its definition, with the bounds that callers need.
use Rattle.std.specs.Prelude.{◌≡◌, ℕ, ◌+◌, ◌/◌, ◌^◌, ◌<◌, ◌≤◌, Bool, ◌&&◌, ◌≢◌, nat_lt}
use Rattle.squares.specs.declared.shape.Shape.{Shape}
use Rattle.squares.specs.declared.shape.Rect.{Rect}
use Rattle.squares.specs.Shape.{largest_k, largest_side, width, height}
use Rattle.squares.specs.Bounds.{Allowed}

pub record Positive (n most r : ℕ) : Type 0 where
  pub is : r ≡ n
  pub some : 0 < r
  pub small : r ≤ most

pub record Below (n bound r : ℕ) : Type 0 where
  pub is : r ≡ n
  pub below : r < bound

-- numbers of i bits, for a level i
pub record Bits (i a b : ℕ) : Type 0 where
  pub few : i ≤ largest_k
  pub across : a < 2 ^ i
  pub up : b < 2 ^ i

pub record OnLevel (s : Shape) (i : ℕ) : Type 0 where
  pub shape : Allowed s
  pub level : i ≤ s.k

pub record OnMap (s : Shape) (x y : ℕ) : Type 0 where
  pub shape : Allowed s
  pub column : x < width s
  pub row : y < height s

-- of the squares around the cells (x, y) and (x', y'), j steps up, the first d differ and the others, as far as k steps up, do not
pub record StepsApart (k x y x' y' d : ℕ) : Type 0 where
  pub few : d ≤ k + 1
  pub apart : (j : ℕ) → j < d → x / 2 ^ j ≡ x' / 2 ^ j → y / 2 ^ j ≢ y' / 2 ^ j
  pub together : (j : ℕ) → j ≤ k → d ≤ j → (x / 2 ^ j ≡ x' / 2 ^ j) × (y / 2 ^ j ≡ y' / 2 ^ j)

-- sums of a rectangle's and a square's coordinates are small
pub record Near (r : Rect) (x y d : ℕ) : Type 0 where
  pub east : r.a + r.w ≤ largest_side
  pub north : r.b + r.h ≤ largest_side
  pub right : x + d ≤ largest_side
  pub over : y + d ≤ largest_side

-- the square with corner (x, y) and side d shares a cell with the rectangle
abbrev pub meets : Rect → ℕ → ℕ → ℕ → Bool
meets r x y d = nat_lt r.a (x + d) && (nat_lt x (r.a + r.w) && (nat_lt r.b (y + d) && nat_lt y (r.b + r.h)))
