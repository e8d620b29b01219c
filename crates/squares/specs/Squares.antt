-- The squares of a town and their numbers, as document 01 has them. A cell is (x, y), a level i.
use Rattle.std.specs.Prelude.{ℕ, zero, suc, ◌+◌, ◌-◌, ◌*◌, ◌/◌, ◌%◌, ◌^◌, Bool, not, ◌&&◌, List, ◌==◌, nat_le, nat_lt}
use Rattle.order.specs.Order.{upto, keep}
use Rattle.squares.specs.declared.shape.Shape.{Shape}
use Rattle.squares.specs.Shape.{side, width, height}

-- the side of a square
abbrev pub side_on : Shape → ℕ → ℕ
side_on s i = 2 ^ (s.k - i)

-- how many squares a level has, and the town
abbrev pub squares_on : Shape → ℕ → ℕ
squares_on s i = s.P * s.Q * 4 ^ i

abbrev pub squares : Shape → ℕ
squares s = s.P * s.Q * (4 ^ (s.k + 1) - 1) / 3

-- the i lowest bits of a and b interleaved, b's bit above a's of the same rank
unfoldable pub interleave : ℕ → ℕ → ℕ → ℕ
interleave zero a b = 0
interleave (suc i) a b = 4 * interleave i (a / 2) (b / 2) + (2 * (b % 2) + a % 2)

-- of the low k bits of a coordinate the top i
abbrev pub top : Shape → ℕ → ℕ → ℕ
top s i x = x % side s / side_on s i

abbrev pub block : Shape → ℕ → ℕ → ℕ
block s x y = x / side s + y / side s * s.P

-- the number on level i of the square in which a cell lies
unfoldable pub number : Shape → ℕ → ℕ → ℕ → ℕ
number s i x y = 4 ^ i * block s x y + interleave i (top s i x) (top s i y)

-- every other bit of n from the lowest on, i of them
unfoldable pub evens : ℕ → ℕ → ℕ
evens zero n = 0
evens (suc i) n = 2 * evens i (n / 4) + n % 2

-- the southwest corner of the square with a number: the block's place in the town, then the square's in the block
unfoldable pub corner_x : Shape → ℕ → ℕ → ℕ
corner_x s i n = (n / 4 ^ i % s.P * 2 ^ i + evens i n) * side_on s i

unfoldable pub corner_y : Shape → ℕ → ℕ → ℕ
corner_y s i n = (n / 4 ^ i / s.P * 2 ^ i + evens i (n / 2)) * side_on s i

-- (x, y) is the southwest corner of a square on level i
abbrev pub is_corner : Shape → ℕ → ℕ → ℕ → Bool
is_corner s i x y = nat_le i s.k && (nat_lt x (width s) && (nat_lt y (height s) && (x % side_on s i == 0 && y % side_on s i == 0)))

-- n is the number of a square on level i
abbrev pub is_number : Shape → ℕ → ℕ → Bool
is_number s i n = nat_le i s.k && nat_lt n (squares_on s i)

-- the levels on which two cells lie in different squares
abbrev pub differ_at : Shape → ℕ → ℕ → ℕ → ℕ → ℕ → Bool
differ_at s x y x' y' i = not (number s i x y == number s i x' y')

abbrev pub differ : Shape → ℕ → ℕ → ℕ → ℕ → List ℕ
differ s x y x' y' = keep (differ_at s x y x' y') (upto (s.k + 1))
