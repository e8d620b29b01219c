-- The cut of a rectangle: every square wholly inside it that is on level 0 or has a parent that is not.
use Rattle.std.specs.Prelude.{ℕ, zero, suc, ◌+◌, ◌*◌, ◌/◌, Bool, ◌&&◌, not, List, [], ◌++◌, map}
use Rattle.order.specs.Order.{upto, keep}
use Rattle.squares.specs.declared.shape.Shape.{Shape}
use Rattle.squares.specs.declared.shape.Rect.{Rect}
use Rattle.squares.specs.Squares.{side_on, squares_on, corner_x, corner_y}
use Rattle.squares.specs.Shape.{within}

unfoldable pub inside : Shape → Rect → ℕ → ℕ → Bool
inside s r i n = within r (corner_x s i n) (corner_y s i n) (side_on s i)

unfoldable pub in_cut : Shape → Rect → ℕ → ℕ → Bool
in_cut s r zero n = inside s r 0 n
in_cut s r (suc i) n = inside s r (suc i) n && not (inside s r i (n / 4))

-- a square as one number
abbrev pub code : ℕ → ℕ → ℕ
code i n = i * 1048576 + n

abbrev pub cut_on : Shape → Rect → ℕ → List ℕ
cut_on s r i = map (code i) (keep (in_cut s r i) (upto (squares_on s i)))

-- the levels below i, level 0 first
unfoldable pub cut_to : Shape → Rect → ℕ → List ℕ
cut_to s r zero = []
cut_to s r (suc i) = cut_to s r i ++ cut_on s r i

abbrev pub cut : Shape → Rect → List ℕ
cut s r = cut_to s r (suc s.k)
