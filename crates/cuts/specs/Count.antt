-- How the squares of a cut are counted without a list: level by level, from how many lie inside the rectangle.
use Rattle.std.specs.Prelude.{ℕ, zero, suc, ◌+◌, ◌-◌, ◌*◌, ◌/◌}
use Rattle.squares.specs.declared.shape.Shape.{Shape}
use Rattle.squares.specs.declared.shape.Rect.{Rect}
use Rattle.squares.specs.Squares.{side_on}

-- how many whole steps of d lie from a on in a stretch of w
abbrev pub wholes : ℕ → ℕ → ℕ → ℕ
wholes a w d = (a + w) / d - (a + d - 1) / d

-- how many squares of a level lie inside
abbrev pub inside_on : Shape → Rect → ℕ → ℕ
inside_on s r i = wholes r.a r.w (side_on s i) * wholes r.b r.h (side_on s i)

-- and how many of the level above
unfoldable pub inside_above : Shape → Rect → ℕ → ℕ
inside_above s r zero = 0
inside_above s r (suc i) = inside_on s r i
