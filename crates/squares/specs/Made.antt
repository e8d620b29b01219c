-- What the constructor of a shape answers, and the square that a method makes.
use Rattle.std.specs.Prelude.{ℕ, cond}
use Rattle.std.specs.declared.result.Result.{Result}
use Rattle.std.specs.declared.result.Result.TheVariants.{Ok, Err}
use Rattle.squares.specs.declared.shape.Shape.{Shape}
use Rattle.squares.specs.declared.refusal.Refusal.{Refusal}
use Rattle.squares.specs.declared.shape.Square.{Square}
use Rattle.squares.specs.Shape.{shape, allowed}
use Rattle.squares.specs.Squares.{side_on, corner_x, corner_y}

-- the answer to k, P and Q
abbrev pub shaped : ℕ → ℕ → ℕ → Result Shape Refusal
shaped k P Q = cond (allowed (shape k P Q)) (Ok (shape k P Q)) (Err Refusal.Shape)

-- the square with a number
abbrev pub square_of : Shape → ℕ → ℕ → Square
square_of s i n = record { x = corner_x s i n; y = corner_y s i n; side = side_on s i }
