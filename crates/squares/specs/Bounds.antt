-- The tests of a shape and of a rectangle, as records for proofs.
use Rattle.std.specs.Prelude.{◌+◌, ◌<◌, ◌≤◌}
use Rattle.squares.specs.declared.shape.Shape.{Shape}
use Rattle.squares.specs.declared.shape.Rect.{Rect}
use Rattle.squares.specs.Shape.{largest_k, largest_side, width, height}

-- within the limits
pub record Allowed (s : Shape) : Type 0 where
  pub levels : s.k ≤ largest_k
  pub columns : 0 < s.P
  pub rows : 0 < s.Q
  pub wide : width s ≤ largest_side
  pub high : height s ≤ largest_side

-- a rectangle has cells and lies in the town: what check 9 asks
pub record Fits (s : Shape) (r : Rect) : Type 0 where
  pub columns : 0 < r.w
  pub rows : 0 < r.h
  pub wide : r.a + r.w ≤ width s
  pub high : r.b + r.h ≤ height s
