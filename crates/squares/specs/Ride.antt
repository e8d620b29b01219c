-- A rectangle moved by signed numbers of columns and rows, as sums of whole numbers.
use Rattle.std.specs.Prelude.{Bool, ◌&&◌, ℤ, pos, ◌+ℤ◌, unsigned_abs}
use Rattle.std.specs.Int.Signed.{non_neg}
use Rattle.squares.specs.declared.shape.Shape.{Shape}
use Rattle.squares.specs.declared.shape.Rect.{Rect}
use Rattle.squares.specs.Shape.{fits}

-- the rectangle moved; where a corner would be below 0 it says nothing, and does not land
abbrev pub ridden : ℤ → ℤ → Rect → Rect
ridden dx dy r = record { a = unsigned_abs (pos r.a +ℤ dx); b = unsigned_abs (pos r.b +ℤ dy); w = r.w; h = r.h }

-- no corner is below 0, and it lies in the town
abbrev pub lands : Shape → ℤ → ℤ → Rect → Bool
lands s dx dy r = non_neg (pos r.a +ℤ dx) && (non_neg (pos r.b +ℤ dy) && fits s (ridden dx dy r))
