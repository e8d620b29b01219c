-- What the functions that move a rectangle answer.
use Rattle.std.specs.Prelude.{◌≡◌, ℕ, ◌<◌, ◌≤◌, true, ℤ, pos, ◌+ℤ◌, unsigned_abs}
use Rattle.std.specs.Int.Signed.{non_neg}
use Rattle.squares.specs.declared.shape.Shape.{Shape}
use Rattle.squares.specs.declared.shape.Rect.{Rect}
use Rattle.squares.specs.Shape.{fits}
use Rattle.squares.specs.Bounds.{Allowed}
use Rattle.squares.specs.Ride.{ridden, lands}

-- r is the sum, or 256 where that is below 0 or not below 256
pub record Slides (a : ℕ) (d : ℤ) (r : ℕ) : Type 0 where
  pub few : r ≤ 256
  pub sum : r < 256 → pos a +ℤ d ≡ pos r
  pub off : r ≡ 256 → non_neg (pos a +ℤ d) ≡ true → 256 ≤ unsigned_abs (pos a +ℤ d)

-- q fits just where r moved does, and is r moved then
pub record Rides (dx dy : ℤ) (r q : Rect) : Type 0 where
  pub test : (s : Shape) → Allowed s → fits s q ≡ lands s dx dy r
  pub is : (s : Shape) → Allowed s → lands s dx dy r ≡ true → q ≡ ridden dx dy r
