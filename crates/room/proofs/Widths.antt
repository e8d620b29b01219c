-- A town wider than the room is refused, by what the constructor of its shape answered.
use Rattle.std.specs.Prelude.{ℕ, ◌≡◌, ◌<◌}
use Rattle.std.specs.declared.result.Result.{Result}
use Rattle.std.specs.declared.result.Result.TheVariants.{Ok, Err}
use Rattle.squares.specs.declared.shape.Shape.{Shape}
use Rattle.squares.specs.declared.refusal.Refusal.{Refusal}
use Rattle.squares.specs.Shape.{width}
use Rattle.squares.specs.Made.{shaped}
use Rattle.squares.specs.ShapeLaws.{shaped→}
use Rattle.room.specs.Leaves.{OpenRoom}
use Rattle.room.specs.OpenLaws.{too_wide}

pub wide_refused : (k P Q : ℕ) {r : Result Shape Refusal} {s : Shape} → r ≡ shaped k P Q → r ≡ Ok s → 64 < width s → OpenRoom k P Q (Err Refusal.Tables)
wide_refused k P Q h e w = too_wide k P Q (shaped→ k P Q h e) w
