-- What a call on a standing zone has, past the refusals that such calls share.
use Rattle.std.specs.Prelude.{ℕ, ◌<◌, ◌≡◌, refl}
use Rattle.std.proofs.Common.{ltb-true}
use Rattle.squares.specs.RefusalLaws.{clear}
use Rattle.model.specs.Model.{removing, meaning}
use Rattle.tables.specs.Tables.{Tables, zone_room}
use Rattle.tables.specs.Sizes.{Sized}
use Rattle.tables.specs.CheckLaws.{sized→}
use Rattle.promises.specs.Promise.{means, bars}

-- it has its place in the tables
pub record There (t : Tables) (z : ℕ) : Type 0 where
  pub none : bars t (removing z) ≡ 0
  pub size : Sized t
  pub zone : z < zone_room t

pub zone-there : (t : Tables) (z : ℕ) → bars t (removing z) ≡ 0 → There t z
unfolding meaning
zone-there t z none = let h = clear (means t (removing z)).checks refl none in record { none = none; size = sized→ t h.0; zone = ltb-true z (zone_room t) h.1.0 }
