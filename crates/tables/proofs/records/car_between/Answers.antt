-- `car_between` is the two tests together.
use Rattle.std.proofs.Common.{◌&&◌, ap, ◌∙◌, ap₂}
use Rattle.position.specs.Band.{in_bands}
use Rattle.tables.specs.Slots.{car_between}
use Rattle.tables.proofs.records.car_between.Goals as goal

pub returns : goal.returns
unfolding car_between
returns c = ap₂ ◌&&◌ c.placed_in.ensures (c.in_bands.ensures ∙ ap (in_bands _ _) c.spot_in.ensures)
