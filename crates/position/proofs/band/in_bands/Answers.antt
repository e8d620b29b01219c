-- `in_bands` is the two tests together.
use mathlib.Core.Bool.{◌&&◌}
use mathlib.Core.Path.{ap₂}
use Rattle.position.specs.Band.{in_bands}
use Rattle.position.proofs.band.in_bands.Goals as goal

pub returns : goal.returns
unfolding in_bands
returns c = ap₂ ◌&&◌ c.in_band.ensures c.in_band-2.ensures
