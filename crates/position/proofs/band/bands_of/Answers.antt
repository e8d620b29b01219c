-- `bands_of` makes the band of the rectangle's columns on the town's width, and of its rows on the height.
use mathlib.Core.Path.{ap, ◌∙◌}
use Rattle.position.specs.Band.{band_of, columns_of, rows_of}
use Rattle.position.proofs.band.bands_of.Goals as goal

pub returns : goal.returns
unfolding columns_of rows_of
returns c = record { columns = c.band_of.ensures ∙ ap (band_of _ _) c.width.ensures.is; rows = c.band_of-2.ensures ∙ ap (band_of _ _) c.height.ensures.is }
