-- `fill_row` marks a zone's row by the bands of the rectangle: the part lent is the row.
use mathlib.Core.Path.{◌≡◌, ap₂, ◌∙◌}
use Rattle.tables.specs.Slots.{car_between}
use Rattle.rosters.specs.Inside.{car_within}
use Rattle.rosters.specs.InsideLaws.{by-bands, row-marked}
use Rattle.rosters.proofs.inside.fill_row.Goals as goal

pub returns : goal.returns
returns c =
    let within : let a = c.args in car_between a.cars.now a.spots.now c.bands_of-bands.result.columns c.bands_of-bands.result.rows ≡ car_within a.s a.cars.now a.spots.now a.r = ap₂ (car_between _ _) c.bands_of-bands.ensures.columns c.bands_of-bands.ensures.rows ∙ by-bands c.requires.parked.shape c.requires.fits _ _ c.shared_slice_known-2-1.given in
    row-marked c.requires.row_there _ within _ c.mark_cars.ensures
