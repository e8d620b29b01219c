-- `ride_row` sets a zone's row by the bands of the rectangle: the part lent is the row, and each buffer has room for all cars.
use mathlib.Core.Path.{◌≡◌, ap₂, ◌∙◌}
use Rattle.tables.specs.Slots.{car_between}
use Rattle.rosters.specs.Inside.{car_within}
use Rattle.rosters.specs.InsideLaws.{by-bands}
use Rattle.rosters.specs.RiddenLaws.{row-ridden}
use Rattle.rosters.proofs.ride.ride_row.Goals as goal

pub returns : goal.returns
returns c =
    let within : let a = c.args in car_between a.cars.now a.spots.now c.bands_of-bands.result.columns c.bands_of-bands.result.rows ≡ car_within a.s a.cars.now a.spots.now a.r = ap₂ (car_between _ _) c.bands_of-bands.ensures.columns c.bands_of-bands.ensures.rows ∙ by-bands c.requires.parked.shape c.requires.fits _ _ c.shared_slice_known-2-1.given in
    row-ridden c.requires.row_there c.requires.many_in_bounds c.requires.many_in_bounds_2 _ within _ c.ride_cars.ensures
