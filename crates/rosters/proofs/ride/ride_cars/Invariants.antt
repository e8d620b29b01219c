-- `ride_cars`: what its loop keeps.
use Rattle.tables.specs.Slots.{car_between}
use Rattle.rosters.specs.RiddenLaws.{Riding}
use Rattle.rosters.proofs.ride.ride_cars.Given as goal

abbrev pub invariant-loop-c : goal.invariant-loop-c
invariant-loop-c l = Riding (car_between l.cars l.spots l.bands.columns l.bands.rows) l.initial.row l.row l.initial.entered l.entered l.initial.left l.left l.moved.entered l.moved.left l.c
