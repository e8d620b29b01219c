-- `mark_cars`: what its loop keeps.
use Rattle.tables.specs.Slots.{car_between}
use Rattle.rosters.specs.InsideLaws.{Marking}
use Rattle.rosters.proofs.inside.mark_cars.Given as goal

abbrev pub invariant-loop-c : goal.invariant-loop-c
invariant-loop-c l = Marking (car_between l.cars l.spots l.bands.columns l.bands.rows) l.initial.row l.row l.inside l.c
