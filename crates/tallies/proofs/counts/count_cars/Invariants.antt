-- `count_cars`: what its loop keeps.
use Rattle.tallies.specs.CountLaws.{Totals}
use Rattle.tallies.proofs.counts.count_cars.Given as goal

abbrev pub invariant-loop-c : goal.invariant-loop-c
invariant-loop-c l = Totals l.cars l.rosters l.from l.many l.c l.row
