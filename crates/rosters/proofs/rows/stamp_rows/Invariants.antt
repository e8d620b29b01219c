-- `stamp_rows`: what its loop keeps.
use Rattle.rosters.specs.RosterLaws.{Stamping}
use Rattle.rosters.proofs.rows.stamp_rows.Given as goal

abbrev pub invariant-loop-z : goal.invariant-loop-z
invariant-loop-z l = Stamping l.initial.rosters l.zones l.many l.c l.v l.rosters l.z-index
