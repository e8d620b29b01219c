-- `move_counts`: what its loop keeps.
use Rattle.tallies.specs.CountLaws.{Moving}
use Rattle.tallies.proofs.counts.move_counts.Given as goal

abbrev pub invariant-loop-z : goal.invariant-loop-z
invariant-loop-z l = Moving l.initial.tallies l.zones l.g l.v l.tallies l.z-index
