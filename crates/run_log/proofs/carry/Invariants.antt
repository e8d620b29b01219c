-- `carry` answers and writes a part of the piece after the other, until all is read.
use Rattle.std.proofs.Common.{length, ◌-◌}
use Rattle.tables.specs.Tables.{tables}
use Rattle.run_log.specs.CarriedLaws.{Carrying}
use Rattle.run_log.proofs.carry.Given as goal

abbrev pub invariant-loop-at : goal.invariant-loop-at
invariant-loop-at g l = Carrying (tables l.initial.head l.initial.zones l.initial.cars l.initial.spots l.initial.starts l.initial.entries l.initial.rosters l.initial.tallies) (tables l.head l.zones l.cars l.spots l.starts l.entries l.rosters l.tallies) l.piece l.initial.held l.held l.initial.out l.out l.at

abbrev pub decreases-loop-at : goal.decreases-loop-at
decreases-loop-at g l = length l.piece - l.at
