-- `run` reads piece after piece, carries each out, and then answers what is held. Its arrays are all 0 at the start.
use Rattle.tables.specs.Tables.{tables}
use Rattle.run_log.specs.CarriedLaws.{Running}
use Rattle.run_log.proofs.run.Given as goal

abbrev pub invariant-loop : goal.invariant-loop
invariant-loop g l = Running (tables l.head l.zones l.cars l.spots l.starts l.entries l.rosters l.tallies) l.piece l.held l.out
