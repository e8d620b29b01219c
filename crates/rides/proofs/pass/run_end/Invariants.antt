-- `run_end`: what its loop keeps.
use Rattle.rides.specs.PassLaws.{Running}
use Rattle.rides.proofs.pass.run_end.Given as goal

abbrev pub invariant-loop-x : goal.invariant-loop-x
invariant-loop-x l = Running l.gone l.come l.m l.x l.up
