-- `lift`: what its loop keeps, and the number that falls with each turn.
use Prim.Native.Nat.{◌+◌}
use Rattle.rides.specs.LiftLaws.{Lifting}
use Rattle.rides.proofs.lift.lift.Given as goal

abbrev pub invariant-loop-j : goal.invariant-loop-j
invariant-loop-j l = Lifting l.keys.starts.now l.keys.n l.keys.gone.now l.keys.come.now l.initial.entries l.entries l.from l.fn.end l.m l.fn.i l.fn.j l.end l.i l.j

abbrev pub decreases-loop-j : goal.decreases-loop-j
decreases-loop-j l = l.i + l.j
