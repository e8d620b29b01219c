-- `sink`: what its loop keeps, and the number that falls with each turn.
use Prim.Native.Nat.{◌+◌, ◌-◌}
use Rattle.rides.specs.SinkLaws.{Sinking}
use Rattle.rides.proofs.sink.sink.Given as goal

abbrev pub invariant-loop-a : goal.invariant-loop-a
invariant-loop-a l = Sinking l.keys.starts.now l.keys.n l.keys.gone.now l.keys.come.now l.initial.entries l.entries l.from l.end l.m l.i l.j l.at l.a l.b

abbrev pub decreases-loop-a : goal.decreases-loop-a
decreases-loop-a l = l.i - l.a + (l.j - l.b)
