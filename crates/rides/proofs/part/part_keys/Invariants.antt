-- `part_keys`: what its loop keeps, and the number that falls with each turn.
use Prim.Native.Nat.{◌+◌, ◌-◌}
use Rattle.rides.specs.PartLaws.{Parting}
use Rattle.rides.proofs.part.part_keys.Given as goal

abbrev pub invariant-loop-i : goal.invariant-loop-i
invariant-loop-i l = Parting l.initial.keys l.keys l.n l.m l.i l.j l.gone l.come

abbrev pub decreases-loop-i : goal.decreases-loop-i
decreases-loop-i l = l.n + l.m - (l.i + l.j)
