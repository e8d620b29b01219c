-- `climb_to_zone`: what its loop keeps, and the number that falls with each turn.
use Prim.Native.Nat.{suc, ◌-◌}
use Rattle.lookup.specs.ClimbLaws.{Climbing}
use Rattle.lookup.proofs.climb.climb_to_zone.Given as goal

abbrev pub invariant-loop-s : goal.invariant-loop-s
invariant-loop-s l = Climbing l.s l.fn.cell.x l.fn.cell.y l.starts l.place l.levels

abbrev pub decreases-loop-s : goal.decreases-loop-s
decreases-loop-s l = suc l.s.k - l.levels
