-- `swap_starts`: what its loop keeps, and the number that falls with each turn.
use Rattle.std.proofs.Common.{◌+◌, ◌-◌}
use Rattle.starts.specs.SwapStartLaws.{Passing}
use Rattle.starts.proofs.swap.swap_starts.Given as goal

abbrev pub invariant-loop-i : goal.invariant-loop-i
invariant-loop-i l = Passing l.gone l.at l.come l.n l.initial.starts l.starts l.p l.by l.i l.j

abbrev pub decreases-loop-i : goal.decreases-loop-i
decreases-loop-i l = l.gone + (l.at + l.come) - (l.i + l.j)
