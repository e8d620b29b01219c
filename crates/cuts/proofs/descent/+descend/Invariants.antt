-- `descend`: what its loop keeps.
use Rattle.std.proofs.Common.{◌-◌}
use Rattle.cuts.specs.StepLaws.{ChildTurn}
use Rattle.cuts.proofs.descent.+descend.Given as goal

-- each call is one level lower
abbrev pub decreases-descend : goal.decreases-descend
decreases-descend l = 6 - l.level

abbrev pub invariant-loop-c : goal.invariant-loop-c
invariant-loop-c l = ChildTurn l.r l.level l.q.x l.q.y l.q.side l.n l.initial.out l.out l.initial.next l.next l.c
