-- `move_down`: what its loop keeps.
use Rattle.entries.specs.GapLaws.{Sliding}
use Rattle.entries.proofs.gaps.move_down.Given as goal

abbrev pub invariant-loop-i : goal.invariant-loop-i
invariant-loop-i l = Sliding l.initial.list l.list l.from l.end l.by l.i
