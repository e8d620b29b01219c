-- `shift_to`: what its loop keeps.
use Rattle.starts.specs.Shift.{Shifting}
use Rattle.starts.proofs.shift.shift_to.Given as goal

abbrev pub invariant-loop-q : goal.invariant-loop-q
invariant-loop-q l = Shifting l.initial.list l.list l.p l.end l.v l.q
