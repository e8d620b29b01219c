-- `put_others`: what its loop keeps.
use Rattle.print.specs.TextLaws.{Follows}
use Rattle.print.proofs.answers.put_others.Given as goal

abbrev pub invariant-loop-n : goal.invariant-loop-n
invariant-loop-n l = Follows l.initial.out l.out l.at l.next l.list l.n-index
