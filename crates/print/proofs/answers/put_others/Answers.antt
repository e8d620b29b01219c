-- `put_others` has put the members before this one, each after a comma.
use Rattle.print.specs.TextLaws.{follow-begins, follow-turns}
use Rattle.print.proofs.answers.put_others.Goals as goal

pub loop-n-init : goal.loop-n-init
loop-n-init c = follow-begins _ _ _

pub loop-n-preserved : goal.loop-n-preserved
loop-n-preserved c = follow-turns c.loop-n.invariant c.loop-n-test.true c.put_number-next.ensures
