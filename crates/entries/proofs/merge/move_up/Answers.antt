-- `move_up` has moved the numbers from i up to the end: moving the others leaves what moving all does.
use Rattle.std.proofs.Common.{sym, refl, ◌∙◌, arith, rules}
use Rattle.entries.specs.MergeLaws.{moved_more, moved_all}
use Rattle.entries.proofs.merge.move_up.Goals as goal

pub loop-i-init : goal.loop-i-init
loop-i-init c = (search rules, (refl, refl))

pub loop-i-preserved : goal.loop-i-preserved
loop-i-preserved c = (search rules, (search rules, c.loop-i.invariant.1.1 ∙ moved_more _ _ _ _ (omega arith)))

pub returns : goal.returns
returns c = sym (c.loop-i.invariant.1.1 ∙ moved_all _ _ _ _ (omega arith))
