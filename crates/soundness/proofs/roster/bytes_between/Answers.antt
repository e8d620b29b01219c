-- `bytes_between`: the bytes passed are asked, one with the other.
use Rattle.soundness.specs.Tests.{says}
use Rattle.soundness.specs.EveryLaws.{asked-none, asked-more, asked-end}
use Rattle.soundness.proofs.roster.bytes_between.Goals as goal

pub loop-c-init : goal.loop-c-init
loop-c-init c = asked-none _ _

pub loop-c-preserved : goal.loop-c-preserved
loop-c-preserved c = asked-more _ _ _ _ c.loop-c.invariant c.loop-c-test.true _ (rw (← c.car_between.ensures) c.is_bit-right.ensures)

pub returns : goal.returns
unfolding says
returns c = asked-end _ _ _ _ c.loop-c.invariant c.loop-c-test.false
