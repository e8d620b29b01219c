-- `bytes_clear`: the bytes passed are asked, one with the other.
use Rattle.std.proofs.Common.{refl}
use Rattle.soundness.specs.Tests.{says}
use Rattle.soundness.specs.EveryLaws.{asked-none, asked-more, asked-end}
use Rattle.soundness.proofs.roster.bytes_clear.Goals as goal

pub loop-byte-init : goal.loop-byte-init
loop-byte-init c = asked-none _ _

pub loop-byte-preserved : goal.loop-byte-preserved
loop-byte-preserved c = asked-more _ _ _ _ c.loop-byte.invariant c.loop-byte-test.true _ refl

pub returns : goal.returns
unfolding says
returns c = asked-end _ _ _ _ c.loop-byte.invariant c.loop-byte-test.false
