-- `slide` has moved up the numbers before i, and carries the one that goes in at i.
use Rattle.std.proofs.Common.{refl, arith, rules}
use Rattle.order.specs.BufferLaws.{slide-step, slide-carry, slide-end}
use Rattle.order.proofs.slide.Goals as goal

pub loop-i-init : goal.loop-i-init
loop-i-init c = (refl, (refl, refl))

pub loop-i-preserved : goal.loop-i-preserved
loop-i-preserved c = (slide-step _ _ _ _ _ (omega arith) c.loop-i.invariant.0 c.loop-i.invariant.1.0, (slide-carry _ _ _ _ (omega arith) c.loop-i.invariant.0, search rules))

pub returns : goal.returns
returns c = slide-end c.args.x c.args.part.now _ c.loop-i.i c.loop-i.invariant.0 (omega arith) (omega arith)
