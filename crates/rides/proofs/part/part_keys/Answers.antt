-- `part_keys` passes the lower of the next numbers of both lists, which is kept, or both where they are equal.
use native.Mathlib.Omega.{arith}
use Rattle.rides.specs.PartLaws.{part-first, part-second, part-both, part-ends}
use Rattle.rides.proofs.part.part_keys.Goals as goal

pub loop-i-preserved-then-is_lower : goal.loop-i-preserved-then-is_lower
loop-i-preserved-then-is_lower c = part-first _ _ _ c.requires c.loop-i.invariant c.is_lower.ensures c.if-is_lower.true

pub loop-i-preserved-then-is_lower-2 : goal.loop-i-preserved-then-is_lower-2
loop-i-preserved-then-is_lower-2 c = part-second _ _ _ c.requires c.loop-i.invariant c.is_lower-in-loop-i.ensures c.if-is_lower-2.true

pub loop-i-preserved : goal.loop-i-preserved
loop-i-preserved c = part-both _ _ _ c.requires c.loop-i.invariant (omega arith) c.is_lower.ensures c.if-is_lower.false c.is_lower-in-loop-i.ensures c.if-is_lower-2.false

pub returns : goal.returns
returns c = part-ends _ _ _ c.requires c.loop-i.invariant (omega arith)
