-- `hold` has held the bytes of the part before this one, and stops at 81.
use Rattle.std.proofs.Common.{arith}
use Rattle.line.specs.LineLaws.{hold-begins, hold-turns, hold-ends, hold-full}
use Rattle.line.proofs.lines.hold.Goals as goal

pub loop-byte-init : goal.loop-byte-init
loop-byte-init c = hold-begins _ _ _ c.requires

pub returns-then-m-eq81 : goal.returns-then-m-eq81
returns-then-m-eq81 c = hold-full c.requires c.loop-byte.invariant c.if-m-eq81.true

pub loop-byte-preserved : goal.loop-byte-preserved
loop-byte-preserved c = hold-turns c.requires c.loop-byte.invariant (omega arith) c.if-m-eq81.false

pub returns : goal.returns
returns c = hold-ends c.requires c.loop-byte.invariant (omega arith)
