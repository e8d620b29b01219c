-- `pack_keys` moves the keys of other zones to the front and the starts after each key of zone z down by one more.
use Rattle.std.proofs.Common.{arith}
use Rattle.entries.specs.DropLaws.{drop-begins, drop-takes, drop-skips, drop-ends}
use Rattle.entries.proofs.entries.pack_keys.Goals as goal

pub loop-i-init : goal.loop-i-init
loop-i-init c = drop-begins _ _ _

pub loop-i-preserved-then-key-z : goal.loop-i-preserved-then-key-z
loop-i-preserved-then-key-z c = drop-takes c.loop-i.invariant (omega arith) c.if-key-z.true

pub loop-i-preserved : goal.loop-i-preserved
loop-i-preserved c = drop-skips c.loop-i.invariant (omega arith) c.if-key-z.false c.place_after.ensures c.shift_to-p.ensures (omega arith) (omega (arith, c.loop-i.auto.by-fits))

pub returns : goal.returns
returns c = drop-ends c.loop-i.invariant (omega arith) c.shift_to.ensures
