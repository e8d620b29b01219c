-- The cut row by row of blocks: each turn stores one row after those before it.
use Rattle.cuts.specs.LoopLaws.{rows-begin, rows-room, rows-turn, rows-ends}
use Rattle.cuts.proofs.descent.cut_rows.Goals as goal

pub loop-row-init : goal.loop-row-init
loop-row-init c = rows-begin c.requires c.side-side.ensures _

pub cut_row-requires : goal.cut_row-requires
cut_row-requires c = rows-room c.requires c.side-side.ensures c.loop-row-test.true c.loop-row.invariant

pub loop-row-preserved : goal.loop-row-preserved
loop-row-preserved c = rows-turn c.requires c.side-side.ensures c.loop-row-test.true c.loop-row.invariant c.cut_row.ensures

pub returns : goal.returns
returns c = rows-ends c.requires c.side-side.ensures c.loop-row.invariant c.loop-row-test.false
