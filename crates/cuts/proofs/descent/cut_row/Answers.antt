-- The cut in one row of blocks: each turn stores what lies in one block after those before it.
use Rattle.cuts.specs.LoopLaws.{row-begins, row_room, row-turns, row_ends}
use borrow.Author.Rules.{rules}
use Rattle.cuts.proofs.descent.cut_row.Goals as goal

pub loop-column-init : goal.loop-column-init
loop-column-init c = row-begins c.requires c.side-side.ensures _

pub overflow_add-row : goal.overflow_add-row
overflow_add-row c = let h = row_room c.requires c.side-side.ensures c.loop-column-test.true c.loop-column.invariant in search rules

pub cut_block-requires : goal.cut_block-requires
cut_block-requires c = row_room c.requires c.side-side.ensures c.loop-column-test.true c.loop-column.invariant

pub loop-column-preserved : goal.loop-column-preserved
loop-column-preserved c = row-turns c.requires c.side-side.ensures c.loop-column-test.true c.loop-column.invariant c.cut_block.ensures

pub returns : goal.returns
returns c = row_ends c.requires c.side-side.ensures c.loop-column.invariant c.loop-column-test.false
