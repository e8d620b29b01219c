-- The block of a cell, by its column and row of blocks.
use Rattle.squares.specs.ShapeLaws.{blocks-small, block-is}
use Rattle.std.proofs.Common.{rules}
use Rattle.squares.proofs.shape.Shape.block.Goals as goal

pub overflow_mul-result : goal.overflow_mul-result
overflow_mul-result c = let h = blocks-small _ c.requires.shape in let b = block-is _ c.requires.shape _ c.side-side.ensures _ _ c.requires.column c.requires.row in search rules

pub overflow_add-result : goal.overflow_add-result
overflow_add-result c = let h = blocks-small _ c.requires.shape in let b = block-is _ c.requires.shape _ c.side-side.ensures _ _ c.requires.column c.requires.row in search rules

pub returns : goal.returns
returns c = block-is _ c.requires.shape _ c.side-side.ensures _ _ c.requires.column c.requires.row
