-- The number of a cell's square: on level 0 the block, else the block's squares and the bits interleaved.
use Rattle.std.proofs.Common.{◌+◌, ◌*◌, ◌<◌, rules}
use Rattle.squares.specs.ShapeLaws.{number_is, number_small, number-none}
use Rattle.squares.proofs.shape.Shape.number.Goals as goal

pub returns-then-level-eq0 : goal.returns-then-level-eq0
returns-then-level-eq0 c = number-none _ _ _ c.if-level-eq0.true c.block.ensures

pub overflow_mul-result : goal.overflow_mul-result
overflow_mul-result c =
    let small : c.four_to.result * c.block-2.result + c.interleaved-local.result < 65536 = number_small _ _ _ _ _ _ _ _ _ c.requires.on_level c.side-side.ensures c.side_on-part.ensures c.four_to.ensures c.block-2.ensures c.interleaved-local.ensures in
    let h = small in search rules

pub overflow_add-result : goal.overflow_add-result
overflow_add-result c =
    let small : c.four_to.result * c.block-2.result + c.interleaved-local.result < 65536 = number_small _ _ _ _ _ _ _ _ _ c.requires.on_level c.side-side.ensures c.side_on-part.ensures c.four_to.ensures c.block-2.ensures c.interleaved-local.ensures in
    let h = small in search rules

pub returns : goal.returns
returns c = number_is _ _ _ _ _ _ _ _ _ c.requires.on_level c.side-side.ensures c.side_on-part.ensures c.four_to.ensures c.block-2.ensures c.interleaved-local.ensures
