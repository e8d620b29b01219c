-- The square of a number: its corner from the block and the bits taken apart; nothing on the way wraps.
use Rattle.std.proofs.Common.{◌≤◌, arith}
use Rattle.squares.specs.Squares.{corner_x, corner_y}
use Rattle.squares.specs.ShapeLaws.{squares-small, across-fits, place-fits, corner-fits, column-few, row-few}
use Rattle.squares.proofs.shape.Shape.square.Goals as goal

pub overflow_mul-row : goal.overflow_mul-row
overflow_mul-row c =
    let few : c.args.n ≤ 65536 = omega (arith, squares-small _ c.requires.on_level.shape _ c.requires.on_level.level) in
    across-fits _ _ (row-few _ _ _ few) c.two_to-across.ensures.small

pub overflow_add-row : goal.overflow_add-row
overflow_add-row c =
    let few : c.args.n ≤ 65536 = omega (arith, squares-small _ c.requires.on_level.shape _ c.requires.on_level.level) in
    place-fits _ _ _ (row-few _ _ _ few) c.two_to-across.ensures.small (omega arith)

pub overflow_mul-result : goal.overflow_mul-result
overflow_mul-result c =
    let few : c.args.n ≤ 65536 = omega (arith, squares-small _ c.requires.on_level.shape _ c.requires.on_level.level) in
    corner-fits _ _ _ (column-few _ _ _ few) c.two_to-across.ensures.small (omega arith) _ c.side_on-side.ensures.small

pub overflow_mul-result-2 : goal.overflow_mul-result-2
overflow_mul-result-2 c =
    let few : c.args.n ≤ 65536 = omega (arith, squares-small _ c.requires.on_level.shape _ c.requires.on_level.level) in
    corner-fits _ _ _ (row-few _ _ _ few) c.two_to-across.ensures.small (omega arith) _ c.side_on-side.ensures.small

pub returns : goal.returns
returns c = unfold corner_x corner_y in rw (c.evens_of-2.ensures.is, c.evens_of.ensures.is, c.four_to.ensures.is, c.two_to-across.ensures.is, c.side_on-side.ensures.is)
