-- How many squares a town has, and that the product fits.
use Rattle.squares.specs.ShapeLaws.{blocks-small, squares-is}
use Rattle.std.proofs.Common.{rules}
use Rattle.squares.proofs.shape.Shape.squares.Goals as goal

pub overflow_mul-result : goal.overflow_mul-result
overflow_mul-result c = let h = blocks-small _ c.requires in search rules

pub overflow_mul-result-2 : goal.overflow_mul-result-2
overflow_mul-result-2 c = let h = squares-is _ c.requires _ c.four_to.ensures in search rules

pub returns : goal.returns
returns c = (squares-is _ c.requires _ c.four_to.ensures).1
