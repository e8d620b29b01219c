-- How many squares a level has, and that the product fits.
use Rattle.squares.specs.ShapeLaws.{blocks-small, squares-on-is}
use Rattle.std.proofs.Common.{rules}
use Rattle.squares.proofs.shape.Shape.squares_on.Goals as goal

pub overflow_mul-result : goal.overflow_mul-result
overflow_mul-result c = let h = blocks-small _ c.requires.shape in search rules

pub overflow_mul-result-2 : goal.overflow_mul-result-2
overflow_mul-result-2 c = let h = squares-on-is _ c.requires.shape _ _ c.requires.level c.four_to.ensures in search rules

pub returns : goal.returns
returns c = squares-on-is _ c.requires.shape _ _ c.requires.level c.four_to.ensures
