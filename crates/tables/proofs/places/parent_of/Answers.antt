-- `parent_of` takes a quarter of what is left past the blocks; of a block that is 0.
use Rattle.squares.specs.ShapeLaws.{blocks-small}
use Rattle.std.proofs.Common.{rules}
use Rattle.tables.proofs.places.parent_of.Goals as goal

pub overflow_mul-blocks : goal.overflow_mul-blocks
overflow_mul-blocks c = let h = blocks-small _ c.requires in search rules
