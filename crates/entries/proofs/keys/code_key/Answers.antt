-- `code_key` is the key of a square's place: it fits in 32 bits.
use Rattle.std.proofs.Common.{arith}
use Rattle.squares.specs.ShapeLaws.{squares-few}
use Rattle.entries.proofs.keys.code_key.Goals as goal

pub overflow_cast-result : goal.overflow_cast-result
overflow_cast-result c = omega (arith, squares-few _ c.requires.shape)

pub overflow_mul-result : goal.overflow_mul-result
overflow_mul-result c = omega (arith, squares-few _ c.requires.shape)

pub overflow_add-result : goal.overflow_add-result
overflow_add-result c = omega (arith, squares-few _ c.requires.shape)
