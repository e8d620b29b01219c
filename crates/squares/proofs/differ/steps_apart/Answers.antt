-- The squares that differ, from the highest bit in which the columns or the rows differ.
use Rattle.std.proofs.Common.{arith}
use Rattle.squares.specs.DifferLaws.{steps-some, steps_all}
use Rattle.squares.proofs.differ.steps_apart.Goals as goal

pub returns-then-k-steps : goal.returns-then-k-steps
returns-then-k-steps c = steps_all (omega arith) (omega arith) (omega arith) (omega arith) c.if-k-steps.true

pub returns : goal.returns
returns c = steps-some (omega arith) (omega arith) (omega arith) (omega arith) c.if-k-steps.false
