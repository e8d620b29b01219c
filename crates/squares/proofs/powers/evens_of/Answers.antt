-- Every other bit of a number: each turn puts one bit above those already there.
use Rattle.std.proofs.Common.{arith}
use Rattle.squares.specs.PowerLaws.{digits_more, digits-end, evens-turn, evens-end}
use Rattle.squares.proofs.powers.evens_of.Goals as goal

pub loop-preserved : goal.loop-preserved
loop-preserved c = digits_more 2 _ _ _ _ _ _ _ _ c.loop-test.true (evens-turn _ _ _ c.loop-test.true) (omega arith) c.loop.invariant

pub returns : goal.returns
returns c = digits-end 2 _ _ _ _ _ _ c.loop.invariant c.loop-test.false (evens-end _ _ _ c.loop-test.false)
