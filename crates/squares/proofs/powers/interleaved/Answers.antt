-- Two numbers interleaved are each spread, the second shifted by one.
use Rattle.squares.specs.SquareLaws.{interleaved-is}
use Rattle.squares.proofs.powers.interleaved.Goals as goal

pub returns : goal.returns
returns c = interleaved-is _ _ _ _ c.spread.ensures c.spread-2.ensures
