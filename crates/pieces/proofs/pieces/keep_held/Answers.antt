-- `keep_held` fills the bytes that are not held with 0.
use native.Mathlib.Omega.{arith}
use Rattle.pieces.specs.PieceLaws.{zero-fills, zero-ends}
use Rattle.pieces.proofs.pieces.keep_held.Goals as goal

pub returns : goal.returns
returns c = zero-ends (zero-fills c.requires.0 c.requires.1 (c.fill.ensures.after (λ y h. h))) (omega arith) (omega arith)
