-- `write_number` puts the letter, one number and the feed.
use mathlib.Core.List.{[], ◌∷◌}
use native.Mathlib.Omega.{arith}
use Rattle.print.specs.Text.{number}
use Rattle.print.specs.TextLaws.{answer-more, answer-ends}
use Rattle.print.proofs.answers.write_number.Goals as goal

pub returns : goal.returns
returns c = let n = number c.args.n in
    answer-ends (n ∷ []) (answer-more [] n c.put_byte-begun.ensures c.put_number-end.ensures) c.put_byte.ensures (omega arith)
