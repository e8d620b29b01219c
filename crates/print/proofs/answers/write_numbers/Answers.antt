-- `write_numbers` puts the letter, 0, two numbers and the feed.
use mathlib.Core.List.{[], ◌∷◌}
use native.Mathlib.Omega.{arith}
use Rattle.print.specs.Text.{number}
use Rattle.print.specs.TextLaws.{answer-more, answer-ends}
use Rattle.print.proofs.answers.write_numbers.Goals as goal

pub returns : goal.returns
returns c = let n = number c.args.n in
    let m = number c.args.m in
    let told = answer-more [] (number 0) c.put_byte-begun.ensures c.put_number-accepted.ensures in
    let told-n = answer-more (number 0 ∷ []) n told c.put_number-first.ensures in
    let told-m = answer-more (number 0 ∷ n ∷ []) m told-n c.put_number-end.ensures in
    answer-ends (number 0 ∷ n ∷ m ∷ []) told-m c.put_byte.ensures (omega arith)
