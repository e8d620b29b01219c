-- `write_list` puts the letter, 0, a number, a list and the feed.
use mathlib.Core.List.{[], ◌∷◌}
use native.Mathlib.Omega.{arith}
use Rattle.print.specs.Text.{number, members}
use Rattle.print.specs.TextLaws.{answer-more, answer-ends}
use Rattle.print.proofs.answers.write_list.Goals as goal

pub returns : goal.returns
returns c = let n = number c.args.n in
    let list = members c.args.list.now in
    let told = answer-more [] (number 0) c.put_byte-begun.ensures c.put_number-accepted.ensures in
    let told-n = answer-more (number 0 ∷ []) n told c.put_number-first.ensures in
    let told-list = answer-more (number 0 ∷ n ∷ []) list told-n c.put_members-end.ensures in
    answer-ends (number 0 ∷ n ∷ list ∷ []) told-list c.put_byte.ensures (omega arith)
