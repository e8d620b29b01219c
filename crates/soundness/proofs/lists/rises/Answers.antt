-- `rises`: each entry is below the next.
use Rattle.std.proofs.Common.{ltb, rules, tests}
use Rattle.std.proofs.lemmas.List.Sorted.{answers_always}
use Rattle.soundness.specs.EveryLaws.{every-next}
use Rattle.soundness.proofs.lists.rises.Goals as goal

pub returns : goal.returns
returns c = every-next ltb c.args.entries.now _ (c.is_sorted_by.ensures.cases ltb (answers_always _ _ _ (λ f a r g h. search (rules, tests))))
