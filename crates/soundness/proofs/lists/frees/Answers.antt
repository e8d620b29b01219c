-- `frees`: each entry is asked, up to the first that is not the free mark.
use Rattle.std.proofs.Common.{ℕ, eqb, ◌∙◌, rules, tests}
use Rattle.std.proofs.lemmas.Iterator.{YieldsList-from_slice}
use Rattle.std.proofs.lemmas.Iterator.Search.{all_from_yields_List}
use Rattle.soundness.specs.EveryLaws.{every-list}
use Rattle.tables.specs.Derived.{free}
use Rattle.soundness.proofs.lists.frees.Goals as goal

pub returns : goal.returns
returns c =
    all_from_yields_List (λ (x : ℕ). eqb x free) _ _ _ c.all.ensures.ran (YieldsList-from_slice c.args.entries.now (cc)) (λ x b q k. search (rules, tests)) ∙ every-list (λ (x : ℕ). eqb x free) 0 c.args.entries.now
