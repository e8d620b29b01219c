-- `starts_right`: each place is asked, up to the first whose list does not start where it should.
use Rattle.std.proofs.Common.{refl, ◌∙◌, arith, rules, tests}
use Rattle.std.proofs.lemmas.Iterator.{YieldsList-from_range}
use Rattle.std.proofs.lemmas.Iterator.Search.{all_from_yields_List}
use Rattle.std.specs.Prelude.{length}
use Rattle.soundness.specs.Tests.{start_right}
use Rattle.soundness.specs.EveryLaws.{every-range}
use Rattle.soundness.proofs.lists.starts_right.Goals as goal

pub returns : goal.returns
returns c =
    let p = start_right c.args.starts.now c.args.used.now (length c.args.used.now) in
    let n = length c.args.starts.now in
    all_from_yields_List p _ _ _ c.all.ensures.ran (YieldsList-from_range 0 n n refl (omega arith)) (λ x b q k. search (rules, tests)) ∙ every-range p n
