-- `tallies_right`: each zone is asked, up to the first whose numbers are not what its row and the cars' records give.
use Rattle.std.proofs.Common.{refl, ◌∙◌, arith, rules, tests}
use Rattle.std.proofs.lemmas.Iterator.{YieldsList-from_range}
use Rattle.std.proofs.lemmas.Iterator.Search.{all_from_yields_List}
use Rattle.std.specs.Prelude.{length}
use Rattle.soundness.specs.Tests.{tally_right}
use Rattle.soundness.specs.EveryLaws.{every-range}
use Rattle.soundness.proofs.tally.tallies_right.Goals as goal

pub returns : goal.returns
returns c =
    let p = tally_right c.args.cars.now c.args.rosters.now c.args.tallies.now (length c.args.cars.now) in
    all_from_yields_List p _ _ _ c.all.ensures.ran (YieldsList-from_range 0 c.args.Z c.args.Z refl (omega arith)) (λ x b q k. search (rules, tests)) ∙ every-range p c.args.Z
