-- `all_fit`: each zone is asked, up to the first that does not fit.
use Rattle.std.proofs.Common.{refl, ◌∙◌, arith, rules, tests}
use Rattle.std.proofs.lemmas.Iterator.{YieldsList-from_range}
use Rattle.std.proofs.lemmas.Iterator.Search.{all_from_yields_List}
use Rattle.soundness.specs.Tests.{zone_fits}
use Rattle.soundness.specs.EveryLaws.{every-range}
use Rattle.soundness.proofs.zones.Zones.all_fit.Goals as goal

pub returns : goal.returns
returns c =
    let p = zone_fits c.args.self.s c.args.self.zones.now in
    all_from_yields_List p _ _ _ c.all.ensures.ran (YieldsList-from_range 0 c.args.self.many c.args.self.many refl (omega arith)) (λ x b q k. search (rules, tests)) ∙ every-range p c.args.self.many
