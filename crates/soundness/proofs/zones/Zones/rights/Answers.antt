-- `rights`: each entry is asked, up to the first that is no key in use.
use Rattle.std.proofs.Common.{◌∙◌, rules, tests}
use Rattle.std.proofs.lemmas.Iterator.{YieldsList-from_slice}
use Rattle.std.proofs.lemmas.Iterator.Search.{all_from_yields_List}
use Rattle.soundness.specs.Tests.{key_right}
use Rattle.soundness.specs.EveryLaws.{every-list}
use Rattle.soundness.proofs.zones.Zones.rights.Goals as goal

pub returns : goal.returns
returns c =
    let p = key_right c.args.self.s c.args.self.zones.now in
    all_from_yields_List p _ _ _ c.all.ensures.ran (YieldsList-from_slice c.args.entries.now (cc)) (λ x b q k. search (rules, tests)) ∙ every-list p 0 c.args.entries.now
