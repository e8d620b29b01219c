-- `rosters_right`: each row is asked, up to the first that is not right, and the rows together are all the bytes.
use Rattle.std.proofs.Common.{ℕ, ◌+◌, ◌-◌, ◌*◌, take, drop, refl, ◌∙◌, arith, rules, tests}
use Rattle.std.proofs.lemmas.Iterator.{YieldsList-from_range}
use Rattle.std.proofs.lemmas.Iterator.Search.{all_from_yields_List}
use Rattle.soundness.specs.Tests.{says, has}
use Rattle.soundness.specs.EveryLaws.{every-range, every-ext, every-rows}
use Rattle.soundness.specs.RosterLaws.{row_right, row-bytes}
use Rattle.soundness.proofs.roster.rosters_right.Goals as goal

pub returns : goal.returns
returns c =
    let a = c.args in
    let given = c.requires in
    let p = λ (z : ℕ). says (take (z * a.cars.many + a.cars.many - z * a.cars.many) (drop (z * a.cars.many) a.rosters.now)) (has a.zones.s a.zones.zones.now a.cars.cars.now a.cars.spots.now z) in
    all_from_yields_List p _ _ _ c.all.ensures.ran (YieldsList-from_range 0 a.zones.many a.zones.many refl (omega arith)) (λ x b q k. search (rules, tests))
    ∙ every-range p a.zones.many
    ∙ every-ext p (row_right a.zones.s a.zones.zones.now a.cars.cars.now a.cars.spots.now a.rosters.now a.cars.many) a.zones.many (λ z h. row-bytes given.fitting given.riding a.rosters.now given.rosters_len z h)
    ∙ every-rows _ a.cars.many a.zones.many
