-- `remove_zone` clears the zone's record, its keys, its row and its count, past the refusals.
use mathlib.Core.Path.{refl, ap, ◌∙◌}
use Rattle.std.proofs.lemmas.Result.{err_from_is_err_and}
use Rattle.squares.specs.RefusalLaws.{none-refused}
use native.Mathlib.Omega.{arith}
use Rattle.tables.specs.Lent.{given_zone}
use Rattle.model.specs.Model.{removing, meaning}
use Rattle.promises.specs.PromiseLaws.{keeps-by}
use Rattle.promises.specs.Promise.{bars}
use Rattle.tables.specs.Tables.{Tables}
use Rattle.tables.specs.TallyLaws.{tally-in}
use Rattle.promises.specs.StandingLaws.{There, zone-there}
use Rattle.zones.specs.RemoveLaws.{record-there, row-there, keys-there, remove-kept}
use Rattle.zones.proofs.remove.remove_zone.Goals as goal

pub returns-in_err-refuse_zone : goal.returns-in_err-refuse_zone
unfolding meaning
returns-in_err-refuse_zone c =
    let p = err_from_is_err_and c.from_residual.result c.from_residual.ensures.1 in
    rw (p.1, p.2) (keeps-by _ _ _ (c.refuse_zone.ensures ∙ ap (λ (t : Tables). bars t (removing c.args.zone)) c.seen.ensures) c.in_err-refuse_zone.was refl)

pub shape_in-s-requires : goal.shape_in-s-requires
shape_in-s-requires c =
    let there : There (given_zone c.args.town) c.args.zone = zone-there _ _ (none-refused (c.refuse_zone.ensures ∙ ap (λ (t : Tables). bars t (removing c.args.zone)) c.seen.ensures) c.in_ok-refuse_zone.was) in
    omega (arith, there.size.lengths.head)

pub rect_in-r-requires : goal.rect_in-r-requires
rect_in-r-requires c =
    let there : There (given_zone c.args.town) c.args.zone = zone-there _ _ (none-refused (c.refuse_zone.ensures ∙ ap (λ (t : Tables). bars t (removing c.args.zone)) c.seen.ensures) c.in_ok-refuse_zone.was) in
    record-there there

pub car_room-many-requires : goal.car_room-many-requires
car_room-many-requires c =
    let there : There (given_zone c.args.town) c.args.zone = zone-there _ _ (none-refused (c.refuse_zone.ensures ∙ ap (λ (t : Tables). bars t (removing c.args.zone)) c.seen.ensures) c.in_ok-refuse_zone.was) in
    omega (arith, there.size.lengths.head)

pub clear_zone-requires : goal.clear_zone-requires
clear_zone-requires c =
    let there : There (given_zone c.args.town) c.args.zone = zone-there _ _ (none-refused (c.refuse_zone.ensures ∙ ap (λ (t : Tables). bars t (removing c.args.zone)) c.seen.ensures) c.in_ok-refuse_zone.was) in
    record-there there

pub drop_keys-requires : goal.drop_keys-requires
drop_keys-requires c =
    let there : There (given_zone c.args.town) c.args.zone = zone-there _ _ (none-refused (c.refuse_zone.ensures ∙ ap (λ (t : Tables). bars t (removing c.args.zone)) c.seen.ensures) c.in_ok-refuse_zone.was) in
    keys-there there c.shape_in-s.ensures

pub clear_row-requires : goal.clear_row-requires
clear_row-requires c =
    let there : There (given_zone c.args.town) c.args.zone = zone-there _ _ (none-refused (c.refuse_zone.ensures ∙ ap (λ (t : Tables). bars t (removing c.args.zone)) c.seen.ensures) c.in_ok-refuse_zone.was) in
    rw c.car_room-many.ensures (row-there there)

pub clear_tally-requires : goal.clear_tally-requires
clear_tally-requires c =
    let there : There (given_zone c.args.town) c.args.zone = zone-there _ _ (none-refused (c.refuse_zone.ensures ∙ ap (λ (t : Tables). bars t (removing c.args.zone)) c.seen.ensures) c.in_ok-refuse_zone.was) in
    let k = there in omega (arith, tally-in _ k.size _ k.zone)

pub returns : goal.returns
returns c =
    let there : There (given_zone c.args.town) c.args.zone = zone-there _ _ (none-refused (c.refuse_zone.ensures ∙ ap (λ (t : Tables). bars t (removing c.args.zone)) c.seen.ensures) c.in_ok-refuse_zone.was) in
    remove-kept there c.shape_in-s.ensures c.rect_in-r.ensures c.car_room-many.ensures c.clear_zone.ensures c.drop_keys.ensures c.clear_row.ensures c.clear_tally.ensures
