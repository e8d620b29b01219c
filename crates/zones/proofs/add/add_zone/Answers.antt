-- `add_zone` counts the cut, and writes the zone's record, its keys, its row and its count, past the refusals.
use Prim.Native.Nat.{◌-◌, ◌<◌}
use mathlib.Core.Path.{refl, ap, ◌∙◌}
use Rattle.std.proofs.lemmas.Result.{err_from_is_err_and}
use Rattle.squares.specs.RefusalLaws.{none-refused}
use native.Mathlib.Omega.{arith}
use lib.ListN.{length, get_or}
use Rattle.tables.specs.Lent.{given_zone}
use Rattle.model.specs.Model.{adding, meaning}
use Rattle.promises.specs.PromiseLaws.{keeps-by}
use Rattle.promises.specs.Promise.{bars}
use Rattle.tables.specs.Tables.{Tables}
use Rattle.zones.specs.AddLaws.{New, new-zone, record-there, cut-room, keys-there, row-there, cars-there, add-full, add_kept}
use Rattle.zones.proofs.add.add_zone.Goals as goal

pub returns-in_err-refuse_new : goal.returns-in_err-refuse_new
unfolding meaning
returns-in_err-refuse_new c =
    let p = err_from_is_err_and c.from_residual.result c.from_residual.ensures.1 in
    rw (p.1, p.2) (keeps-by _ _ _ (c.refuse_new.ensures ∙ ap (λ (t : Tables). bars t (adding c.args.zone c.args.r)) c.seen.ensures) c.in_err-refuse_new.was refl)

pub shape_in-s-requires : goal.shape_in-s-requires
shape_in-s-requires c =
    let new : New (given_zone c.args.town) c.args.zone c.args.r = new-zone _ _ _ (none-refused (c.refuse_new.ensures ∙ ap (λ (t : Tables). bars t (adding c.args.zone c.args.r)) c.seen.ensures) c.in_ok-refuse_new.was) in
    omega (arith, new.size.lengths.head)

pub overflow_sub-used : goal.overflow_sub-used
overflow_sub-used c =
    let new : New (given_zone c.args.town) c.args.zone c.args.r = new-zone _ _ _ (none-refused (c.refuse_new.ensures ∙ ap (λ (t : Tables). bars t (adding c.args.zone c.args.r)) c.seen.ensures) c.in_ok-refuse_new.was) in
    omega (arith, new.size.lengths.starts)

pub bounds-starts-starts : goal.bounds-starts-starts
bounds-starts-starts c =
    let new : New (given_zone c.args.town) c.args.zone c.args.r = new-zone _ _ _ (none-refused (c.refuse_new.ensures ∙ ap (λ (t : Tables). bars t (adding c.args.zone c.args.r)) c.seen.ensures) c.in_ok-refuse_new.was) in
    omega (arith, new.size.lengths.starts)

pub overflow_cast-used : goal.overflow_cast-used
overflow_cast-used c =
    let small : let starts = c.args.town.starts.now in get_or starts (length starts - 1) 0 < 4294967296 = omega (arith, c.slice_known-1.given (length c.args.town.starts.now - 1)) in
    omega (arith, small)

pub cut_count-n-requires : goal.cut_count-n-requires
cut_count-n-requires c =
    let new : New (given_zone c.args.town) c.args.zone c.args.r = new-zone _ _ _ (none-refused (c.refuse_new.ensures ∙ ap (λ (t : Tables). bars t (adding c.args.zone c.args.r)) c.seen.ensures) c.in_ok-refuse_new.was) in
    cut-room new c.shape_in-s.ensures

pub overflow_add-used : goal.overflow_add-used
overflow_add-used c =
    let small : let starts = c.args.town.starts.now in get_or starts (length starts - 1) 0 < 4294967296 = omega (arith, c.slice_known-1.given (length c.args.town.starts.now - 1)) in
    omega (arith, small, c.cut_count-n.ensures.few)

pub returns-then-entries-used : goal.returns-then-entries-used
returns-then-entries-used c =
    let new : New (given_zone c.args.town) c.args.zone c.args.r = new-zone _ _ _ (none-refused (c.refuse_new.ensures ∙ ap (λ (t : Tables). bars t (adding c.args.zone c.args.r)) c.seen.ensures) c.in_ok-refuse_new.was) in
    add-full new c.shape_in-s.ensures refl c.cut_count-n.ensures.is c.if-entries-used.true

pub car_room-many-requires : goal.car_room-many-requires
car_room-many-requires c =
    let new : New (given_zone c.args.town) c.args.zone c.args.r = new-zone _ _ _ (none-refused (c.refuse_new.ensures ∙ ap (λ (t : Tables). bars t (adding c.args.zone c.args.r)) c.seen.ensures) c.in_ok-refuse_new.was) in
    omega (arith, new.size.lengths.head)

pub write_zone-requires : goal.write_zone-requires
write_zone-requires c =
    let new : New (given_zone c.args.town) c.args.zone c.args.r = new-zone _ _ _ (none-refused (c.refuse_new.ensures ∙ ap (λ (t : Tables). bars t (adding c.args.zone c.args.r)) c.seen.ensures) c.in_ok-refuse_new.was) in
    record-there new

pub add_keys-requires : goal.add_keys-requires
add_keys-requires c =
    let new : New (given_zone c.args.town) c.args.zone c.args.r = new-zone _ _ _ (none-refused (c.refuse_new.ensures ∙ ap (λ (t : Tables). bars t (adding c.args.zone c.args.r)) c.seen.ensures) c.in_ok-refuse_new.was) in
    keys-there new c.shape_in-s.ensures c.cut_count-n.ensures.is c.if-entries-used.false

pub fill_row-inside-requires : goal.fill_row-inside-requires
fill_row-inside-requires c =
    let new : New (given_zone c.args.town) c.args.zone c.args.r = new-zone _ _ _ (none-refused (c.refuse_new.ensures ∙ ap (λ (t : Tables). bars t (adding c.args.zone c.args.r)) c.seen.ensures) c.in_ok-refuse_new.was) in
    let asked = row-there new c.shape_in-s.ensures c.car_room-many.ensures in record { parked = asked.0; row_there = asked.1.0; fits = asked.1.1 }

pub fill_tally-requires : goal.fill_tally-requires
fill_tally-requires c =
    let new : New (given_zone c.args.town) c.args.zone c.args.r = new-zone _ _ _ (none-refused (c.refuse_new.ensures ∙ ap (λ (t : Tables). bars t (adding c.args.zone c.args.r)) c.seen.ensures) c.in_ok-refuse_new.was) in
    let asked = cars-there new c.shape_in-s.ensures c.car_room-many.ensures c.fill_row-inside.ensures in record { row_there = asked.0; tally_in_bounds = asked.1 }

pub returns : goal.returns
returns c =
    let new : New (given_zone c.args.town) c.args.zone c.args.r = new-zone _ _ _ (none-refused (c.refuse_new.ensures ∙ ap (λ (t : Tables). bars t (adding c.args.zone c.args.r)) c.seen.ensures) c.in_ok-refuse_new.was) in
    add_kept new c.shape_in-s.ensures refl c.cut_count-n.ensures.is c.if-entries-used.false c.car_room-many.ensures c.write_zone.ensures c.add_keys.ensures c.fill_row-inside.ensures c.fill_tally.ensures
