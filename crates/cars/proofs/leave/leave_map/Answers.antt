-- `leave_map` marks the car off the map, looks into the squares of its cell, clears its byte in their zones' rows and turns their numbers.
use mathlib.Core.Path.{refl, ap, sym, ◌∙◌}
use native.Mathlib.Omega.{arith}
use Rattle.std.proofs.lemmas.Result.{err_from_is_err_and}
use Rattle.squares.specs.declared.refusal.Refusal.{Refusal}
use Rattle.squares.specs.RefusalLaws.{Clear, clear, before, after, short, some-number, refused-by, none-refused}
use Rattle.model.specs.Model.{ask_where, meaning}
use Rattle.tables.specs.Tables.{Tables}
use Rattle.tables.specs.Lent.{given_leave}
use Rattle.tables.specs.CheckLaws.{sized→}
use Rattle.promises.specs.Promise.{means, bars}
use Rattle.promises.specs.PromiseLaws.{keeps-refused}
use Rattle.cars.specs.LeaveLaws.{Leavable, may-leave, lost-kept, leave-asks, leave-kept}
use Rattle.cars.proofs.leave.leave_map.Goals as goal

pub returns-in_err-refuse_car : goal.returns-in_err-refuse_car
unfolding meaning
returns-in_err-refuse_car c =
    let p = err_from_is_err_and c.from_residual.result c.from_residual.ensures.1 in
    let told = refused-by (c.refuse_car.ensures ∙ ap (λ (t : Tables). bars t (ask_where c.args.car)) c.seen.ensures) c.in_err-refuse_car.was in
    rw (p.1, p.2) (keeps-refused _ _ _ _ (some-number _) (told ∙ sym (before (means (given_leave c.args.town) (ask_where c.args.car)).checks _ (λ z. some-number _ (told ∙ z)))) refl)

pub zone_room-requires : goal.zone_room-requires
unfolding meaning
zone_room-requires c =
    let own : Clear (means (given_leave c.args.town) (ask_where c.args.car)).checks = clear _ refl (none-refused (c.refuse_car.ensures ∙ ap (λ (t : Tables). bars t (ask_where c.args.car)) c.seen.ensures) c.in_ok-refuse_car.was) in
    omega (arith, (sized→ _ own.0).lengths.head)

pub returns-then-left-zone_room : goal.returns-then-left-zone_room
unfolding meaning
returns-then-left-zone_room c =
    let own : Clear (means (given_leave c.args.town) (ask_where c.args.car)).checks = clear _ refl (none-refused (c.refuse_car.ensures ∙ ap (λ (t : Tables). bars t (ask_where c.args.car)) c.seen.ensures) c.in_ok-refuse_car.was) in
    keeps-refused _ _ _ _ (some-number Refusal.Buffer) (after 0 (means (given_leave c.args.town) (ask_where c.args.car)).checks _ own (short c.zone_room.ensures c.if-left-zone_room.true)) refl

pub shape_in-s-requires : goal.shape_in-s-requires
shape_in-s-requires c =
    let ok : Leavable (given_leave c.args.town) c.args.car c.args.left.now = may-leave _ _ _ (none-refused (c.refuse_car.ensures ∙ ap (λ (t : Tables). bars t (ask_where c.args.car)) c.seen.ensures) c.in_ok-refuse_car.was) c.zone_room.ensures c.if-left-zone_room.false in
    omega (arith, ok.size.lengths.head)

pub slot_in-team-requires : goal.slot_in-team-requires
slot_in-team-requires c =
    let ok : Leavable (given_leave c.args.town) c.args.car c.args.left.now = may-leave _ _ _ (none-refused (c.refuse_car.ensures ∙ ap (λ (t : Tables). bars t (ask_where c.args.car)) c.seen.ensures) c.in_ok-refuse_car.was) c.zone_room.ensures c.if-left-zone_room.false in
    omega (arith, ok.size.lengths.cars, ok.car)

pub write_car-requires : goal.write_car-requires
write_car-requires c =
    let ok : Leavable (given_leave c.args.town) c.args.car c.args.left.now = may-leave _ _ _ (none-refused (c.refuse_car.ensures ∙ ap (λ (t : Tables). bars t (ask_where c.args.car)) c.seen.ensures) c.in_ok-refuse_car.was) c.zone_room.ensures c.if-left-zone_room.false in
    omega (arith, ok.size.lengths.cars, ok.car)

pub spot_in-requires : goal.spot_in-requires
spot_in-requires c =
    let ok : Leavable (given_leave c.args.town) c.args.car c.args.left.now = may-leave _ _ _ (none-refused (c.refuse_car.ensures ∙ ap (λ (t : Tables). bars t (ask_where c.args.car)) c.seen.ensures) c.in_ok-refuse_car.was) c.zone_room.ensures c.if-left-zone_room.false in
    omega (arith, ok.size.lengths.spots, ok.car)

pub returns-in_default : goal.returns-in_default
returns-in_default c =
    let ok : Leavable (given_leave c.args.town) c.args.car c.args.left.now = may-leave _ _ _ (none-refused (c.refuse_car.ensures ∙ ap (λ (t : Tables). bars t (ask_where c.args.car)) c.seen.ensures) c.in_ok-refuse_car.was) c.zone_room.ensures c.if-left-zone_room.false in
    lost-kept ok c.shape_in-s.ensures c.spot_in.ensures c.locate.ensures c.in_default.is _

pub look_up-looked-requires : goal.look_up-looked-requires
look_up-looked-requires c =
    let ok : Leavable (given_leave c.args.town) c.args.car c.args.left.now = may-leave _ _ _ (none-refused (c.refuse_car.ensures ∙ ap (λ (t : Tables). bars t (ask_where c.args.car)) c.seen.ensures) c.in_ok-refuse_car.was) c.zone_room.ensures c.if-left-zone_room.false in
    let asked = leave-asks ok c.shape_in-s.ensures c.spot_in.ensures c.locate.ensures c.in-Some.is in record { on_map = asked.0; starts_len = asked.1 }

pub car_room-requires : goal.car_room-requires
car_room-requires c =
    let ok : Leavable (given_leave c.args.town) c.args.car c.args.left.now = may-leave _ _ _ (none-refused (c.refuse_car.ensures ∙ ap (λ (t : Tables). bars t (ask_where c.args.car)) c.seen.ensures) c.in_ok-refuse_car.was) c.zone_room.ensures c.if-left-zone_room.false in
    omega (arith, ok.size.lengths.head)

pub stamp_rows-requires : goal.stamp_rows-requires
stamp_rows-requires c =
    let ok : Leavable (given_leave c.args.town) c.args.car c.args.left.now = may-leave _ _ _ (none-refused (c.refuse_car.ensures ∙ ap (λ (t : Tables). bars t (ask_where c.args.car)) c.seen.ensures) c.in_ok-refuse_car.was) c.zone_room.ensures c.if-left-zone_room.false in
    omega (arith, ok.size.room.cars-few)

pub returns : goal.returns
returns c =
    let ok : Leavable (given_leave c.args.town) c.args.car c.args.left.now = may-leave _ _ _ (none-refused (c.refuse_car.ensures ∙ ap (λ (t : Tables). bars t (ask_where c.args.car)) c.seen.ensures) c.in_ok-refuse_car.was) c.zone_room.ensures c.if-left-zone_room.false in
    leave-kept ok c.shape_in-s.ensures c.spot_in.ensures c.locate.ensures c.in-Some.is c.look_up-looked.ensures c.car_room.ensures c.write_car.ensures c.stamp_rows.ensures c.slot_in-team.ensures c.move_counts.ensures
