-- `ride_zone` finds room, and writes the zone's record, its keys, its row, the cars that came and went and its numbers, past the refusals.
use Prim.Native.Nat.{◌-◌, ◌<◌}
use mathlib.Core.Path.{◌≡◌, refl, ap, sym, ◌∙◌}
use Rattle.std.proofs.lemmas.Result.{err_from_is_err_and}
use native.Mathlib.Omega.{arith}
use lib.ListN.{length, get_or}
use Rattle.squares.specs.Slide.{Rides}
use Rattle.squares.specs.ShapeLaws.{squares-few}
use Rattle.squares.specs.RefusalLaws.{none-refused, holds, fails}
use Rattle.squares.specs.Refusals.{refused_by}
use Rattle.tables.specs.Lent.{given_read, given_zone}
use Rattle.tables.specs.Tables.{Tables}
use Rattle.model.specs.Model.{riding, meaning}
use Rattle.promises.specs.Promise.{bars}
use Rattle.promises.specs.PromiseLaws.{keeps-by}
use Rattle.zones.specs.RideLaws.{Mover, mover, bars-plain, rides-plain, record-there, fit, few-there, allowed, row-there, cars-there, keys-there, ride-full, ride-kept}
use Rattle.zones.proofs.ride.ride_zone.Goals as goal

pub returns-in_err-refuse_ride : goal.returns-in_err-refuse_ride
unfolding meaning
returns-in_err-refuse_ride c =
    let p = err_from_is_err_and c.from_residual.result c.from_residual.ensures.1 in
    let told : refused_by c.refuse_ride.result ≡ bars (given_zone c.args.town) (riding c.args.zone c.args.dx c.args.dy c.args.entered.now c.args.left.now) = c.refuse_ride.ensures ∙ bars-plain c.ranges.dx c.ranges.dy (given_read c.seen.result) c.args.zone c.args.entered.now c.args.left.now ∙ ap (λ (t : Tables). bars t (riding c.args.zone c.args.dx c.args.dy c.args.entered.now c.args.left.now)) c.seen.ensures in
    rw (p.1, p.2) (keeps-by _ _ _ told c.in_err-refuse_ride.was refl)

pub shape_in-s-requires : goal.shape_in-s-requires
shape_in-s-requires c =
    let told : refused_by c.refuse_ride.result ≡ bars (given_zone c.args.town) (riding c.args.zone c.args.dx c.args.dy c.args.entered.now c.args.left.now) = c.refuse_ride.ensures ∙ bars-plain c.ranges.dx c.ranges.dy (given_read c.seen.result) c.args.zone c.args.entered.now c.args.left.now ∙ ap (λ (t : Tables). bars t (riding c.args.zone c.args.dx c.args.dy c.args.entered.now c.args.left.now)) c.seen.ensures in
    let moves : Mover (given_zone c.args.town) c.args.zone c.args.dx c.args.dy c.args.entered.now c.args.left.now = mover _ _ _ _ _ _ (none-refused told c.in_ok-refuse_ride.was) in
    omega (arith, moves.size.lengths.head)

pub rect_in-old-requires : goal.rect_in-old-requires
rect_in-old-requires c =
    let told : refused_by c.refuse_ride.result ≡ bars (given_zone c.args.town) (riding c.args.zone c.args.dx c.args.dy c.args.entered.now c.args.left.now) = c.refuse_ride.ensures ∙ bars-plain c.ranges.dx c.ranges.dy (given_read c.seen.result) c.args.zone c.args.entered.now c.args.left.now ∙ ap (λ (t : Tables). bars t (riding c.args.zone c.args.dx c.args.dy c.args.entered.now c.args.left.now)) c.seen.ensures in
    let moves : Mover (given_zone c.args.town) c.args.zone c.args.dx c.args.dy c.args.entered.now c.args.left.now = mover _ _ _ _ _ _ (none-refused told c.in_ok-refuse_ride.was) in
    record-there moves

pub overflow_sub-used : goal.overflow_sub-used
overflow_sub-used c =
    let told : refused_by c.refuse_ride.result ≡ bars (given_zone c.args.town) (riding c.args.zone c.args.dx c.args.dy c.args.entered.now c.args.left.now) = c.refuse_ride.ensures ∙ bars-plain c.ranges.dx c.ranges.dy (given_read c.seen.result) c.args.zone c.args.entered.now c.args.left.now ∙ ap (λ (t : Tables). bars t (riding c.args.zone c.args.dx c.args.dy c.args.entered.now c.args.left.now)) c.seen.ensures in
    let moves : Mover (given_zone c.args.town) c.args.zone c.args.dx c.args.dy c.args.entered.now c.args.left.now = mover _ _ _ _ _ _ (none-refused told c.in_ok-refuse_ride.was) in
    omega (arith, moves.size.lengths.starts)

pub offset_bounds-starts-starts : goal.offset_bounds-starts-starts
offset_bounds-starts-starts c =
    let told : refused_by c.refuse_ride.result ≡ bars (given_zone c.args.town) (riding c.args.zone c.args.dx c.args.dy c.args.entered.now c.args.left.now) = c.refuse_ride.ensures ∙ bars-plain c.ranges.dx c.ranges.dy (given_read c.seen.result) c.args.zone c.args.entered.now c.args.left.now ∙ ap (λ (t : Tables). bars t (riding c.args.zone c.args.dx c.args.dy c.args.entered.now c.args.left.now)) c.seen.ensures in
    let moves : Mover (given_zone c.args.town) c.args.zone c.args.dx c.args.dy c.args.entered.now c.args.left.now = mover _ _ _ _ _ _ (none-refused told c.in_ok-refuse_ride.was) in
    let h = moves in omega (arith, h.size.lengths.starts, squares-few _ h.size.shape)

pub bounds-starts-starts : goal.bounds-starts-starts
bounds-starts-starts c =
    let told : refused_by c.refuse_ride.result ≡ bars (given_zone c.args.town) (riding c.args.zone c.args.dx c.args.dy c.args.entered.now c.args.left.now) = c.refuse_ride.ensures ∙ bars-plain c.ranges.dx c.ranges.dy (given_read c.seen.result) c.args.zone c.args.entered.now c.args.left.now ∙ ap (λ (t : Tables). bars t (riding c.args.zone c.args.dx c.args.dy c.args.entered.now c.args.left.now)) c.seen.ensures in
    let moves : Mover (given_zone c.args.town) c.args.zone c.args.dx c.args.dy c.args.entered.now c.args.left.now = mover _ _ _ _ _ _ (none-refused told c.in_ok-refuse_ride.was) in
    omega (arith, moves.size.lengths.starts)

pub overflow_cast-used : goal.overflow_cast-used
overflow_cast-used c =
    let small : let starts = c.args.town.starts.now in get_or starts (length starts - 1) 0 < 4294967296 = omega (arith, c.slice_known-3-1.given (length c.args.town.starts.now - 1)) in
    omega (arith, small)

pub has_room-requires : goal.has_room-requires
has_room-requires c =
    let ridden : Rides c.args.dx c.args.dy c.rect_in-old.result c.ride-new.result = rides-plain c.ranges.dx c.ranges.dy c.ride-new.ensures in
    let told : refused_by c.refuse_ride.result ≡ bars (given_zone c.args.town) (riding c.args.zone c.args.dx c.args.dy c.args.entered.now c.args.left.now) = c.refuse_ride.ensures ∙ bars-plain c.ranges.dx c.ranges.dy (given_read c.seen.result) c.args.zone c.args.entered.now c.args.left.now ∙ ap (λ (t : Tables). bars t (riding c.args.zone c.args.dx c.args.dy c.args.entered.now c.args.left.now)) c.seen.ensures in
    let moves : Mover (given_zone c.args.town) c.args.zone c.args.dx c.args.dy c.args.entered.now c.args.left.now = mover _ _ _ _ _ _ (none-refused told c.in_ok-refuse_ride.was) in
    let h = moves in
    record { allowed = allowed h c.shape_in-s.ensures c.rect_in-old.ensures ridden; fits = fit h c.shape_in-s.ensures c.rect_in-old.ensures ridden; many_le_most_entries = few-there h c.shape_in-s.ensures c.rect_in-old.ensures ridden }

pub returns-then-not-has_room : goal.returns-then-not-has_room
returns-then-not-has_room c =
    let ridden : Rides c.args.dx c.args.dy c.rect_in-old.result c.ride-new.result = rides-plain c.ranges.dx c.ranges.dy c.ride-new.ensures in
    let told : refused_by c.refuse_ride.result ≡ bars (given_zone c.args.town) (riding c.args.zone c.args.dx c.args.dy c.args.entered.now c.args.left.now) = c.refuse_ride.ensures ∙ bars-plain c.ranges.dx c.ranges.dy (given_read c.seen.result) c.args.zone c.args.entered.now c.args.left.now ∙ ap (λ (t : Tables). bars t (riding c.args.zone c.args.dx c.args.dy c.args.entered.now c.args.left.now)) c.seen.ensures in
    let moves : Mover (given_zone c.args.town) c.args.zone c.args.dx c.args.dy c.args.entered.now c.args.left.now = mover _ _ _ _ _ _ (none-refused told c.in_ok-refuse_ride.was) in
    ride-full moves c.shape_in-s.ensures c.rect_in-old.ensures ridden refl (fails c.has_room.ensures c.if-not-has_room.true-raw)

pub car_room-many-requires : goal.car_room-many-requires
car_room-many-requires c =
    let told : refused_by c.refuse_ride.result ≡ bars (given_zone c.args.town) (riding c.args.zone c.args.dx c.args.dy c.args.entered.now c.args.left.now) = c.refuse_ride.ensures ∙ bars-plain c.ranges.dx c.ranges.dy (given_read c.seen.result) c.args.zone c.args.entered.now c.args.left.now ∙ ap (λ (t : Tables). bars t (riding c.args.zone c.args.dx c.args.dy c.args.entered.now c.args.left.now)) c.seen.ensures in
    let moves : Mover (given_zone c.args.town) c.args.zone c.args.dx c.args.dy c.args.entered.now c.args.left.now = mover _ _ _ _ _ _ (none-refused told c.in_ok-refuse_ride.was) in
    omega (arith, moves.size.lengths.head)

pub write_zone-requires : goal.write_zone-requires
write_zone-requires c =
    let told : refused_by c.refuse_ride.result ≡ bars (given_zone c.args.town) (riding c.args.zone c.args.dx c.args.dy c.args.entered.now c.args.left.now) = c.refuse_ride.ensures ∙ bars-plain c.ranges.dx c.ranges.dy (given_read c.seen.result) c.args.zone c.args.entered.now c.args.left.now ∙ ap (λ (t : Tables). bars t (riding c.args.zone c.args.dx c.args.dy c.args.entered.now c.args.left.now)) c.seen.ensures in
    let moves : Mover (given_zone c.args.town) c.args.zone c.args.dx c.args.dy c.args.entered.now c.args.left.now = mover _ _ _ _ _ _ (none-refused told c.in_ok-refuse_ride.was) in
    record-there moves

pub ride_keys-keys-requires : goal.ride_keys-keys-requires
ride_keys-keys-requires c =
    let ridden : Rides c.args.dx c.args.dy c.rect_in-old.result c.ride-new.result = rides-plain c.ranges.dx c.ranges.dy c.ride-new.ensures in
    let told : refused_by c.refuse_ride.result ≡ bars (given_zone c.args.town) (riding c.args.zone c.args.dx c.args.dy c.args.entered.now c.args.left.now) = c.refuse_ride.ensures ∙ bars-plain c.ranges.dx c.ranges.dy (given_read c.seen.result) c.args.zone c.args.entered.now c.args.left.now ∙ ap (λ (t : Tables). bars t (riding c.args.zone c.args.dx c.args.dy c.args.entered.now c.args.left.now)) c.seen.ensures in
    let moves : Mover (given_zone c.args.town) c.args.zone c.args.dx c.args.dy c.args.entered.now c.args.left.now = mover _ _ _ _ _ _ (none-refused told c.in_ok-refuse_ride.was) in
    keys-there moves c.shape_in-s.ensures c.rect_in-old.ensures ridden refl (holds c.has_room.ensures c.if-not-has_room.false-raw)

pub ride_row-moved-requires : goal.ride_row-moved-requires
ride_row-moved-requires c =
    let ridden : Rides c.args.dx c.args.dy c.rect_in-old.result c.ride-new.result = rides-plain c.ranges.dx c.ranges.dy c.ride-new.ensures in
    let told : refused_by c.refuse_ride.result ≡ bars (given_zone c.args.town) (riding c.args.zone c.args.dx c.args.dy c.args.entered.now c.args.left.now) = c.refuse_ride.ensures ∙ bars-plain c.ranges.dx c.ranges.dy (given_read c.seen.result) c.args.zone c.args.entered.now c.args.left.now ∙ ap (λ (t : Tables). bars t (riding c.args.zone c.args.dx c.args.dy c.args.entered.now c.args.left.now)) c.seen.ensures in
    let moves : Mover (given_zone c.args.town) c.args.zone c.args.dx c.args.dy c.args.entered.now c.args.left.now = mover _ _ _ _ _ _ (none-refused told c.in_ok-refuse_ride.was) in
    let asked = row-there moves c.shape_in-s.ensures c.rect_in-old.ensures ridden c.car_room-many.ensures in record { parked = asked.0; row_there = asked.1.0; fits = asked.1.1.0; many_in_bounds = asked.1.1.1.0; many_in_bounds_2 = asked.1.1.1.1 }

pub fill_tally-requires : goal.fill_tally-requires
fill_tally-requires c =
    let ridden : Rides c.args.dx c.args.dy c.rect_in-old.result c.ride-new.result = rides-plain c.ranges.dx c.ranges.dy c.ride-new.ensures in
    let told : refused_by c.refuse_ride.result ≡ bars (given_zone c.args.town) (riding c.args.zone c.args.dx c.args.dy c.args.entered.now c.args.left.now) = c.refuse_ride.ensures ∙ bars-plain c.ranges.dx c.ranges.dy (given_read c.seen.result) c.args.zone c.args.entered.now c.args.left.now ∙ ap (λ (t : Tables). bars t (riding c.args.zone c.args.dx c.args.dy c.args.entered.now c.args.left.now)) c.seen.ensures in
    let moves : Mover (given_zone c.args.town) c.args.zone c.args.dx c.args.dy c.args.entered.now c.args.left.now = mover _ _ _ _ _ _ (none-refused told c.in_ok-refuse_ride.was) in
    let asked = cars-there moves c.shape_in-s.ensures c.rect_in-old.ensures ridden c.car_room-many.ensures c.ride_row-moved.ensures in record { row_there = asked.0; tally_in_bounds = asked.1 }

pub returns : goal.returns
returns c =
    let ridden : Rides c.args.dx c.args.dy c.rect_in-old.result c.ride-new.result = rides-plain c.ranges.dx c.ranges.dy c.ride-new.ensures in
    let told : refused_by c.refuse_ride.result ≡ bars (given_zone c.args.town) (riding c.args.zone c.args.dx c.args.dy c.args.entered.now c.args.left.now) = c.refuse_ride.ensures ∙ bars-plain c.ranges.dx c.ranges.dy (given_read c.seen.result) c.args.zone c.args.entered.now c.args.left.now ∙ ap (λ (t : Tables). bars t (riding c.args.zone c.args.dx c.args.dy c.args.entered.now c.args.left.now)) c.seen.ensures in
    let moves : Mover (given_zone c.args.town) c.args.zone c.args.dx c.args.dy c.args.entered.now c.args.left.now = mover _ _ _ _ _ _ (none-refused told c.in_ok-refuse_ride.was) in
    ride-kept moves c.shape_in-s.ensures c.rect_in-old.ensures ridden refl (holds c.has_room.ensures c.if-not-has_room.false-raw) c.car_room-many.ensures c.write_zone.ensures c.ride_keys-keys.ensures c.ride_row-moved.ensures c.fill_tally.ensures
