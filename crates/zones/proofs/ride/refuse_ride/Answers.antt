-- `refuse_ride` asks what every call on a standing zone asks, then where the zone goes, then for room in two buffers.
use mathlib.Core.Path.{◌≡◌, refl, sym, ◌∙◌}
use Rattle.std.proofs.lemmas.Result.{err_from_is_err_and}
use native.Mathlib.Omega.{arith}
use borrow.Author.Tests.{ltb-true}
use Rattle.squares.specs.Ride.{lands}
use Rattle.squares.specs.RefusalLaws.{some-number, refused-by, none-refused, Clear, clear, before, after, holds, fails, enough, short}
use Rattle.model.specs.Model.{there, removing, meaning}
use Rattle.tables.specs.Lent.{given_read}
use Rattle.tables.specs.Tables.{shape_of, zone_room, zone_in}
use Rattle.tables.specs.Sizes.{Sized}
use Rattle.tables.specs.CheckLaws.{sized→}
use Rattle.promises.specs.Promise.{means}
use Rattle.zones.specs.RideLaws.{rides-plain, lands-told}
use Rattle.zones.proofs.ride.refuse_ride.Goals as goal

pub returns-in_err-refuse_zone : goal.returns-in_err-refuse_zone
unfolding meaning
returns-in_err-refuse_zone c =
    let p = err_from_is_err_and c.from_residual.result c.from_residual.ensures.1 in
    let e = refused-by c.refuse_zone.ensures c.in_err-refuse_zone.was in
    rw (p.1, p.2) (e ∙ sym (before ((means (given_read c.args.town) (removing c.args.zone)).checks) _ (λ z. some-number _ (e ∙ z))))

pub rect_in-requires : goal.rect_in-requires
unfolding meaning
rect_in-requires c =
    let own : Clear ((means (given_read c.args.town) (removing c.args.zone)).checks) = clear ((means (given_read c.args.town) (removing c.args.zone)).checks) refl (none-refused c.refuse_zone.ensures c.in_ok-refuse_zone.was) in
    let size : Sized (given_read c.args.town) = sized→ _ own.0 in
    omega (arith, size.lengths.zones, ltb-true c.args.zone (zone_room (given_read c.args.town)) own.1.0)

pub shape_in-requires : goal.shape_in-requires
unfolding meaning
shape_in-requires c =
    let own : Clear ((means (given_read c.args.town) (removing c.args.zone)).checks) = clear ((means (given_read c.args.town) (removing c.args.zone)).checks) refl (none-refused c.refuse_zone.ensures c.in_ok-refuse_zone.was) in
    let size : Sized (given_read c.args.town) = sized→ _ own.0 in
    omega (arith, size.lengths.head)

pub fits-requires : goal.fits-requires
unfolding meaning
fits-requires c =
    let own : Clear ((means (given_read c.args.town) (removing c.args.zone)).checks) = clear ((means (given_read c.args.town) (removing c.args.zone)).checks) refl (none-refused c.refuse_zone.ensures c.in_ok-refuse_zone.was) in
    let size : Sized (given_read c.args.town) = sized→ _ own.0 in
    rw c.shape_in.ensures size.shape

pub returns-then-not-fits : goal.returns-then-not-fits
unfolding meaning
returns-then-not-fits c =
    let own : Clear ((means (given_read c.args.town) (removing c.args.zone)).checks) = clear ((means (given_read c.args.town) (removing c.args.zone)).checks) refl (none-refused c.refuse_zone.ensures c.in_ok-refuse_zone.was) in
    let size : Sized (given_read c.args.town) = sized→ _ own.0 in
    let told : c.fits.result ≡ there (zone_in (given_read c.args.town) c.args.zone) (lands (shape_of (given_read c.args.town)) c.args.dx c.args.dy) = c.fits.ensures ∙ lands-told (given_read c.args.town) size c.args.zone own.1.1.0 c.shape_in.ensures c.rect_in.ensures (rides-plain c.ranges.dx c.ranges.dy c.ride-new.ensures) in
    after 0 ((means (given_read c.args.town) (removing c.args.zone)).checks) _ own (fails told c.if-not-fits.true-raw)

pub car_room-many-requires : goal.car_room-many-requires
unfolding meaning
car_room-many-requires c =
    let own : Clear ((means (given_read c.args.town) (removing c.args.zone)).checks) = clear ((means (given_read c.args.town) (removing c.args.zone)).checks) refl (none-refused c.refuse_zone.ensures c.in_ok-refuse_zone.was) in
    let size : Sized (given_read c.args.town) = sized→ _ own.0 in
    omega (arith, size.lengths.head)

pub returns-then-entered-many : goal.returns-then-entered-many
unfolding meaning
returns-then-entered-many c =
    let own : Clear ((means (given_read c.args.town) (removing c.args.zone)).checks) = clear ((means (given_read c.args.town) (removing c.args.zone)).checks) refl (none-refused c.refuse_zone.ensures c.in_ok-refuse_zone.was) in
    let size : Sized (given_read c.args.town) = sized→ _ own.0 in
    let told : c.fits.result ≡ there (zone_in (given_read c.args.town) c.args.zone) (lands (shape_of (given_read c.args.town)) c.args.dx c.args.dy) = c.fits.ensures ∙ lands-told (given_read c.args.town) size c.args.zone own.1.1.0 c.shape_in.ensures c.rect_in.ensures (rides-plain c.ranges.dx c.ranges.dy c.ride-new.ensures) in
    after 1 ((means (given_read c.args.town) (removing c.args.zone)).checks) _ own (holds told c.if-not-fits.false-raw, short c.car_room-many.ensures c.if-entered-many.true)

pub returns-then-left-many : goal.returns-then-left-many
unfolding meaning
returns-then-left-many c =
    let own : Clear ((means (given_read c.args.town) (removing c.args.zone)).checks) = clear ((means (given_read c.args.town) (removing c.args.zone)).checks) refl (none-refused c.refuse_zone.ensures c.in_ok-refuse_zone.was) in
    let size : Sized (given_read c.args.town) = sized→ _ own.0 in
    let told : c.fits.result ≡ there (zone_in (given_read c.args.town) c.args.zone) (lands (shape_of (given_read c.args.town)) c.args.dx c.args.dy) = c.fits.ensures ∙ lands-told (given_read c.args.town) size c.args.zone own.1.1.0 c.shape_in.ensures c.rect_in.ensures (rides-plain c.ranges.dx c.ranges.dy c.ride-new.ensures) in
    after 2 ((means (given_read c.args.town) (removing c.args.zone)).checks) _ own (holds told c.if-not-fits.false-raw, (enough c.car_room-many.ensures c.if-entered-many.false, short c.car_room-many.ensures c.if-left-many.true))

pub returns : goal.returns
unfolding meaning
returns c =
    let own : Clear ((means (given_read c.args.town) (removing c.args.zone)).checks) = clear ((means (given_read c.args.town) (removing c.args.zone)).checks) refl (none-refused c.refuse_zone.ensures c.in_ok-refuse_zone.was) in
    let size : Sized (given_read c.args.town) = sized→ _ own.0 in
    let told : c.fits.result ≡ there (zone_in (given_read c.args.town) c.args.zone) (lands (shape_of (given_read c.args.town)) c.args.dx c.args.dy) = c.fits.ensures ∙ lands-told (given_read c.args.town) size c.args.zone own.1.1.0 c.shape_in.ensures c.rect_in.ensures (rides-plain c.ranges.dx c.ranges.dy c.ride-new.ensures) in
    after 3 ((means (given_read c.args.town) (removing c.args.zone)).checks) _ own (holds told c.if-not-fits.false-raw, (enough c.car_room-many.ensures c.if-entered-many.false, (enough c.car_room-many.ensures c.if-left-many.false, tt)))
