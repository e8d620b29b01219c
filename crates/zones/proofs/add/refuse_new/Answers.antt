-- `refuse_new` gives the number of the first of four tests that fails: check 3, the zone's number, that it does not stand, the rectangle.
use mathlib.Core.Bool.{true, not}
use mathlib.Core.Path.{◌≡◌, ap, sym, ◌∙◌}
use native.Mathlib.Omega.{arith}
use Rattle.squares.specs.declared.shape.Shape.{Shape}
use Rattle.squares.specs.Shape.{fits}
use Rattle.squares.specs.RefusalLaws.{stops, holds, fails, below, beyond}
use Rattle.model.specs.Model.{known, meaning}
use Rattle.tables.specs.Lent.{given_read}
use Rattle.tables.specs.Tables.{shape_of, zone_in}
use Rattle.tables.specs.Check.{sized}
use Rattle.tables.specs.CheckLaws.{sized→}
use Rattle.tables.specs.RecordLaws.{zone-known}
use Rattle.zones.proofs.add.refuse_new.Goals as goal

pub returns-then-not-sized : goal.returns-then-not-sized
unfolding meaning
returns-then-not-sized c = stops 0 _ (fails c.sized.ensures c.if-not-sized.true-raw)

pub zone_room-requires : goal.zone_room-requires
zone_room-requires c =
    let own : sized (given_read c.args.town) ≡ true = holds c.sized.ensures c.if-not-sized.false-raw in
    omega (arith, (sized→ _ own).lengths.head)

pub returns-then-zone_room-zone : goal.returns-then-zone_room-zone
unfolding meaning
returns-then-zone_room-zone c =
    let own : sized (given_read c.args.town) ≡ true = holds c.sized.ensures c.if-not-sized.false-raw in
    stops 1 _ (own, beyond c.zone_room.ensures c.if-zone_room-zone.true)

pub stands_in-requires : goal.stands_in-requires
stands_in-requires c =
    let own : sized (given_read c.args.town) ≡ true = holds c.sized.ensures c.if-not-sized.false-raw in
    omega (arith, (sized→ _ own).lengths.zones, c.zone_room.ensures, c.if-zone_room-zone.false)

pub returns-then-stands_in : goal.returns-then-stands_in
unfolding meaning
returns-then-stands_in c =
    let stood : c.stands_in.result ≡ known (zone_in (given_read c.args.town) c.args.zone) = c.stands_in.ensures ∙ zone-known (given_read c.args.town) c.args.zone in
    let own : sized (given_read c.args.town) ≡ true = holds c.sized.ensures c.if-not-sized.false-raw in
    stops 2 _ (own, (below c.zone_room.ensures c.if-zone_room-zone.false, ap not (sym stood ∙ c.if-stands_in.true)))

pub shape_in-requires : goal.shape_in-requires
shape_in-requires c =
    let own : sized (given_read c.args.town) ≡ true = holds c.sized.ensures c.if-not-sized.false-raw in
    omega (arith, (sized→ _ own).lengths.head)

pub fits-requires : goal.fits-requires
fits-requires c =
    let own : sized (given_read c.args.town) ≡ true = holds c.sized.ensures c.if-not-sized.false-raw in
    rw c.shape_in.ensures (sized→ _ own).shape

pub returns-then-not-fits : goal.returns-then-not-fits
unfolding meaning
returns-then-not-fits c =
    let fitting : c.fits.result ≡ fits (shape_of (given_read c.args.town)) c.args.r = c.fits.ensures ∙ ap (λ (s : Shape). fits s c.args.r) c.shape_in.ensures in
    let stood : c.stands_in.result ≡ known (zone_in (given_read c.args.town) c.args.zone) = c.stands_in.ensures ∙ zone-known (given_read c.args.town) c.args.zone in
    let own : sized (given_read c.args.town) ≡ true = holds c.sized.ensures c.if-not-sized.false-raw in
    stops 3 _ (own, (below c.zone_room.ensures c.if-zone_room-zone.false, (ap not (sym stood ∙ c.if-stands_in.false), fails fitting c.if-not-fits.true-raw)))

pub returns : goal.returns
unfolding meaning
returns c =
    let fitting : c.fits.result ≡ fits (shape_of (given_read c.args.town)) c.args.r = c.fits.ensures ∙ ap (λ (s : Shape). fits s c.args.r) c.shape_in.ensures in
    let stood : c.stands_in.result ≡ known (zone_in (given_read c.args.town) c.args.zone) = c.stands_in.ensures ∙ zone-known (given_read c.args.town) c.args.zone in
    let own : sized (given_read c.args.town) ≡ true = holds c.sized.ensures c.if-not-sized.false-raw in
    stops 4 _ (own, (below c.zone_room.ensures c.if-zone_room-zone.false, (ap not (sym stood ∙ c.if-stands_in.false), (holds fitting c.if-not-fits.false-raw, tt))))
