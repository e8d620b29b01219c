-- `refuse_zone` gives the number of the first of three tests that fails: check 3, the zone's number, and that it stands.
use mathlib.Core.Bool.{true}
use mathlib.Core.Path.{◌≡◌, ◌∙◌}
use native.Mathlib.Omega.{arith}
use Rattle.squares.specs.RefusalLaws.{stops, holds, fails, below, beyond}
use Rattle.model.specs.Model.{meaning}
use Rattle.tables.specs.Lent.{given_read}
use Rattle.tables.specs.Check.{sized}
use Rattle.tables.specs.CheckLaws.{sized→}
use Rattle.tables.specs.RecordLaws.{zone-known}
use Rattle.promises.proofs.refusals.refuse_zone.Goals as goal

pub returns-then-not-sized : goal.returns-then-not-sized
unfolding meaning
returns-then-not-sized c = stops 0 _ (fails c.sized.ensures c.if-not-sized.true-raw)

pub zone_room-requires : goal.zone_room-requires
zone_room-requires c =
    let own : sized (given_read c.args.town) ≡ true = holds c.sized.ensures c.if-not-sized.false-raw in
    omega (arith, (sized→ _ own).lengths.head)

pub returns-then-zone_room-zone : goal.returns-then-zone_room-zone
unfolding meaning
returns-then-zone_room-zone c =
    let own : sized (given_read c.args.town) ≡ true = holds c.sized.ensures c.if-not-sized.false-raw in
    stops 1 _ (own, beyond c.zone_room.ensures c.if-zone_room-zone.true)

pub stands_in-requires : goal.stands_in-requires
stands_in-requires c =
    let own : sized (given_read c.args.town) ≡ true = holds c.sized.ensures c.if-not-sized.false-raw in
    omega (arith, (sized→ _ own).lengths.zones, c.zone_room.ensures, c.if-zone_room-zone.false)

pub returns-then-not-stands_in : goal.returns-then-not-stands_in
unfolding meaning
returns-then-not-stands_in c =
    let own : sized (given_read c.args.town) ≡ true = holds c.sized.ensures c.if-not-sized.false-raw in
    stops 2 _ (own, (below c.zone_room.ensures c.if-zone_room-zone.false, fails (c.stands_in.ensures ∙ zone-known (given_read c.args.town) _) c.if-not-stands_in.true-raw))

pub returns : goal.returns
unfolding meaning
returns c =
    let own : sized (given_read c.args.town) ≡ true = holds c.sized.ensures c.if-not-sized.false-raw in
    stops 3 _ (own, (below c.zone_room.ensures c.if-zone_room-zone.false, (holds (c.stands_in.ensures ∙ zone-known (given_read c.args.town) _) c.if-not-stands_in.false-raw, tt)))
