-- `refuse_car` gives the number of the first of three tests that fails: check 3, the car's number, and that it is on the map.
use mathlib.Core.Bool.{true}
use mathlib.Core.Path.{◌≡◌, ◌∙◌}
use native.Mathlib.Omega.{arith}
use Rattle.squares.specs.RefusalLaws.{stops, holds, fails, below, beyond}
use Rattle.model.specs.Model.{meaning}
use Rattle.tables.specs.Lent.{given_read}
use Rattle.tables.specs.Check.{sized}
use Rattle.tables.specs.CheckLaws.{sized→}
use Rattle.tables.specs.RecordLaws.{car-known}
use Rattle.promises.proofs.refusals.refuse_car.Goals as goal

pub returns-then-not-sized : goal.returns-then-not-sized
unfolding meaning
returns-then-not-sized c = stops 0 _ (fails c.sized.ensures c.if-not-sized.true-raw)

pub car_room-requires : goal.car_room-requires
car_room-requires c =
    let own : sized (given_read c.args.town) ≡ true = holds c.sized.ensures c.if-not-sized.false-raw in
    omega (arith, (sized→ _ own).lengths.head)

pub returns-then-car_room-car : goal.returns-then-car_room-car
unfolding meaning
returns-then-car_room-car c =
    let own : sized (given_read c.args.town) ≡ true = holds c.sized.ensures c.if-not-sized.false-raw in
    stops 1 _ (own, beyond c.car_room.ensures c.if-car_room-car.true)

pub placed_in-requires : goal.placed_in-requires
placed_in-requires c =
    let own : sized (given_read c.args.town) ≡ true = holds c.sized.ensures c.if-not-sized.false-raw in
    omega (arith, (sized→ _ own).lengths.cars, c.car_room.ensures, c.if-car_room-car.false)

pub returns-then-not-placed_in : goal.returns-then-not-placed_in
unfolding meaning
returns-then-not-placed_in c =
    let own : sized (given_read c.args.town) ≡ true = holds c.sized.ensures c.if-not-sized.false-raw in
    stops 2 _ (own, (below c.car_room.ensures c.if-car_room-car.false, fails (c.placed_in.ensures ∙ car-known (given_read c.args.town) _) c.if-not-placed_in.true-raw))

pub returns : goal.returns
unfolding meaning
returns c =
    let own : sized (given_read c.args.town) ≡ true = holds c.sized.ensures c.if-not-sized.false-raw in
    stops 3 _ (own, (below c.car_room.ensures c.if-car_room-car.false, (holds (c.placed_in.ensures ∙ car-known (given_read c.args.town) _) c.if-not-placed_in.false-raw, tt)))
