-- `ride_cars` sets the bytes of a row car by car, and stores the cars that come and those that go.
use mathlib.Core.Path.{◌∙◌}
use native.Mathlib.Omega.{arith}
use Rattle.rosters.specs.InsideLaws.{byte-bit}
use Rattle.rosters.specs.RiddenLaws.{ride-begins, ride-turns}
use Rattle.rosters.proofs.ride.ride_cars.Goals as goal

pub loop-c-init : goal.loop-c-init
loop-c-init c = ride-begins _ _ _ _

pub loop-c-preserved : goal.loop-c-preserved
loop-c-preserved c = ride-turns c.loop-c.invariant (omega arith) _ c.car_between.ensures _ (c.from-byte.ensures ∙ byte-bit _) c.turn-moved.ensures
