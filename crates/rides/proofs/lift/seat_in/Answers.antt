-- `seat_in` passes entries that are not below the key, from the limit down.
use Prim.Native.Nat.{◌+◌, ◌-◌}
use mathlib.Core.Path.{◌≡◌}
use native.Mathlib.Omega.{arith}
use Rattle.rides.specs.LiftLaws.{most-begins, most-turns, most-found}
use Rattle.rides.proofs.lift.seat_in.Goals as goal

pub loop-i-init : goal.loop-i-init
loop-i-init c = record { most = most-begins c.limit_of-limit.ensures; low = omega arith }

pub returns-then-entries-i : goal.returns-then-entries-i
returns-then-entries-i c =
    let same : c.loop-i.i - 1 + 1 ≡ c.loop-i.i = omega arith in
    rw same (most-found c.loop-i.invariant.most (omega arith) (omega arith))

pub loop-i-preserved : goal.loop-i-preserved
loop-i-preserved c = record { most = most-turns c.loop-i.invariant.most (omega arith) (omega arith); low = omega arith }
