-- `floor` shifts the digits down: to the floor from 1 on, and all of them out below 1.
use mathlib.Core.Logic.{⊎_elim}
use Prim.Native.Nat.{◌/◌, ◌≤◌, ◌<◌}
use native.Mathlib.Omega.{arith}
use Rattle.order.specs.TestLaws.{lt-or-le}
use Rattle.position.proofs.Shifts.{floor-small, floor-down}
use Rattle.position.proofs.floor.Goals as goal

pub returns : goal.returns
returns c = let bits = c.args.bits in
    rw c.digits.ensures (⊎_elim
    (λ (l : bits / 8388608 < 127). floor-small bits (bits / 8388608) (omega arith) _ l (c.shift_of.ensures.none l))
    (λ (l : 127 ≤ bits / 8388608). rw (c.shift_of.ensures.whole l) (floor-down bits (bits / 8388608) (omega arith) l (omega arith)))
    (lt-or-le (bits / 8388608) 127))
