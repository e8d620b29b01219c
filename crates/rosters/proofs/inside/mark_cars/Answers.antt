-- `mark_cars` sets the bytes of a row car by car, and counts those that pass.
use mathlib.Core.Path.{◌∙◌}
use native.Mathlib.Omega.{arith}
use Rattle.rosters.specs.InsideLaws.{byte-bit, mark-begins, mark-turns}
use Rattle.rosters.proofs.inside.mark_cars.Goals as goal

pub loop-c-init : goal.loop-c-init
loop-c-init c = mark-begins _ _

pub loop-c-preserved : goal.loop-c-preserved
loop-c-preserved c = rw c.from-inside.ensures (mark-turns c.loop-c.invariant (omega arith) _ c.car_between.ensures _ (c.from-byte.ensures ∙ byte-bit _))
