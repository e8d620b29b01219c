-- `move_starts`: what its loop keeps.
use Rattle.std.proofs.Common.{◌≡◌, take}
use Rattle.starts.specs.Shift.{steps}
use Rattle.starts.specs.ShiftLaws.{Moving}
use Rattle.starts.proofs.shift.move_starts.Given as goal

abbrev pub invariant-loop-j : goal.invariant-loop-j
invariant-loop-j l = Moving (steps l.step) (take l.n l.initial.starts) l.initial.starts l.starts l.n l.p l.j × (l.by ≡ steps l.step l.j)
