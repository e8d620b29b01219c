-- `move_up`: what its loop keeps.
use Rattle.std.proofs.Common.{◌≡◌, ◌-◌, ◌≤◌, length}
use Rattle.entries.specs.Merge.{moved_up}
use Rattle.entries.proofs.merge.move_up.Given as goal

abbrev pub invariant-loop-i : goal.invariant-loop-i
invariant-loop-i l = (l.i ≤ l.end) × ((length l.entries ≡ length l.initial.entries) × (moved_up l.from l.by (l.end - l.from) l.initial.entries ≡ moved_up l.from l.by (l.i - l.from) l.entries))
