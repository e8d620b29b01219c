-- `seat_of`: what its loop keeps.
use Rattle.std.proofs.Common.{length}
use Rattle.entries.specs.Merge.{Limit}
use Rattle.entries.proofs.merge.seat_of.Given as goal

abbrev pub invariant-loop-i : goal.invariant-loop-i
invariant-loop-i l = Limit l.starts l.n l.entries (length l.entries) l.key l.i
