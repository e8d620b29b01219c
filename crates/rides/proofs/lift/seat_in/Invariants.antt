-- `seat_in`: what its loop keeps.
use Prim.Native.Nat.{min, ◌≤◌}
use Rattle.rides.specs.LiftLaws.{Most}
use Rattle.rides.proofs.lift.seat_in.Given as goal

abbrev pub invariant-loop-i : goal.invariant-loop-i
invariant-loop-i l = record { most : Most l.starts l.n l.entries l.from l.end l.key l.i; low : min l.from l.limit ≤ l.i }
