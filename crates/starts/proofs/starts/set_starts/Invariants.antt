-- `set_starts`: what its loop keeps.
use Rattle.starts.specs.RankLaws.{Ranking}
use Rattle.starts.proofs.starts.set_starts.Given as goal

abbrev pub invariant-loop-i : goal.invariant-loop-i
invariant-loop-i l = Ranking l.initial.starts l.entries l.starts l.p l.i
