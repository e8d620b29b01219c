-- `close_gaps`: what its loop keeps.
use Rattle.entries.specs.GapLaws.{Closing}
use Rattle.entries.proofs.gaps.close_gaps.Given as goal

abbrev pub invariant-loop-gone : goal.invariant-loop-gone
invariant-loop-gone l = Closing l.n l.u l.starts l.initial.entries l.entries l.from l.gone
