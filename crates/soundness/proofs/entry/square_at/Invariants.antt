-- `square_at`: what its loop keeps.
use Rattle.soundness.specs.EntryLaws.{Walked}
use Rattle.soundness.proofs.entry.square_at.Given as goal

abbrev pub invariant-loop-level : goal.invariant-loop-level
invariant-loop-level l = Walked l.s l.p l.level l.number l.count
