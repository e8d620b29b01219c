-- `pack_keys`: what its loop keeps.
use Rattle.entries.specs.DropLaws.{Dropping}
use Rattle.entries.proofs.entries.pack_keys.Given as goal

abbrev pub invariant-loop-i : goal.invariant-loop-i
invariant-loop-i l = Dropping l.z l.initial.starts l.starts l.initial.entries l.entries l.p l.by l.kept l.i
