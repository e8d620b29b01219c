-- `hold`: what its loop keeps.
use Rattle.line.specs.LineLaws.{Holding}
use Rattle.line.proofs.lines.hold.Given as goal

abbrev pub invariant-loop-byte : goal.invariant-loop-byte
invariant-loop-byte l = Holding l.part l.initial.held l.held l.n l.m l.byte-index
