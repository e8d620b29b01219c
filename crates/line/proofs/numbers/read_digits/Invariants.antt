-- `read_digits`: what its loop keeps.
use Rattle.line.specs.NumberLaws.{Reads}
use Rattle.line.proofs.numbers.read_digits.Given as goal

abbrev pub invariant-loop-byte : goal.invariant-loop-byte
invariant-loop-byte l = Reads l.base l.field l.n l.byte-index
