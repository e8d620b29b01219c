-- `read_record`: what its loop keeps.
use Rattle.std.proofs.Common.{length}
use Rattle.line.specs.Grammar.{form}
use Rattle.line.specs.RecordLaws.{Gets}
use Rattle.line.proofs.Forms.{wide}
use Rattle.line.proofs.records.read_record.Given as goal

abbrev pub invariant-loop-i : goal.invariant-loop-i
invariant-loop-i l = Gets l.letter (length (form l.letter)) (wide l.letter) l.line l.ends l.v l.at l.i
