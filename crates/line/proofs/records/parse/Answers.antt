-- `parse` refuses a line that is too long or does not begin with one letter, and else reads its record.
use mathlib.Core.Path.{◌∙◌}
use native.Mathlib.Omega.{arith}
use Rattle.line.specs.RecordLaws.{letter-there, ends-after, meaning-long, meaning-wrong, meaning-read}
use Rattle.line.proofs.records.parse.Goals as goal

pub returns-then-line-gt80 : goal.returns-then-line-gt80
returns-then-line-gt80 c = meaning-long _ c.if-line-gt80.true

pub returns-then-ends-ne1 : goal.returns-then-ends-ne1
returns-then-ends-ne1 c = meaning-wrong _ c.field_ends-ends.ensures (omega arith) c.if-ends-ne1.true

pub bounds-line-0 : goal.bounds-line-0
bounds-line-0 c = letter-there _ c.field_ends-ends.ensures c.if-ends-ne1.false

pub read_record-requires : goal.read_record-requires
read_record-requires c = ends-after _ c.field_ends-ends.ensures c.if-ends-ne1.false

pub returns : goal.returns
returns c = c.read_record.ensures ∙ meaning-read _ c.field_ends-ends.ensures c.if-ends-ne1.false (omega arith)
