-- A line has fewer than 2 ^ 63 bytes, and a field ends within it.
use Rattle.std.proofs.Common.{arith}
use Rattle.line.specs.RecordLaws.{field-within}
use Rattle.line.proofs.reader.Reader.next_end.Goals as goal

pub overflow_add-self : goal.overflow_add-self
overflow_add-self c = omega (arith, field-within c.args.self.now.line.now c.args.self.now.at)
