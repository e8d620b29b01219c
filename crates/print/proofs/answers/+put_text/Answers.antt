-- `put_text` puts one digit, or the digits of a tenth and then the last one.
use Rattle.std.proofs.Common.{arith}
use Rattle.print.specs.TextLaws.{text-last, text-next}
use Rattle.print.proofs.answers.+put_text.Goals as goal

pub returns-then-n-lt10 : goal.returns-then-n-lt10
returns-then-n-lt10 t c = text-last c.if-n-lt10.true c.put_byte.ensures

pub returns : goal.returns
returns t c = text-next (omega arith) c.if-n-lt10.false c.put_text-next.ensures c.put_byte-2.ensures
