-- `put_list` puts a dash for an empty list, and else the first member and the others.
use native.Mathlib.Omega.{arith}
use Rattle.print.specs.TextLaws.{puts_none, puts-list}
use Rattle.print.proofs.answers.put_list.Goals as goal

pub returns-in-empty : goal.returns-in-empty
returns-in-empty c = puts_none _ (omega (arith, c.in-empty.len_below)) c.put_byte.ensures

pub returns-in-len1-up : goal.returns-in-len1-up
returns-in-len1-up c = puts-list _ c.in-len1-up.len_at_least c.put_text-next.ensures c.put_others.ensures
