-- `is_lower` compares the two numbers, where both are left.
use mathlib.Core.Path.{refl}
use native.Mathlib.Omega.{arith}
use Rattle.order.specs.LowerLaws.{lower-none, lower-alone, lower-told}
use Rattle.order.proofs.is_lower.Goals as goal

pub returns-then-n-i : goal.returns-then-n-i
returns-then-n-i c = lower-none c.if-n-i.true

pub returns-then-end-j : goal.returns-then-end-j
returns-then-end-j c = lower-alone c.if-n-i.false c.if-end-j.true

pub returns : goal.returns
returns c = lower-told (omega arith) (omega arith) refl
