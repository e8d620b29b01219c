-- `read_digits` has read the digits before this byte, and the others give the same number from there.
use Rattle.std.proofs.Common.{get_or, refl, ◌∙◌, arith}
use Rattle.line.specs.Grammar.{digit_of}
use Rattle.line.specs.NumberLaws.{reads_fit, reads-turn, reads-stop, reads_end}
use Rattle.line.proofs.numbers.read_digits.Goals as goal

pub returns-in_err-d : goal.returns-in_err-d
returns-in_err-d c =
    let none = rw c.in_err-d.was at c.digit.ensures in
    c.from_residual.ensures ∙ reads-stop c.requires c.loop-byte.invariant (digit_of (get_or c.args.field.now c.loop-byte.byte-index 0)) (omega arith) refl (omega (arith, none))

pub returns-then-base-d : goal.returns-then-base-d
returns-then-base-d c =
    let some = rw c.in_ok-d.was at c.digit.ensures in
    reads-stop c.requires c.loop-byte.invariant _ (omega arith) some.1 (omega arith)

pub overflow_add-n : goal.overflow_add-n
overflow_add-n c = omega (arith, reads_fit c.requires c.loop-byte.invariant c.in_ok-d.d (omega arith) (omega arith))

pub loop-byte-preserved : goal.loop-byte-preserved
loop-byte-preserved c =
    let some = rw c.in_ok-d.was at c.digit.ensures in
    reads-turn c.requires c.loop-byte.invariant _ (omega arith) some.1 (omega arith)

pub returns : goal.returns
returns c = reads_end c.requires c.loop-byte.invariant (omega arith)
