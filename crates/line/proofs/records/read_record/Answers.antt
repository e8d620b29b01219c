-- `read_record` has read i values, and the next field starts at `at`; a missing field, a wrong one or one too many ends it.
use Rattle.std.proofs.Common.{◌≡◌, ◌<◌, length, sym, ◌∙◌, arith}
use Rattle.line.specs.RecordLaws.{gets-begin, gets-found, gets-missing, gets-wrong, gets-small, gets-turn, gets_more, gets-end}
use Rattle.line.proofs.Forms.{wide-formed, wide-at}
use Rattle.line.proofs.records.read_record.Goals as goal

pub loop-i-init : goal.loop-i-init
loop-i-init c = gets-begin _ _ _ _ _ (wide-formed c.args.letter) c.requires

pub returns-then-end-at : goal.returns-then-end-at
returns-then-end-at c = gets-missing c.loop-i.invariant (rw c.form_of-bases.ensures at c.loop-i-test.true) c.if-end-at.true

pub slice_bounds-read_value-end : goal.slice_bounds-read_value-end
slice_bounds-read_value-end c = (gets-found c.loop-i.invariant c.if-end-at.false).within

pub returns-in_default : goal.returns-in_default
returns-in_default c =
    let within : c.loop-i.i < length c.form_of-bases.result.now = c.loop-i-test.true in
    gets-wrong c.loop-i.invariant (rw c.form_of-bases.ensures at within) c.if-end-at.false (rw (← wide-at c.args.letter c.loop-i.i c.form_of-bases.ensures within) (sym c.read_value.ensures ∙ c.in_default.is))

pub overflow_cast-v : goal.overflow_cast-v
overflow_cast-v c =
    let within : c.loop-i.i < length c.form_of-bases.result.now = c.loop-i-test.true in
    omega (arith, gets-small c.loop-i.invariant c.in-Some.n (rw (← wide-at c.args.letter c.loop-i.i c.form_of-bases.ensures within) (sym c.read_value.ensures ∙ c.in-Some.is)))

pub overflow_add-at : goal.overflow_add-at
overflow_add-at c = let h = gets-found c.loop-i.invariant c.if-end-at.false in omega (arith, h.within)

pub loop-i-preserved : goal.loop-i-preserved
loop-i-preserved c =
    let within : c.loop-i.i < length c.form_of-bases.result.now = c.loop-i-test.true in
    gets-turn c.loop-i.invariant c.in-Some.n (rw c.form_of-bases.ensures at within) c.if-end-at.false (rw (← wide-at c.args.letter c.loop-i.i c.form_of-bases.ensures within) (sym c.read_value.ensures ∙ c.in-Some.is))

pub returns-then-at-ends : goal.returns-then-at-ends
returns-then-at-ends c =
    let all : length c.form_of-bases.result.now ≡ c.loop-i.i = omega arith in
    gets_more c.loop-i.invariant (rw c.form_of-bases.ensures at c.loop-i-test.false) (rw all at c.if-at-ends.true)

pub returns : goal.returns
returns c =
    let all : length c.form_of-bases.result.now ≡ c.loop-i.i = omega arith in
    c.record_of.ensures ∙ gets-end c.loop-i.invariant (rw c.form_of-bases.ensures at c.loop-i-test.false) (rw all at c.if-at-ends.false)
