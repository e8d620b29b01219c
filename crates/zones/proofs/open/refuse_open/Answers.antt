-- `refuse_open` gives the number of the first of three tests that fails: the shape, the capacities, the lengths.
use mathlib.Core.Path.{ap, ◌∙◌}
use Rattle.std.proofs.lemmas.Result.{err_from_is_err_and}
use Rattle.squares.specs.Shape.{allowed}
use Rattle.squares.specs.ShapeLaws.{allowed→, shaped→, not-shaped, shape-refused}
use Rattle.squares.specs.RefusalLaws.{stops, holds, fails}
use Rattle.model.specs.Model.{meaning}
use Rattle.tables.specs.CheckLaws.{roomy→}
use Rattle.zones.proofs.open.refuse_open.Goals as goal

pub returns-in_err-new : goal.returns-in_err-new
unfolding meaning
returns-in_err-new c =
    let s = c.args.o.shape in
    let p = err_from_is_err_and c.from_residual.result c.from_residual.ensures.1 in
    rw (p.1, p.2, shape-refused s.k s.P s.Q c.new.ensures c.in_err-new.was) (stops 0 _ (not-shaped s.k s.P s.Q c.new.ensures c.in_err-new.was))

pub returns-then-not-roomy : goal.returns-then-not-roomy
unfolding meaning
returns-then-not-roomy c =
    let s = c.args.o.shape in
    let made = shaped→ s.k s.P s.Q c.new.ensures c.in_ok-new.was in
    stops 1 _ (ap allowed made.0 ∙ made.1, fails c.roomy.ensures c.if-not-roomy.true-raw)

pub long-requires : goal.long-requires
long-requires c =
    let s = c.args.o.shape in
    let made = shaped→ s.k s.P s.Q c.new.ensures c.in_ok-new.was in
    record { allowed = allowed→ _ (ap allowed made.0 ∙ made.1); roomy = roomy→ _ _ _ (holds c.roomy.ensures c.if-not-roomy.false-raw) }

pub returns-then-not-long : goal.returns-then-not-long
unfolding meaning
returns-then-not-long c =
    let s = c.args.o.shape in
    let made = shaped→ s.k s.P s.Q c.new.ensures c.in_ok-new.was in
    stops 2 _ (ap allowed made.0 ∙ made.1, (holds c.roomy.ensures c.if-not-roomy.false-raw, fails c.long.ensures c.if-not-long.true-raw))

pub returns : goal.returns
unfolding meaning
returns c =
    let s = c.args.o.shape in
    let made = shaped→ s.k s.P s.Q c.new.ensures c.in_ok-new.was in
    stops 3 _ (ap allowed made.0 ∙ made.1, (holds c.roomy.ensures c.if-not-roomy.false-raw, (holds c.long.ensures c.if-not-long.false-raw, tt)))
