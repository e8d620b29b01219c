-- `sized` is check 3: the length of head, the shape, the capacities, then every length.
use Rattle.std.proofs.Common.{◌≡◌, true, false, sym, ◌∙◌}
use borrow.Author.Tests.{not-true, not-false}
use Rattle.squares.specs.Shape.{allowed}
use Rattle.model.specs.Model.{roomy}
use Rattle.tables.specs.Lent.{given_read}
use Rattle.tables.specs.Sizes.{Sized}
use Rattle.tables.specs.CheckLaws.{not-sized, sized-by}
use Rattle.tables.proofs.lent.ReadTables.sized.Goals as goal

pub returns-then-self-ne6 : goal.returns-then-self-ne6
returns-then-self-ne6 c = let t = given_read c.args.self in sym (not-sized t (λ (h : Sized t). c.if-self-ne6.true h.lengths.head))

pub returns-then-not-allowed : goal.returns-then-not-allowed
returns-then-not-allowed c =
    let by = sized-by (given_read c.args.self) c.opened_by-o.ensures in
    let within : allowed c.opened_by-o.result.shape ≡ false = sym c.allowed.ensures ∙ not-true _ c.if-not-allowed.true-raw in
    rw within at by

pub returns-then-not-roomy : goal.returns-then-not-roomy
returns-then-not-roomy c =
    let by = sized-by (given_read c.args.self) c.opened_by-o.ensures in
    let within : allowed c.opened_by-o.result.shape ≡ true = sym c.allowed.ensures ∙ not-false _ c.if-not-allowed.false-raw in
    let room : let o = c.opened_by-o.result in roomy o.zones o.cars o.entries ≡ false = sym c.roomy.ensures ∙ not-true _ c.if-not-roomy.true-raw in
    rw (within, room) at by

pub returns : goal.returns
returns c =
    let by = sized-by (given_read c.args.self) c.opened_by-o.ensures in
    let within : allowed c.opened_by-o.result.shape ≡ true = sym c.allowed.ensures ∙ not-false _ c.if-not-allowed.false-raw in
    let room : let o = c.opened_by-o.result in roomy o.zones o.cars o.entries ≡ true = sym c.roomy.ensures ∙ not-false _ c.if-not-roomy.false-raw in
    c.long.ensures ∙ rw (within, room) at by
