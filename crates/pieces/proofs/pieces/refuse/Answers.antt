-- `refuse` asks in order: the tables and the held bytes, then the buffer.
use mathlib.Core.Path.{sym, ◌∙◌}
use borrow.Author.Tests.{lt-leb, le-leb}
use Rattle.order.specs.TestLaws.{true-or-false}
use Rattle.squares.specs.RefusalLaws.{stops}
use Rattle.tables.specs.Lent.{given_read}
use Rattle.pieces.specs.Pieces.{checks}
use Rattle.pieces.proofs.pieces.refuse.Goals.{then-not-roomed-via-then-not-roomed, then-not-roomed-via-else-not-roomed+then-not-counted}
use Rattle.pieces.proofs.pieces.refuse.Goals as goal

pub returns-then-not-roomed : goal.returns-then-not-roomed
returns-then-not-roomed c =
    let a = c.args in
    let l = checks (given_read a.town) a.held.now a.out.now in
    elim c.then-not-roomed.branch [
      | then-not-roomed-via-then-not-roomed w ↦ record { is = stops 0 l (sym c.roomed.ensures ∙ w.if-not-roomed.true) }
      | then-not-roomed-via-else-not-roomed+then-not-counted w ↦ record { is = stops 1 l (sym c.roomed.ensures ∙ w.if-not-roomed.false, sym w.counted.ensures ∙ w.if-not-counted.true) }
    ]

pub returns-then-out-lt768 : goal.returns-then-out-lt768
returns-then-out-lt768 c =
    let a = c.args in
    record { is = stops 2 (checks (given_read a.town) a.held.now a.out.now) (sym c.roomed.ensures ∙ c.if-not-roomed.false, (sym c.counted.ensures ∙ c.if-not-counted.false, lt-leb _ _ c.if-out-lt768.true)) }

pub returns : goal.returns
returns c =
    let a = c.args in
    record { is = stops 3 (checks (given_read a.town) a.held.now a.out.now) (sym c.roomed.ensures ∙ c.if-not-roomed.false, (sym c.counted.ensures ∙ c.if-not-counted.false, (le-leb _ _ c.if-out-lt768.false, tt))) }
