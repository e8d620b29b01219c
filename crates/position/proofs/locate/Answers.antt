-- `locate` answers by the pair of its coordinates' answers, on an allowed shape.
use mathlib.Core.Bool.{true}
use mathlib.Core.Path.{◌≡◌, sym, ◌∙◌}
use borrow.Author.Tests.{not-true, not-false}
use Rattle.squares.specs.Shape.{allowed, width, height}
use Rattle.position.specs.Spots.{coordinate_on}
use Rattle.position.proofs.Pairs.{by-pair, no-town}
use Rattle.position.proofs.locate.Goals as goal

pub returns-then-not-allowed : goal.returns-then-not-allowed
returns-then-not-allowed c = sym (no-town _ _ (sym c.allowed.ensures ∙ not-true _ c.if-not-allowed.true-raw))

pub returns-in_err-x : goal.returns-in_err-x
returns-in_err-x c =
    let west : let at = c.args in coordinate_on (width at.s) at.p.x ≡ c.cell_of.result = rw (← c.width-width.ensures.is) (sym c.cell_of.ensures) in
    let is-allowed : allowed c.args.s ≡ true = sym c.allowed.ensures ∙ not-false _ c.if-not-allowed.false-raw in
    rw (by-pair _ _ is-allowed, west, c.in_err-x.was, c.from_residual.ensures)

pub returns-in_err-y : goal.returns-in_err-y
returns-in_err-y c =
    let south : let at = c.args in coordinate_on (height at.s) at.p.y ≡ c.cell_of-2.result = rw (← c.height-height.ensures.is) (sym c.cell_of-2.ensures) in
    let west : let at = c.args in coordinate_on (width at.s) at.p.x ≡ c.cell_of.result = rw (← c.width-width.ensures.is) (sym c.cell_of.ensures) in
    let is-allowed : allowed c.args.s ≡ true = sym c.allowed.ensures ∙ not-false _ c.if-not-allowed.false-raw in
    rw (by-pair _ _ is-allowed, west, south, c.in_ok-x.was, c.in_err-y.was, c.from_residual-in_err-y.ensures)

pub returns : goal.returns
returns c =
    let south : let at = c.args in coordinate_on (height at.s) at.p.y ≡ c.cell_of-2.result = rw (← c.height-height.ensures.is) (sym c.cell_of-2.ensures) in
    let west : let at = c.args in coordinate_on (width at.s) at.p.x ≡ c.cell_of.result = rw (← c.width-width.ensures.is) (sym c.cell_of.ensures) in
    let is-allowed : allowed c.args.s ≡ true = sym c.allowed.ensures ∙ not-false _ c.if-not-allowed.false-raw in
    rw (by-pair _ _ is-allowed, west, south, c.in_ok-x.was, c.in_ok-y.was)
