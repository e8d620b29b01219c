-- A square looked at: stored where it lies inside, else told apart by its level and by whether it shares a cell.
use mathlib.Core.Bool.{false}
use mathlib.Core.Path.{◌≡◌, sym, ◌∙◌}
use Rattle.squares.specs.Shape.{within}
use Rattle.cuts.specs.StepLaws.{takes-inside, takes-lowest, takes-shared}
use Rattle.cuts.proofs.descent.take_square.Goals as goal

pub returns-then-within : goal.returns-then-within
returns-then-within c = takes-inside c.requires (sym c.within.ensures ∙ c.if-within.true) c.store.ensures

pub returns-then-level-next : goal.returns-then-level-next
returns-then-level-next c =
    let not-inside : let a = c.args in within a.r a.q.x a.q.y a.q.side ≡ false = sym c.within.ensures ∙ c.if-within.false in
    takes-shared c.requires _ not-inside c.if-level-next.true c.meets.ensures

pub returns : goal.returns
returns c =
    let not-inside : let a = c.args in within a.r a.q.x a.q.y a.q.side ≡ false = sym c.within.ensures ∙ c.if-within.false in
    takes-lowest c.requires _ not-inside c.if-level-next.false
