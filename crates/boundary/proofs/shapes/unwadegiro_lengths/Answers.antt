-- The lengths of the tables: 1 without a shape, 2 without capacities, else the eight.
use Rattle.squares.specs.ShapeLaws.{shaped→, not-shaped}
use Rattle.squares.specs.RefusalLaws.{holds, fails}
use Rattle.boundary.specs.GivesLaws.{gives, lengths-stops}
use Rattle.boundary.proofs.shapes.unwadegiro_lengths.Goals as goal

pub returns-in_default : goal.returns-in_default
returns-in_default c = let a = c.args in gives (lengths-stops _ _ _ _ 0 (not-shaped a.k a.P a.Q c.new.ensures c.in_default.is)) c.tell_refusal.ensures

pub returns-then-not-roomy : goal.returns-then-not-roomy
returns-then-not-roomy c =
    let a = c.args in
    let made = shaped→ a.k a.P a.Q c.new.ensures c.in-Ok.is in
    rw made.0 (gives (lengths-stops _ _ _ _ 1 (made.1, fails c.roomy.ensures c.if-not-roomy.true-raw)) c.tell_refusal-then-not-roomy.ensures)

pub returns : goal.returns
returns c =
    let a = c.args in
    let made = shaped→ a.k a.P a.Q c.new.ensures c.in-Ok.is in
    rw made.0 (gives (lengths-stops _ _ _ _ 2 (made.1, (holds c.roomy.ensures c.if-not-roomy.false-raw, tt))) (rw c.squares.ensures.is at c.tell_values.ensures))
