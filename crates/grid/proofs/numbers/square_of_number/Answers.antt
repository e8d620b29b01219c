-- The square of a number: 1 without a shape, 13 above the levels or the numbers of a level, else the square.
use mathlib.Core.Bool.{true}
use mathlib.Core.Path.{◌≡◌}
use Rattle.std.proofs.lemmas.Result.{err_from_is_err_and}
use Rattle.squares.specs.Shape.{shape, allowed}
use Rattle.squares.specs.ShapeLaws.{shaped→, not-shaped, shape-refused}
use Rattle.grid.specs.PromiseLaws.{square-stops, level-beyond, number-beyond, number-there}
use Rattle.grid.proofs.numbers.square_of_number.Goals as goal

pub returns-in_err-s : goal.returns-in_err-s
returns-in_err-s c =
    let a = c.args in
    let p = err_from_is_err_and c.from_residual.result c.from_residual.ensures.1 in
    rw (p.1, p.2, shape-refused a.k a.P a.Q c.new.ensures c.in_err-s.was) (square-stops _ _ _ 0 (not-shaped a.k a.P a.Q c.new.ensures c.in_err-s.was))

pub returns-then-s-level : goal.returns-then-s-level
returns-then-s-level c =
    let made : (shape c.args.k c.args.P c.args.Q ≡ (c.in_ok-s.s)) × (allowed (c.in_ok-s.s) ≡ true) = shaped→ c.args.k c.args.P c.args.Q c.new.ensures c.in_ok-s.was in
    let m = made in rw m.0 (square-stops _ _ _ 1 (m.1, level-beyond _ _ _ c.if-s-level.true))

pub returns-then-squares_on-n : goal.returns-then-squares_on-n
returns-then-squares_on-n c =
    let made : (shape c.args.k c.args.P c.args.Q ≡ (c.in_ok-s.s)) × (allowed (c.in_ok-s.s) ≡ true) = shaped→ c.args.k c.args.P c.args.Q c.new.ensures c.in_ok-s.was in
    let m = made in rw m.0 (square-stops _ _ _ 1 (m.1, number-beyond _ _ _ c.if-s-level.false c.squares_on.ensures.is c.if-squares_on-n.true))

pub returns : goal.returns
returns c =
    let made : (shape c.args.k c.args.P c.args.Q ≡ (c.in_ok-s.s)) × (allowed (c.in_ok-s.s) ≡ true) = shaped→ c.args.k c.args.P c.args.Q c.new.ensures c.in_ok-s.was in
    let m = made in rw (m.0, c.square.ensures) (square-stops _ _ _ 2 (m.1, (number-there _ _ _ c.if-s-level.false c.squares_on.ensures.is c.if-squares_on-n.false, tt)))
