-- The number of a square: 1 without a shape, 13 without a corner, else the number.
use mathlib.Core.Bool.{true}
use mathlib.Core.Path.{◌≡◌}
use Rattle.std.proofs.lemmas.Result.{err_from_is_err_and}
use Rattle.squares.specs.Shape.{shape, allowed}
use Rattle.squares.specs.Squares.{is_corner}
use Rattle.squares.specs.ShapeLaws.{shaped→, not-shaped, shape-refused}
use Rattle.squares.specs.RefusalLaws.{holds, fails}
use Rattle.grid.specs.PromiseLaws.{number-stops}
use Rattle.grid.proofs.numbers.number_of_square.Goals as goal

pub returns-in_err-s : goal.returns-in_err-s
returns-in_err-s c =
    let a = c.args in
    let p = err_from_is_err_and c.from_residual.result c.from_residual.ensures.1 in
    rw (p.1, p.2, shape-refused a.k a.P a.Q c.new.ensures c.in_err-s.was) (number-stops _ _ _ _ 0 (not-shaped a.k a.P a.Q c.new.ensures c.in_err-s.was))

pub returns-then-not-is_corner : goal.returns-then-not-is_corner
returns-then-not-is_corner c =
    let made : (shape c.args.k c.args.P c.args.Q ≡ (c.in_ok-s.s)) × (allowed (c.in_ok-s.s) ≡ true) = shaped→ c.args.k c.args.P c.args.Q c.new.ensures c.in_ok-s.was in
    let m = made in rw m.0 (number-stops _ _ _ _ 1 (m.1, fails c.is_corner.ensures c.if-not-is_corner.true-raw))

pub returns : goal.returns
returns c =
    let made : (shape c.args.k c.args.P c.args.Q ≡ (c.in_ok-s.s)) × (allowed (c.in_ok-s.s) ≡ true) = shaped→ c.args.k c.args.P c.args.Q c.new.ensures c.in_ok-s.was in
    let cornered : is_corner (c.in_ok-s.s) c.args.level c.args.x c.args.y ≡ true = holds c.is_corner.ensures c.if-not-is_corner.false-raw in
    let m = made in rw (m.0, c.number.ensures.is) (number-stops _ _ _ _ 2 (m.1, (cornered, tt)))
