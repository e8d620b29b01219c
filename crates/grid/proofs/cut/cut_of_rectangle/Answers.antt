-- The cut of a rectangle: 1 without a shape, 9 where the rectangle does not fit, 11 without room, else the list.
use mathlib.Core.Bool.{true}
use mathlib.Core.Path.{◌≡◌}
use Rattle.std.proofs.lemmas.Result.{err_from_is_err_and}
use native.Mathlib.Omega.{arith}
use Rattle.squares.specs.Shape.{shape, allowed, fits}
use Rattle.squares.specs.ShapeLaws.{shaped→, not-shaped, shape-refused}
use Rattle.squares.specs.RefusalLaws.{holds, fails}
use Rattle.grid.specs.PromiseLaws.{cut-stops, cut-listed}
use Rattle.grid.proofs.cut.cut_of_rectangle.Goals as goal

pub returns-in_err-s : goal.returns-in_err-s
returns-in_err-s c =
    let a = c.args in
    let p = err_from_is_err_and c.from_residual.result c.from_residual.ensures.1 in
    rw (p.1, p.2, shape-refused a.k a.P a.Q c.new.ensures c.in_err-s.was) (cut-stops _ _ _ 0 (not-shaped a.k a.P a.Q c.new.ensures c.in_err-s.was))

pub returns-then-not-fits : goal.returns-then-not-fits
returns-then-not-fits c =
    let made : (shape c.args.k c.args.P c.args.Q ≡ (c.in_ok-s.s)) × (allowed (c.in_ok-s.s) ≡ true) = shaped→ c.args.k c.args.P c.args.Q c.new.ensures c.in_ok-s.was in
    let m = made in rw m.0 (cut-stops _ _ _ 1 (m.1, fails c.fits.ensures c.if-not-fits.true-raw))

pub returns : goal.returns
returns c =
    let made : (shape c.args.k c.args.P c.args.Q ≡ (c.in_ok-s.s)) × (allowed (c.in_ok-s.s) ≡ true) = shaped→ c.args.k c.args.P c.args.Q c.new.ensures c.in_ok-s.was in
    let fitting : fits (c.in_ok-s.s) c.args.r ≡ true = holds c.fits.ensures c.if-not-fits.false-raw in
    let m = made in
    rw m.0 (cut-listed _ _ _ _ m.1 fitting c.cut_count-count.ensures _ _ (omega arith) c.cut_levels.ensures.wrote)
