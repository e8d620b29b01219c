-- `open_room` refuses a shape beyond the bounds, then one beyond the room, and counts the starts of any other.
use Rattle.std.proofs.lemmas.Result.{err_from_is_err_and}
use Rattle.squares.specs.ShapeLaws.{shaped→, not-shaped, shape-refused}
use Rattle.squares.specs.RefusalLaws.{holds, fails}
use Rattle.room.specs.OpenLaws.{beyond-1, beyond-3, let-roomy}
use Rattle.room.proofs.room.open_room.Goals as goal

pub returns-in_err-s : goal.returns-in_err-s
returns-in_err-s c =
    let a = c.args in
    let p = err_from_is_err_and c.from_residual.result c.from_residual.ensures.1 in
    rw (p.1, p.2, shape-refused a.k a.P a.Q c.new.ensures c.in_err-s.was) (beyond-1 a.k a.P a.Q (not-shaped a.k a.P a.Q c.new.ensures c.in_err-s.was))

pub returns-then-not-roomy : goal.returns-then-not-roomy
returns-then-not-roomy c = let a = c.args in beyond-3 a.k a.P a.Q (shaped→ a.k a.P a.Q c.new.ensures c.in_ok-s.was) (fails c.roomy.ensures c.if-not-roomy.true-raw)

pub returns : goal.returns
returns c = let a = c.args in let-roomy a.k a.P a.Q (shaped→ a.k a.P a.Q c.new.ensures c.in_ok-s.was) (holds c.roomy.ensures c.if-not-roomy.false-raw) c.squares.ensures.is
