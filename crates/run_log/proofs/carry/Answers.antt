-- `carry` answers and writes a part of the piece after the other, until all is read.
use native.Mathlib.Omega.{arith}
use Rattle.std.proofs.lemmas.Result.{err_from_is_err_and}
use Rattle.run_log.specs.CarriedLaws.{not-refused, carry-begins, carry-further, carry-turns, carry-stops}
use Rattle.run_log.proofs.carry.Goals as goal

pub loop-at-init : goal.loop-at-init
loop-at-init g c = carry-begins _ c.requires

pub unreachable-requires : goal.unreachable-requires
unreachable-requires g c = not-refused c.loop-at.invariant.carries c.answer_piece.ensures c.in_default.is

pub returns-in_err-write_all : goal.returns-in_err-write_all
returns-in_err-write_all g c =
    let p = err_from_is_err_and c.from_residual.result c.from_residual.ensures.1 in
    rw p.1 (carry-stops c.loop-at.invariant c.answer_piece.ensures c.in-Ok.is c.answer_piece.auto.out)

pub loop-at-smaller : goal.loop-at-smaller
loop-at-smaller g c = omega (arith, carry-further c.loop-at.invariant c.answer_piece.ensures c.in-Ok.is c.answer_piece.auto.out c.loop-at-test.true)

pub loop-at-preserved : goal.loop-at-preserved
loop-at-preserved g c = carry-turns c.loop-at.invariant c.answer_piece.ensures c.in-Ok.is c.answer_piece.auto.out
