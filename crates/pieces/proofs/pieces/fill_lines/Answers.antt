-- `fill_lines` takes line after line out of the piece, and answers it.
use native.Mathlib.Omega.{arith}
use Rattle.pieces.specs.PieceLaws.{walk-turns, walk_ends}
use Rattle.pieces.proofs.pieces.fill_lines.Goals as goal

pub loop-held-preserved : goal.loop-held-preserved
loop-held-preserved c =
    walk-turns c.loop-held.invariant c.goes_on.ensures c.loop-held-test.true c.take_line-taken.ensures
    c.answer_line-wrote.auto.out
    (record {
      head = omega (arith, c.answer_line-wrote.auto.town.0);
      zones = omega (arith, c.answer_line-wrote.auto.town.1.0);
      cars = omega (arith, c.answer_line-wrote.auto.town.1.1.0);
      spots = omega (arith, c.answer_line-wrote.auto.town.1.1.1.0);
      starts = omega (arith, c.answer_line-wrote.auto.town.1.1.1.1.0);
      entries = omega (arith, c.answer_line-wrote.auto.town.1.1.1.1.1.0);
      rosters = omega (arith, c.answer_line-wrote.auto.town.1.1.1.1.1.1.0);
      tallies = omega (arith, c.answer_line-wrote.auto.town.1.1.1.1.1.1.1.0);
    })
    c.answer_line-wrote.ensures

pub returns : goal.returns
returns c = walk_ends c.loop-held.invariant c.goes_on.ensures c.loop-held-test.false c.keep_held.ensures
