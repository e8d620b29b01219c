-- `cut_rows`: what its loop keeps.
use Rattle.cuts.specs.LoopLaws.{RowsTurn}
use Rattle.cuts.proofs.descent.cut_rows.Given as goal

abbrev pub invariant-loop-row : goal.invariant-loop-row
invariant-loop-row l = RowsTurn l.s l.r l.initial.out l.out l.initial.next l.next l.row
