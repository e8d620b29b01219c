-- `cut_row`: what its loop keeps.
use Rattle.cuts.specs.LoopLaws.{RowTurn}
use Rattle.cuts.proofs.descent.cut_row.Given as goal

abbrev pub invariant-loop-column : goal.invariant-loop-column
invariant-loop-column l = RowTurn l.s l.r l.row l.initial.out l.out l.initial.next l.next l.column
