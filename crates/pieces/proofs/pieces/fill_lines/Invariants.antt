-- `fill_lines`: what its loop keeps, and the number that falls with each turn.
use Prim.Native.Nat.{◌-◌}
use lib.ListN.{length}
use Rattle.tables.specs.Tables.{tables}
use Rattle.pieces.specs.PieceLaws.{Walking}
use Rattle.pieces.proofs.pieces.fill_lines.Given as goal

abbrev pub invariant-loop-held : goal.invariant-loop-held
invariant-loop-held l = Walking (tables l.initial.head l.initial.zones l.initial.cars l.initial.spots l.initial.starts l.initial.entries l.initial.rosters l.initial.tallies) (tables l.head l.zones l.cars l.spots l.starts l.entries l.rosters l.tallies) l.piece l.initial.held l.held l.initial.out l.out l.at l.many l.wrote

abbrev pub decreases-loop-held : goal.decreases-loop-held
decreases-loop-held l = length l.piece - l.at
