-- `list_cars`: what its loop keeps.
use Rattle.std.proofs.Common.{◌≤◌}
use Rattle.order.specs.Order.{Wrote}
use Rattle.tables.specs.Rows.{row}
use Rattle.tables.proofs.rosters.list_cars.Given as goal

abbrev pub invariant-loop-c : goal.invariant-loop-c
invariant-loop-c l = (l.c ≤ l.many) × ((l.next ≤ l.c) × Wrote l.initial.out l.out 0 l.next (row l.rosters l.from l.c))
