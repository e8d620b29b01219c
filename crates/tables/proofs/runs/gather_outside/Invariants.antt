-- `gather_outside` keeps the zones that do not hold the cell.
use Rattle.tables.specs.Runs.{outside}
use Rattle.tables.specs.contracts.runs.fn.gather_outside.gather_kept as closure
use Rattle.tables.proofs.runs.gather_outside.Given as goal

abbrev pub ghost-gather_kept : goal.ghost-gather_kept
ghost-gather_kept a = let k = closure.captures a.keeps in outside k.zones.now k.cell.x k.cell.y
