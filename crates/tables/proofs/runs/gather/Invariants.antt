-- `gather` keeps every zone.
use Rattle.tables.specs.Runs.{any}
use Rattle.tables.proofs.runs.gather.Given as goal

abbrev pub ghost-gather_kept : goal.ghost-gather_kept
ghost-gather_kept a = any
