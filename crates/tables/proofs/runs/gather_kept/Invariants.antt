-- `gather_kept`: what its loop keeps.
use Rattle.std.proofs.Common.{◌+◌}
use Rattle.std.specs.Prelude.{slice_index}
use Rattle.tables.specs.GatherLaws.{Gathering}
use Rattle.tables.proofs.runs.gather_kept.Given as goal

abbrev pub invariant-loop-key : goal.invariant-loop-key
invariant-loop-key g l = Gathering g.has l.starts l.entries l.p l.initial.out l.n l.out (slice_index l.starts l.p + l.key-index) (slice_index l.starts (l.p + 1)) l.count
