-- `merge_keys`: what its loop keeps.
use Rattle.std.proofs.Common.{◌≤◌, take}
use Rattle.entries.specs.MergeLaws.{Merging}
use Rattle.entries.proofs.merge.merge_keys.Given as goal

abbrev pub invariant-loop-j : goal.invariant-loop-j
invariant-loop-j l = (l.j ≤ l.n) × Merging l.starts l.initial.entries (take l.n l.starts) l.u l.entries l.end l.j
