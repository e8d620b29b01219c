-- `field_ends`: what its loop keeps.
use Rattle.std.proofs.Common.{◌≡◌, ◌-◌, ◌++◌, take, length}
use Rattle.line.specs.Fields.{field_ends}
use Rattle.line.proofs.reader.field_ends.Given as goal

abbrev pub invariant-loop-end : goal.invariant-loop-end
invariant-loop-end l = (length l.end-items ≡ 7) × (take l.end-index l.end-items ++ field_ends (7 - l.end-index) l.r.line.now l.r.at ≡ field_ends 7 l.line 0)
