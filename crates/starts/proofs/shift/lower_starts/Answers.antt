-- `lower_starts` moves the starts by steps of 2^32 - 1: one less each.
use Rattle.starts.specs.ShiftLaws.{steps-down, moved_as}
use Rattle.starts.proofs.shift.lower_starts.Goals as goal

pub returns : goal.returns
returns c = moved_as steps-down c.move_starts.ensures
