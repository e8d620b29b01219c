-- `raise_starts` moves the starts by steps of one.
use Rattle.starts.specs.ShiftLaws.{steps_up, moved_as}
use Rattle.starts.proofs.shift.raise_starts.Goals as goal

pub returns : goal.returns
returns c = moved_as steps_up c.move_starts.ensures
