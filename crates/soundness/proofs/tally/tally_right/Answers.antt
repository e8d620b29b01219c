-- `tally_right` counts the zone's cars anew, and compares the numbers.
use Rattle.soundness.specs.Tests.{tally_right}
use Rattle.soundness.proofs.tally.tally_right.Goals as goal

pub returns : goal.returns
unfolding tally_right
returns c = rw c.count_cars.ensures at c.row_right.ensures
