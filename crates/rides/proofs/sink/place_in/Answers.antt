-- `place_in` counts on from the first place.
use native.Mathlib.Omega.{arith}
use Rattle.rides.specs.SinkLaws.{found_in}
use Rattle.rides.proofs.sink.place_in.Goals as goal

pub returns : goal.returns
returns c = found_in (omega arith) (omega arith) c.find_key.ensures
