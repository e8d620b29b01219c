-- `write_spot` stores a car's two floats, one after the other.
use native.Mathlib.Omega.{arith}
use lib.ListN.{length-set}
use Rattle.edits.specs.SpotLaws.{spot-stored}
use Rattle.edits.proofs.cars.write_spot.Goals as goal

pub bounds-spots-at-2 : goal.bounds-spots-at-2
bounds-spots-at-2 c = simp length-set (omega arith)

pub returns : goal.returns
returns c = spot-stored c.args.spots.now c.args.c c.args.p
