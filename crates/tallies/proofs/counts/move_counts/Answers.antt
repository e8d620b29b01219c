-- `move_counts` turns zone after zone: what is left of the list is still to be turned.
use Rattle.tallies.specs.CountLaws.{move-turns, move-ends}
use Rattle.tallies.proofs.counts.move_counts.Goals as goal

pub loop-z-preserved : goal.loop-z-preserved
loop-z-preserved c = move-turns _ _ _ _ c.loop-z.invariant c.loop-z-test.true c.turn_zone.ensures

pub returns : goal.returns
returns c = move-ends _ _ _ _ c.loop-z.invariant c.loop-z-test.false
