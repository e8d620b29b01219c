-- `stamp_rows` sets a car's byte zone by zone: what is left of the list is still to be set.
use Rattle.rosters.specs.RosterLaws.{stamp-turns, stamp-ends}
use Rattle.rosters.proofs.rows.stamp_rows.Goals as goal

pub loop-z-preserved : goal.loop-z-preserved
loop-z-preserved c = stamp-turns _ _ _ _ _ c.loop-z.invariant c.loop-z-test.true c.byte_at.ensures c.store.ensures

pub returns : goal.returns
returns c = stamp-ends _ _ _ _ _ c.loop-z.invariant c.loop-z-test.false
