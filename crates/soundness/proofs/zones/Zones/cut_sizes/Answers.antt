-- `cut_sizes`: the loop has added up the entries of the zones passed.
use Rattle.soundness.specs.ZoneLaws.{summed-none, summed-more}
use Rattle.soundness.proofs.zones.Zones.cut_sizes.Goals as goal

pub loop-z-init : goal.loop-z-init
loop-z-init c = summed-none _ _ _

pub loop-z-preserved : goal.loop-z-preserved
loop-z-preserved c = summed-more _ _ _ _ _ _ c.loop-z.invariant c.loop-z-test.true c.cut_size-n.ensures
