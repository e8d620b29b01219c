-- `cut_sizes`: what its loop keeps.
use Rattle.soundness.specs.ZoneLaws.{Summed}
use Rattle.soundness.proofs.zones.Zones.cut_sizes.Given as goal

abbrev pub invariant-loop-z : goal.invariant-loop-z
invariant-loop-z l = Summed l.self.s l.self.zones.now l.self.many l.n l.z
