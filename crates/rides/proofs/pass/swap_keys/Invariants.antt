-- `swap_keys`: what its loop keeps, and the number that falls with each turn.
use Prim.Native.Nat.{◌-◌}
use Rattle.rides.specs.PassLaws.{Passing}
use Rattle.rides.proofs.pass.swap_keys.Given as goal

abbrev pub invariant-loop-m : goal.invariant-loop-m
invariant-loop-m l = Passing l.keys.starts.now l.keys.n l.keys.gone.now l.keys.come.now l.u l.initial.entries l.entries l.from l.m

abbrev pub decreases-loop-m : goal.decreases-loop-m
decreases-loop-m l = l.most - l.m
