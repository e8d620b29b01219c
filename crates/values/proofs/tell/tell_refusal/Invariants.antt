-- `tell_refusal`: what its loop keeps: the zeros still to come give what all of them give.
use Prim.Native.Nat.{◌-◌}
use mathlib.Core.List.{map}
use mathlib.Core.Path.{◌≡◌}
use lib.ListN.{replicate}
use lib.Seq.{sets}
use Rattle.values.specs.Promises.{capped}
use Rattle.values.proofs.tell.tell_refusal.Given as goal

abbrev pub invariant-loop-i : goal.invariant-loop-i
invariant-loop-i g l = sets l.values l.i (map capped (replicate (g.row.N - l.i) 0)) ≡ sets l.initial.values 0 (map capped (replicate g.row.N 0))
