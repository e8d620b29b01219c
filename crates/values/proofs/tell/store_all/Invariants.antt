-- `store_all`: what its loop keeps: the values still to come give what all of them give.
use mathlib.Core.List.{map}
use mathlib.Core.Path.{◌≡◌}
use lib.ListN.{drop}
use lib.Seq.{sets}
use Rattle.values.specs.Promises.{capped}
use Rattle.values.proofs.tell.store_all.Given as goal

abbrev pub invariant-loop-i : goal.invariant-loop-i
invariant-loop-i l = sets l.values l.i (map capped (drop l.i l.told)) ≡ sets l.initial.values 0 (map capped l.told)
