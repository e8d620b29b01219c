-- `slide`: what its loop keeps.
use Rattle.std.proofs.Common.{◌≡◌, ◌++◌, ◌∷◌, length, drop, take, get_or}
use Rattle.order.proofs.slide.Given as goal

abbrev pub invariant-loop-i : goal.invariant-loop-i
invariant-loop-i l = (l.part ≡ take l.i (l.x ∷ l.initial.part) ++ drop l.i l.initial.part) × ((l.next ≡ get_or (l.x ∷ l.initial.part) l.i 0) × (length l.part ≡ length l.initial.part))
