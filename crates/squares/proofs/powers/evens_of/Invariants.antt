-- `evens_of`: what its loop keeps.
use Rattle.std.proofs.Common.{◌-◌}
use Rattle.squares.specs.Squares.{evens}
use Rattle.squares.specs.PowerLaws.{Digits}
use Rattle.squares.proofs.powers.evens_of.Given as goal

abbrev pub invariant-loop : goal.invariant-loop
invariant-loop l = Digits 2 l.i (evens l.i l.n) (evens (l.i - l.counter) l.rest) l.r l.place l.counter
