-- `look_up`: what its loop keeps.
use Rattle.lookup.specs.LookLaws.{Looking}
use Rattle.lookup.proofs.looks.look_up.Given as goal

abbrev pub invariant-loop : goal.invariant-loop
invariant-loop l = Looking l.s l.fn.cell.x l.fn.cell.y l.starts l.entries l.initial.out l.out l.place l.counter l.found
