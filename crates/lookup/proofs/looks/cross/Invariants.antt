-- `cross`: what its loop keeps.
use Rattle.lookup.specs.LookLaws.{Crossing}
use Rattle.lookup.proofs.looks.cross.Given as goal

abbrev pub invariant-loop : goal.invariant-loop
invariant-loop l = Crossing l.s l.zones l.starts l.entries l.from.x l.from.y l.to.x l.to.y l.initial.entered l.entered l.initial.left l.left l.differing l.old l.new l.counter l.came l.gone
