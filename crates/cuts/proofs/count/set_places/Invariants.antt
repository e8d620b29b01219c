-- `set_places`: what its loop keeps.
use Rattle.cuts.specs.CountLaws.{CountTurn}
use Rattle.cuts.proofs.count.set_places.Given as goal

abbrev pub invariant-loop-level : goal.invariant-loop-level
invariant-loop-level l = CountTurn l.s l.r l.places l.total l.above l.level
