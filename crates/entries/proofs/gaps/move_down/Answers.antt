-- `move_down` moves the numbers of one range down one by one: those passed stand so many places lower.
use Rattle.std.proofs.Common.{arith}
use Rattle.entries.specs.GapLaws.{slide-begins, slide-long, slide-turns, slide-ends, slide-still}
use Rattle.entries.proofs.gaps.move_down.Goals as goal

pub returns-then-by-eq0 : goal.returns-then-by-eq0
returns-then-by-eq0 c = slide-still _ _ _ _ c.if-by-eq0.true c.requires

pub loop-i-init : goal.loop-i-init
loop-i-init c = slide-begins _ _ _ _ c.requires

pub bounds-list-i : goal.bounds-list-i
bounds-list-i c = let k = c.loop-i.invariant in omega (arith, slide-long k, k.room.within)

pub bounds-list-i-in-loop-i : goal.bounds-list-i-in-loop-i
bounds-list-i-in-loop-i c = let k = c.loop-i.invariant in omega (arith, slide-long k, k.room.within)

pub loop-i-preserved : goal.loop-i-preserved
loop-i-preserved c = slide-turns c.loop-i.invariant (omega arith)

pub shape_of-list : goal.shape_of-list
shape_of-list c = slide-long c.loop-i.invariant

pub returns : goal.returns
returns c = slide-ends c.loop-i.invariant (omega arith)
