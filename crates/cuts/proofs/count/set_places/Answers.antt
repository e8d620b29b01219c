-- The squares of a cut counted: each turn adds those of one level that are inside and have no parent inside.
use Prim.Native.Nat.{◌*◌, ◌≤◌}
use Rattle.cuts.specs.CountLaws.{count-begins, count_room, count-turns, count-ends}
use native.Mathlib.Omega.{arith}
use borrow.Author.Rules.{rules}
use Rattle.cuts.proofs.count.set_places.Goals as goal
use Rattle.cuts.proofs.count.set_places.Goals.{else-loop-level-test, then-loop-level-test+else-level-level-end}

pub loop-level-init : goal.loop-level-init
loop-level-init c = count-begins c.requires

room : (c : goal.After-wholes-in-loop-level) → (c.wholes.result * c.wholes-in-loop-level.result ≤ 65536) × (4 * c.loop-level.above ≤ c.wholes.result * c.wholes-in-loop-level.result)
room c = count_room c.requires c.loop-level.invariant c.loop-level-test.true c.wholes.ensures c.wholes-in-loop-level.ensures

pub overflow_mul-total : goal.overflow_mul-total
overflow_mul-total c = let h = room c in search rules

pub overflow_sub-total : goal.overflow_sub-total
overflow_sub-total c = let h = room c in search rules

pub loop-level-preserved : goal.loop-level-preserved
loop-level-preserved c = count-turns c.requires c.loop-level.invariant c.loop-level-test.true c.wholes.ensures c.wholes-in-loop-level.ensures

pub returns : goal.returns
returns c =
    elim c.loop-level-test.branch [
      | else-loop-level-test w ↦ rw (w.places-is, w.total-is) (count-ends c.requires c.loop-level.invariant w.loop-level-test.false)
      | then-loop-level-test+else-level-level-end w ↦ rw (w.places-is, w.total-is) (count-ends c.requires (count-turns c.requires c.loop-level.invariant w.loop-level-test.true w.wholes.ensures w.wholes-in-loop-level.ensures) (omega arith))
    ]
