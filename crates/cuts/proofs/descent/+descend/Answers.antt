-- A descent from a square that is crossed, child by child: each is looked at, and where it is crossed too descended from. Each call is one level lower.
use Rattle.cuts.specs.StepLaws.{gone-on, child-begins, child-room, child-turns, child-ends}
use Rattle.cuts.proofs.descent.+descend.Goals as goal
use Rattle.cuts.proofs.descent.+descend.Goals.{then-take_square, else-take_square}

pub loop-c-init : goal.loop-c-init
loop-c-init t c = child-begins c.requires _

pub take_square-requires : goal.take_square-requires
take_square-requires t c = child-room c.requires c.loop-c-test.true c.loop-c.invariant

pub loop-c-preserved : goal.loop-c-preserved
loop-c-preserved t c =
    elim c.if-take_square.branch [
      | then-take_square w ↦ rw (w.out-is, w.next-is) (child-turns c.requires c.loop-c-test.true c.loop-c.invariant (gone-on c.take_square.ensures w.if-take_square.true w.descend.ensures))
      | else-take_square w ↦ rw (w.out-is, w.next-is) (child-turns c.requires c.loop-c-test.true c.loop-c.invariant (c.take_square.ensures.ends w.if-take_square.false))
    ]

pub returns : goal.returns
returns t c = child-ends c.requires c.loop-c.invariant c.loop-c-test.false
