-- `sink` goes from key to key: what lies between two of them moves down by how many more are dropped than taken up.
use Prim.Native.Nat.{◌<◌}
use Rattle.std.proofs.Common.{◌⊎◌, inl, inr}
use native.Mathlib.Omega.{arith}
use Rattle.rides.specs.SinkLaws.{drop-stops, drop-turns, take-turns, sink_ends}
use Rattle.rides.proofs.sink.sink.Goals.{then-a-i, else-a-i+then-b-j}
use Rattle.rides.proofs.sink.sink.Goals as goal

pub returns-then-place-end : goal.returns-then-place-end
returns-then-place-end c = drop-stops c.requires c.loop-a.invariant (c.drops_next.ensures.drop c.if-drops_next.true) c.place_in-place.ensures c.if-place-end.true

pub loop-a-preserved-then-drops_next : goal.loop-a-preserved-then-drops_next
loop-a-preserved-then-drops_next c = drop-turns c.requires c.loop-a.invariant (c.drops_next.ensures.drop c.if-drops_next.true) c.place_in-place.ensures c.if-place-end.false c.move_down.ensures

pub loop-a-preserved : goal.loop-a-preserved
loop-a-preserved c =
    let left : (c.loop-a.a < c.args.i) ⊎ (c.loop-a.b < c.args.j) = elim c.if-a-i.branch [ then-a-i w ↦ inl w.if-a-i.true | else-a-i+then-b-j w ↦ inr w.if-b-j.true ] in
    take-turns c.requires c.loop-a.invariant left (c.drops_next.ensures.take c.if-drops_next.false) c.place_in-place-in-loop-a.ensures c.if-a-b.false c.move_down-in-loop-a.ensures

pub returns : goal.returns
returns c = sink_ends c.requires c.loop-a.invariant (omega arith) (omega arith) c.draw_in.ensures
