-- `lift` moves from the right end: what is done stands after what is left, and that is as it was.
use Prim.Native.Nat.{◌-◌, ◌<◌, ◌≤◌}
use lib.ListN.{get_or}
use native.Mathlib.Omega.{arith}
use Rattle.rides.specs.LiftLaws.{lift-stops, lift-drops, lift-takes, lift-ends}
use Rattle.rides.proofs.lift.lift.Goals as goal

pub returns-then-at-end : goal.returns-then-at-end
returns-then-at-end c =
    let drops : (c.args.m < c.loop-j.i) × (get_or c.args.keys.come.now (c.loop-j.j - 1) 0 < get_or c.args.keys.gone.now (c.loop-j.i - 1) 0) = c.drops_last.ensures.yes c.if-drops_last.true in
    lift-stops c.loop-j.invariant (omega (arith, drops.0)) (omega (arith, drops.0)) (omega arith) drops.1 c.seat_in-at.ensures (omega arith)

pub loop-j-preserved-then-drops_last : goal.loop-j-preserved-then-drops_last
loop-j-preserved-then-drops_last c =
    let drops : (c.args.m < c.loop-j.i) × (get_or c.args.keys.come.now (c.loop-j.j - 1) 0 < get_or c.args.keys.gone.now (c.loop-j.i - 1) 0) = c.drops_last.ensures.yes c.if-drops_last.true in
    lift-drops c.loop-j.invariant (omega (arith, drops.0)) (omega (arith, drops.0)) (omega arith) drops.1 c.seat_in-at.ensures (λ z. omega arith) c.move_up.ensures

pub loop-j-preserved : goal.loop-j-preserved
loop-j-preserved c =
    let takes : c.args.m < c.loop-j.i → get_or c.args.keys.gone.now (c.loop-j.i - 1) 0 ≤ get_or c.args.keys.come.now (c.loop-j.j - 1) 0 = c.drops_last.ensures.no c.if-drops_last.false in
    lift-takes c.loop-j.invariant (omega arith) (omega arith) takes c.seat_in-at-else-drops_last.ensures (λ z. omega arith) c.move_up-else-drops_last.ensures

pub returns : goal.returns
returns c = lift-ends c.loop-j.invariant (omega arith)
