-- `move_starts` moves each start by a step for each of the keys before its place: from key to key by one step more.
use Rattle.std.proofs.Common.{◌≡◌, refl, length, take, arith, length-take-le}
use Rattle.starts.specs.ShiftLaws.{move-turns, move-ends, key-there, steps-more}
use Rattle.starts.proofs.shift.move_starts.Goals as goal

pub loop-j-preserved : goal.loop-j-preserved
loop-j-preserved c =
    let keys-many : length (take c.args.n c.args.starts.now) ≡ c.args.n = length-take-le _ _ c.requires in
    let i = c.loop-j.invariant in
    (move-turns i.0 i.1 (omega (arith, keys-many)) (rw (key-there i.0 (omega arith)) at c.place_after-end.ensures) c.shift_to-p.ensures, steps-more _ _ i.1 refl)

pub returns : goal.returns
returns c =
    let keys-many : length (take c.args.n c.args.starts.now) ≡ c.args.n = length-take-le _ _ c.requires in
    move-ends c.loop-j.invariant.0 c.loop-j.invariant.1 (omega (arith, keys-many)) c.shift_to.ensures
