-- `seat_of` passes entries that are not below the key, from the limit down.
use Rattle.std.proofs.Common.{◌≡◌, ◌-◌, ◌+◌, arith}
use Rattle.entries.specs.MergeLaws.{seat-above, seat-first}
use Rattle.entries.proofs.merge.seat_of.Goals as goal

pub loop-i-init : goal.loop-i-init
loop-i-init c = c.limit_of-i.ensures _

pub returns-then-entries-i : goal.returns-then-entries-i
returns-then-entries-i c =
    let e : c.loop-i.i - 1 + 1 ≡ c.loop-i.i = omega arith in
    rw e (seat-above c.loop-i.invariant (omega arith) c.if-entries-i.true)

pub returns : goal.returns
returns c =
    let e : c.loop-i.i ≡ 0 = omega arith in
    seat-first (rw e at c.loop-i.invariant)
