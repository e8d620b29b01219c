-- `put` leaves a full buffer and a number that is there as they are, and else slides the number in at its rank.
use Prim.Native.Nat.{◌<◌}
use mathlib.Core.Path.{◌≡◌}
use native.Mathlib.Omega.{arith}
use lib.ListN.{get_or}
use Rattle.order.specs.BufferLaws.{put-there, put-new}
use Rattle.order.proofs.put.Goals as goal
use Rattle.order.proofs.put.Goals.{then-at-n+else-buffer-at, else-at-n}

pub returns-then-buffer-at : goal.returns-then-buffer-at
returns-then-buffer-at c = put-there _ _ _ c.requires _ c.rank_of-at.ensures (omega arith) c.if-at-n.true c.if-buffer-at.true

pub returns : goal.returns
returns c =
    let new : c.rank_of-at.result < c.args.n → get_or c.args.buffer.now c.rank_of-at.result 0 ≡ c.args.x → ⊥ = λ h e. elim c.if-at-n.branch [ then-at-n+else-buffer-at w ↦ w.if-buffer-at.false e | else-at-n w ↦ omega arith ] in
    put-new _ _ _ c.requires _ c.rank_of-at.ensures (omega arith) new _ c.slide.ensures
