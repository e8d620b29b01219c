-- A zero more is stored.
use Prim.Native.Nat.{suc, ◌+◌, ◌-◌}
use mathlib.Core.Path.{◌≡◌}
use native.Mathlib.Omega.{arith}
use Rattle.values.proofs.tell.tell_refusal.Goals as goal

pub loop-i-preserved : goal.loop-i-preserved
loop-i-preserved g c =
    let left : g.row.N - c.loop-i.i ≡ suc (g.row.N - suc c.loop-i.i) = omega arith in
    let on : c.loop-i.i + 1 ≡ suc c.loop-i.i = omega arith in
    rw (c.store.ensures, on) (rw left at c.loop-i.invariant)
