-- `swap_starts` passes the keys of both lists, the lower of the next two first: from key to key one more or one less.
use Rattle.std.proofs.Common.{◌+◌, refl, arith}
use Rattle.starts.specs.SwapStartLaws.{pass-begins, NextKey, next-key, next-room, first-in, second-in, pass-drops, pass-takes, pass-ends}
use Rattle.starts.proofs.swap.swap_starts.Goals as goal

pub loop-i-init : goal.loop-i-init
loop-i-init c = pass-begins c.requires

pub is_lower-requires : goal.is_lower-requires
is_lower-requires c = let asked = next-room c.requires c.loop-i.invariant in record { n_in_bounds = asked.0; end_in_bounds = asked.1 }

pub bounds-starts-i : goal.bounds-starts-i
bounds-starts-i c =
    let told : NextKey c.loop-i.starts c.loop-i.i c.args.gone c.loop-i.j (c.args.at + c.args.come) c.is_lower.result = next-key (omega arith) c.is_lower.ensures in
    first-in c.requires c.loop-i.invariant told c.if-is_lower.true

pub shift_to-p-requires : goal.shift_to-p-requires
shift_to-p-requires c = let k = c.loop-i.invariant.part in record { p_in_bounds = omega (arith, k.most, k.long); end_in_bounds = omega (arith, c.place_after-next.ensures.most, k.long) }

pub loop-i-preserved-then-is_lower : goal.loop-i-preserved-then-is_lower
loop-i-preserved-then-is_lower c =
    let told : NextKey c.loop-i.starts c.loop-i.i c.args.gone c.loop-i.j (c.args.at + c.args.come) c.is_lower.result = next-key (omega arith) c.is_lower.ensures in
    pass-drops c.requires c.loop-i.invariant told c.shift_to-p.ensures c.if-is_lower.true c.place_after-next.ensures (omega arith) (omega (arith, c.loop-i.auto.by-fits))

pub bounds-starts-j : goal.bounds-starts-j
bounds-starts-j c =
    let told : NextKey c.loop-i.starts c.loop-i.i c.args.gone c.loop-i.j (c.args.at + c.args.come) c.is_lower.result = next-key (omega arith) c.is_lower.ensures in
    second-in c.requires c.loop-i.invariant told c.if-is_lower.false

pub shift_to-p-requires-in-loop-i : goal.shift_to-p-requires-in-loop-i
shift_to-p-requires-in-loop-i c = let k = c.loop-i.invariant.part in record { p_in_bounds = omega (arith, k.most, k.long); end_in_bounds = omega (arith, c.place_after-next-in-loop-i.ensures.most, k.long) }

pub loop-i-preserved : goal.loop-i-preserved
loop-i-preserved c =
    let told : NextKey c.loop-i.starts c.loop-i.i c.args.gone c.loop-i.j (c.args.at + c.args.come) c.is_lower.result = next-key (omega arith) c.is_lower.ensures in
    pass-takes c.requires c.loop-i.invariant told c.shift_to-p-in-loop-i.ensures c.if-is_lower.false c.place_after-next-in-loop-i.ensures refl

pub shift_to-requires : goal.shift_to-requires
shift_to-requires c = let k = c.loop-i.invariant.part in record { p_in_bounds = omega (arith, k.most, k.long); end_in_bounds = omega (arith, k.long) }

pub returns : goal.returns
returns c = pass-ends c.requires c.loop-i.invariant (omega arith) c.shift_to.ensures
