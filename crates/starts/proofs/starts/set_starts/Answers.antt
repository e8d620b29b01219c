-- `set_starts` counts the keys before each place in one pass: each entry sets the places up to its own.
use Rattle.std.proofs.Common.{◌≡◌, length, arith}
use Rattle.starts.specs.RankLaws.{rank-begins, rank-turns, rank-ends}
use Rattle.starts.proofs.starts.set_starts.Goals as goal

pub loop-i-init : goal.loop-i-init
loop-i-init c = rank-begins _ _

pub loop-i-preserved : goal.loop-i-preserved
loop-i-preserved c = rank-turns c.loop-i.invariant (omega arith) c.place_after-end.ensures c.fill_to-p.ensures

pub returns : goal.returns
returns c =
    let e : c.loop-i.i ≡ length c.args.entries.now = omega (arith, c.loop-i.invariant.few) in
    rank-ends c.loop-i.invariant {r = c.fill_to.result} (omega arith) (rw e c.fill_to.ensures)
