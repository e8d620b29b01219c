-- `close_gaps` takes the keys out one by one: what lies between two of them moves down by how many are gone.
use Rattle.std.proofs.Common.{◌≡◌, ◌<◌, get_or-take, length-take-le, arith}
use Rattle.entries.specs.GapLaws.{Closing, close-stops, close-turns, close-ends}
use Rattle.entries.proofs.gaps.close_gaps.Goals as goal

pub returns-then-at-u : goal.returns-then-at-u
returns-then-at-u c =
    let h : c.loop-gone.gone < c.args.n = omega (arith, length-take-le c.args.n c.args.starts.now c.requires.n_in_bounds) in
    close-stops c.requires.n_in_bounds c.requires.u_in_bounds c.loop-gone.invariant h (get_or-take _ _ _ 0 h) c.find_key.ensures c.if-at-u.true

pub loop-gone-preserved : goal.loop-gone-preserved
loop-gone-preserved c =
    let h : c.loop-gone.gone < c.args.n = omega (arith, length-take-le c.args.n c.args.starts.now c.requires.n_in_bounds) in
    close-turns c.requires.n_in_bounds c.requires.u_in_bounds c.loop-gone.invariant h (get_or-take _ _ _ 0 h) c.find_key.ensures c.if-at-u.false c.move_down.ensures

pub returns : goal.returns
returns c =
    let e : c.loop-gone.gone ≡ c.args.n = omega (arith, length-take-le c.args.n c.args.starts.now c.requires.n_in_bounds) in
    let k : Closing c.args.n c.args.u c.args.starts.now c.args.entries.now c.loop-gone.entries c.loop-gone.from c.args.n = rw e at c.loop-gone.invariant in
    close-ends c.requires.n_in_bounds c.requires.u_in_bounds k (omega arith) c.move_down-2.ensures _ (c.fill.ensures.after (λ y e. e))
