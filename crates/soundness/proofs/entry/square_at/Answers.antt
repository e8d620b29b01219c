-- `square_at`: down the levels, each level's squares taken off the place, until the rest is a number of the level.
use Rattle.std.proofs.Common.{◌≡◌, arith, rules}
use Rattle.squares.specs.ShapeLaws.{blocks-small}
use Rattle.soundness.specs.EntryLaws.{walk_begins, walk-turns, walk-found, walk_ends}
use Rattle.soundness.proofs.entry.square_at.Goals as goal

pub overflow_mul-count : goal.overflow_mul-count
overflow_mul-count c = let h = blocks-small _ c.requires.shape in search rules

pub loop-level-init : goal.loop-level-init
loop-level-init c = walk_begins c.requires

pub returns-then-number-count : goal.returns-then-number-count
returns-then-number-count c = walk-found c.requires c.loop-level.invariant c.if-number-count.true

pub loop-level-preserved : goal.loop-level-preserved
loop-level-preserved c = walk-turns c.requires c.loop-level.invariant c.loop-level-test.true c.if-number-count.false

pub returns : goal.returns
returns c =
    let e : c.loop-level.level ≡ c.args.s.k = omega (arith, c.loop-level.invariant.deep) in
    rw e at (walk_ends c.requires c.loop-level.invariant c.loop-level-test.false)
