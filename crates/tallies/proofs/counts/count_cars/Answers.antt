-- `count_cars` counts car by car from 0 on, and works the holder out at the end.
use Rattle.std.proofs.Common.{ℕ, replicate, ap, ◌∙◌, rules}
use Rattle.tallies.specs.CountLaws.{totals-none, totals-more, totals-settled}
use Rattle.tallies.proofs.counts.count_cars.Goals as goal

pub loop-c-init : goal.loop-c-init
loop-c-init c = totals-none _ _ _ _ (c.fill.ensures.after (λ y h. search rules) ∙ ap (λ (n : ℕ). replicate n 0) c.requires.row_len)

pub loop-c-preserved : goal.loop-c-preserved
loop-c-preserved c = totals-more _ _ _ _ c.loop-c.invariant c.loop-c-test.true c.requires.row_there.few c.slot_in.ensures c.join.ensures

pub returns : goal.returns
returns c = c.settle.ensures ∙ totals-settled _ _ _ _ c.loop-c.invariant c.loop-c-test.false
