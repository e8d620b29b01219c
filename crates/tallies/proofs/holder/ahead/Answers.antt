-- `ahead` answers the lead with more cars, by the two tests.
use Rattle.tallies.specs.HolderLaws.{second-foremost, first-foremost, level-foremost}
use Rattle.tallies.proofs.holder.ahead.Goals as goal

pub returns-then-a-b : goal.returns-then-a-b
returns-then-a-b c = second-foremost c.if-a-b.true

pub returns-then-b-a : goal.returns-then-b-a
returns-then-b-a c = first-foremost c.if-b-a.true

pub returns : goal.returns
returns c = level-foremost c.if-a-b.false c.if-b-a.false
