-- `list_cars` has stored the cars below c whose byte is not 0, lowest first.
use Rattle.std.proofs.Common.{arith, rules}
use Rattle.tables.specs.RowLaws.{row-start, row-turn}
use Rattle.tables.proofs.rosters.list_cars.Goals as goal

pub loop-c-init : goal.loop-c-init
loop-c-init c = (search rules, (search rules, row-start c.args.rosters.now _ _))

pub loop-c-preserved : goal.loop-c-preserved
loop-c-preserved c = (search rules, (omega (arith, c.add_marked-next.ensures.most), row-turn c.args.rosters.now _ c.loop-c.c c.loop-c.invariant.1.1 c.add_marked-next.ensures))
