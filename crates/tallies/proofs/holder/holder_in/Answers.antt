-- `holder_in` joins the leads of the seven teams, two ranges side by side at a time.
use Rattle.std.proofs.Common.{arith}
use Rattle.tallies.specs.HolderLaws.{front-join, front-all, row_one}
use Rattle.tallies.proofs.holder.holder_in.Goals as goal

pub lead_of-requires-7 : goal.lead_of-requires-7
lead_of-requires-7 c = omega (arith, c.requires)

pub returns : goal.returns
returns c = let row = c.args.row.now in
    let front-1-2 = front-join _ (row_one row 1 (omega arith) c.lead_of.ensures) (row_one row 2 (omega arith) c.lead_of-2.ensures) c.ahead.ensures in
    let front-3-4 = front-join _ (row_one row 3 (omega arith) c.lead_of-3.ensures) (row_one row 4 (omega arith) c.lead_of-4.ensures) c.ahead-2.ensures in
    let front-5-6 = front-join _ (row_one row 5 (omega arith) c.lead_of-5.ensures) (row_one row 6 (omega arith) c.lead_of-6.ensures) c.ahead-3.ensures in
    let front-1-4 = front-join _ front-1-2 front-3-4 c.ahead-low.ensures in
    let front-5-7 = front-join _ front-5-6 (row_one row 7 (omega arith) c.lead_of-7.ensures) c.ahead-high.ensures in
    front-all _ (front-join _ front-1-4 front-5-7 c.ahead-first.ensures)
