-- `clear_row` sets a zone's row to 0: the part lent is the row.
use Rattle.rosters.specs.RosterLaws.{row-filled}
use Rattle.rosters.proofs.rows.clear_row.Goals as goal

pub returns : goal.returns
returns c = row-filled c.requires _ (c.fill.ensures.after (λ y h. h))
