-- `is_outside` asks the rectangle of a zone in the table; one beyond it holds no cell.
use Rattle.tables.specs.GatherLaws.{outside-beyond, outside-in}
use Rattle.tables.proofs.runs.is_outside.Goals as goal

pub returns-then-zones-at : goal.returns-then-zones-at
returns-then-zones-at c = outside-beyond _ _ _ _ c.if-zones-at.true

pub returns : goal.returns
returns c = outside-in _ _ _ _ c.if-zones-at.false c.holds.ensures c.rect_in.ensures
