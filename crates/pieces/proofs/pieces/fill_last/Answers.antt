-- `fill_last` answers what is held, where that is anything, and holds nothing then.
use Rattle.pieces.specs.PieceLaws.{ends}
use Rattle.pieces.proofs.pieces.fill_last.Goals as goal

pub returns : goal.returns
returns c = ends c.requires c.answer_line-wrote.ensures c.keep_held.ensures
