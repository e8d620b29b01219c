-- `fill_to` sets the numbers of one range, where the range has any.
use Rattle.starts.specs.RankLaws.{fill-part}
use Rattle.starts.proofs.starts.fill_to.Goals as goal

pub returns : goal.returns
returns c = fill-part _ _ _ _ _ c.requires.end_in_bounds c.if-end-p.false (c.fill.ensures.after (λ y e. e))
