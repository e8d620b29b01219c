-- `clear_tally` sets a zone's numbers to 0: the part lent is its row.
use Rattle.std.proofs.Common.{rules}
use Rattle.tallies.specs.CountLaws.{row-cleared}
use Rattle.tallies.proofs.counts.clear_tally.Goals as goal

pub returns : goal.returns
returns c = row-cleared _ _ c.requires _ (c.fill.ensures.after (λ y h. search rules))
