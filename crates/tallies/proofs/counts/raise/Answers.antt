-- `raise` adds to the count and to a team's.
use Rattle.tallies.specs.CountLaws.{raise-both}
use Rattle.tallies.proofs.counts.raise.Goals as goal

pub returns : goal.returns
returns c = raise-both _ _ _ c.raise_at.ensures c.raise_at-2.ensures
