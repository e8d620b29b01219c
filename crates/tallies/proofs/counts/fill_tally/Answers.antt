-- `fill_tally` counts a zone's cars: the part lent is its row.
use Rattle.tallies.specs.CountLaws.{row-counted}
use Rattle.tallies.proofs.counts.fill_tally.Goals as goal

pub returns : goal.returns
returns c = row-counted _ _ _ _ _ _ c.requires.tally_in_bounds _ c.count_cars.ensures
