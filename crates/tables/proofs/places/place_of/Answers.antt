-- `place_of` adds a number to the count of the squares above, which the count on the level gives.
use Rattle.tables.specs.PlaceLaws.{place_is}
use Rattle.tables.proofs.places.place_of.Goals as goal

pub returns : goal.returns
returns c = place_is c.requires.on_level c.squares_on.ensures _ c.requires.n_bound
