-- `ride_keys` exchanges a zone's keys: those that change found and exchanged, the starts after them moved, those under them
-- counted anew.
use Rattle.rides.specs.RideLaws.{ride-room, ride-few, ridden}
use Rattle.rides.proofs.rides.ride_keys.Goals as goal

pub swap_changes-requires-clause-swap_room : goal.swap_changes-requires-clause-swap_room
swap_changes-requires-clause-swap_room c = ride-room c.requires c.find_changes-c.ensures

pub set_starts-requires-clause-starts_len_bound : goal.set_starts-requires-clause-starts_len_bound
set_starts-requires-clause-starts_len_bound c = ride-few c.requires c.find_changes-c.ensures _

pub returns : goal.returns
returns c = ridden c.requires c.find_changes-c.ensures c.swap_changes.ensures c.swap_starts.ensures c.set_starts.ensures
