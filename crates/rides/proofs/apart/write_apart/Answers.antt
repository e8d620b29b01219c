-- `write_apart` writes the cut to the front of a buffer, takes out the squares of the other cut, and turns what is left into keys.
use Rattle.rides.specs.ApartLaws.{sieve-room, left-coded, apart-written}
use Rattle.rides.proofs.apart.write_apart.Goals as goal

pub sieve_codes-kept-requires : goal.sieve_codes-kept-requires
sieve_codes-kept-requires c = sieve-room c.requires c.cut_levels-n.ensures.wrote

pub key_codes-requires : goal.key_codes-requires
key_codes-requires c = left-coded c.requires c.cut_levels-n.ensures.wrote c.sieve_codes-kept.ensures c.sieve_codes-kept.auto.codes

pub returns : goal.returns
returns c = apart-written c.requires c.cut_levels-n.ensures.wrote c.sieve_codes-kept.ensures c.sieve_codes-kept.auto.codes _ c.key_codes.ensures
