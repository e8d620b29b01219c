-- `write_keys_into` writes the cut to the front of a buffer, and turns its squares into keys there.
use Rattle.order.specs.BufferLaws.{count-front}
use Rattle.entries.specs.KeyLaws.{keys-fit, codes-there, keys-written}
use Rattle.entries.proofs.keys.write_keys_into.Goals as goal

pub slice_bounds-key_codes-end : goal.slice_bounds-key_codes-end
slice_bounds-key_codes-end c = keys-fit c.requires c.cut_levels-n.ensures.wrote

pub slice_bounds-key_codes-end-2 : goal.slice_bounds-key_codes-end-2
slice_bounds-key_codes-end-2 c = count-front _ _ (keys-fit c.requires c.cut_levels-n.ensures.wrote)

pub key_codes-requires : goal.key_codes-requires
key_codes-requires c = codes-there c.requires c.cut_levels-n.ensures.wrote

pub returns : goal.returns
returns c = keys-written c.requires c.cut_levels-n.ensures.wrote _ c.key_codes.ensures
