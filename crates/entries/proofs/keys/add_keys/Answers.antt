-- `add_keys` adds a zone's keys: written, merged, the starts after them raised, those under them counted anew.
use Rattle.std.proofs.Common.{arith}
use Rattle.order.specs.BufferLaws.{count-front}
use Rattle.entries.specs.FrontLaws.{front-few}
use Rattle.entries.specs.KeyLaws.{merge-room, keys-added}
use Rattle.entries.proofs.keys.add_keys.Goals as goal

pub write_keys-n-requires : goal.write_keys-n-requires
write_keys-n-requires c = let p = c.requires in
    record { shape = p.shape; rect = p.rect; zone = p.zone; room = omega (arith, p.places) }

pub merge_keys-requires : goal.merge_keys-requires
merge_keys-requires c = record { n_in_bounds = omega (arith, c.write_keys-n.ensures.within, c.write_keys-n.auto.keys); n_in_bounds_2 = merge-room c.requires c.write_keys-n.ensures }

pub raise_starts-requires : goal.raise_starts-requires
raise_starts-requires c = omega (arith, c.write_keys-n.ensures.within, c.write_keys-n.auto.keys)

pub slice_bounds-set_starts-end-2 : goal.slice_bounds-set_starts-end-2
slice_bounds-set_starts-end-2 c = count-front _ _ (omega (arith, c.write_keys-n.ensures.within, c.write_keys-n.auto.keys, c.raise_starts.ensures.long))

pub set_starts-requires : goal.set_starts-requires
set_starts-requires c = record { starts_len_bound = front-few c.write_keys-n.ensures c.requires.shape c.requires.places _; entries_len_bound = omega (arith, c.requires.few, c.merge_keys.auto.entries) }

pub returns : goal.returns
returns c = keys-added c.requires c.write_keys-n.ensures c.merge_keys.ensures c.raise_starts.ensures c.set_starts.ensures
