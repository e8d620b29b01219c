-- `cut_keys` takes a zone's keys out: written, found and cut out, the starts after them lowered, those under them counted anew.
use Rattle.std.proofs.Common.{arith}
use Rattle.order.specs.BufferLaws.{count-front}
use Rattle.entries.specs.FrontLaws.{front-few}
use Rattle.entries.specs.ListedLaws.{cut-drops}
use Rattle.entries.proofs.drop.cut_keys.Goals as goal

pub write_keys-n-requires : goal.write_keys-n-requires
write_keys-n-requires c = let p = c.requires in
    record { shape = p.room.shape; rect = p.rect; zone = p.room.zone; room = omega (arith, p.room.places) }

pub slice_bounds-set_starts-end-2 : goal.slice_bounds-set_starts-end-2
slice_bounds-set_starts-end-2 c = count-front _ _ (omega (arith, c.write_keys-n.ensures.within, c.write_keys-n.auto.keys, c.lower_starts.ensures.long))

pub set_starts-requires : goal.set_starts-requires
set_starts-requires c = record { starts_len_bound = front-few c.write_keys-n.ensures c.requires.room.shape c.requires.room.places _; entries_len_bound = omega (arith, c.requires.room.few) }

pub returns : goal.returns
returns c listed = cut-drops c.requires.room listed c.write_keys-n.ensures c.close_gaps.ensures c.lower_starts.ensures c.set_starts.ensures
