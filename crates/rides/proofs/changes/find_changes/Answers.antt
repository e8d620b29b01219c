-- `find_changes` writes the keys of both rectangles one after the other and parts them, where both have room.
use native.Mathlib.Omega.{arith}
use Rattle.rides.specs.ChangeLaws.{changes-parted}
use Rattle.rides.proofs.changes.find_changes.Goals as goal

pub returns : goal.returns
returns c = changes-parted c.requires c.cut_count-n.ensures.is c.cut_count-m.ensures.is (omega arith) c.write_keys_into.ensures c.write_keys_into-2.ensures c.part_keys-p.ensures
