-- `leave_record` takes a car off the map in the part of the tables that is lent, and writes the answer.
use mathlib.Core.Path.{refl}
use Rattle.records.specs.ReplyLaws.{read_back, call-replies}
use Rattle.records.proofs.changes.leave_record.Goals as goal

pub returns : goal.returns
returns c = call-replies c.requires c.places_in-many.ensures refl c.leave_map-answer.ensures (read_back _ c.places_in-many.result) c.write_left.ensures
