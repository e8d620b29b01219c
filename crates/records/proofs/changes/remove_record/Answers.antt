-- `remove_record` takes a zone away in the part of the tables that is lent, and writes the answer.
use mathlib.Core.Path.{refl}
use Rattle.records.specs.ReplyLaws.{lent-within, changed-back, call-replies}
use Rattle.records.proofs.changes.remove_record.Goals as goal

pub returns : goal.returns
returns c = call-replies c.requires c.places_in-many.ensures refl c.remove_in-answer.ensures (changed-back _ _ (lent-within c.requires c.places_in-many.ensures) c.remove_in-answer.new.starts c.remove_in-answer.auto.starts) c.write_removed.ensures
