-- `add_record` adds a zone in the part of the tables that is lent, and writes the answer made small.
use mathlib.Core.Path.{refl}
use Rattle.records.specs.CallLaws.{few-added}
use Rattle.records.specs.ReplyLaws.{lent-within, changed-back, tamed-replies}
use Rattle.records.proofs.changes.add_record.Goals as goal

pub returns : goal.returns
returns c = tamed-replies c.requires c.places_in-many.ensures refl c.add_in-answer.ensures (λ ready. few-added ready c.args.zone c.args.r) c.tame_added.ensures (changed-back _ _ (lent-within c.requires c.places_in-many.ensures) c.add_in-answer.new.starts c.add_in-answer.auto.starts) c.write_added.ensures
