-- `roster_record` lists the cars of a zone from the part of the tables that is lent, and writes the answer made small.
use mathlib.Core.Path.{refl}
use Rattle.season.specs.Output.{blank}
use Rattle.records.specs.CallLaws.{few-roster}
use Rattle.records.specs.ReplyLaws.{read_back, tamed-replies}
use Rattle.records.proofs.looks.roster_record.Goals as goal

pub returns : goal.returns
returns c = tamed-replies c.requires c.places_in-many.ensures refl c.roster_of_zone-answer.ensures (λ ready. few-roster ready c.args.zone (blank 64)) c.tame_roster.ensures (read_back _ c.places_in-many.result) c.write_roster.ensures
