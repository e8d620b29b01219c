-- `report_record` places or moves a car in the part of the tables that is lent, and writes the answer.
use mathlib.Core.Path.{refl, ap, sym}
use mathlib.Core.Option.{some}
use Rattle.position.specs.declared.Position.{Position}
use Rattle.model.specs.Model.{reporting}
use Rattle.texts.specs.Texts.{Letter}
use Rattle.season.specs.Output.{blank}
use Rattle.records.specs.ReplyLaws.{read_back, replies-as, call-replies}
use Rattle.records.proofs.changes.report_record.Goals as goal

pub returns : goal.returns
returns c = replies-as (call-replies c.requires c.places_in-many.ensures refl c.report_car-answer.ensures (read_back _ c.places_in-many.result) c.write_reported.ensures) (ap (λ (p : Position). some (Letter.P, reporting c.args.car 0 p (blank 16) (blank 16))) (sym c.position_of.ensures))
