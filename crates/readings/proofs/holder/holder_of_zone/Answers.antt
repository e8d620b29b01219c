-- `holder_of_zone` answers the stored numbers, past the refusals.
use mathlib.Core.Path.{refl}
use native.Mathlib.Omega.{arith}
use Rattle.std.proofs.lemmas.Result.{err_from_is_err_and}
use Rattle.squares.specs.RefusalLaws.{none-refused}
use Rattle.model.specs.Model.{meaning}
use Rattle.tables.specs.Lent.{given_read}
use Rattle.tables.specs.TallyLaws.{tally-in}
use Rattle.promises.specs.PromiseLaws.{keeps-by}
use Rattle.promises.specs.StandingLaws.{There, zone-there}
use Rattle.readings.specs.ReadLaws.{holder-kept}
use Rattle.readings.proofs.holder.holder_of_zone.Goals as goal

pub returns-in_err-refuse_zone : goal.returns-in_err-refuse_zone
unfolding meaning
returns-in_err-refuse_zone c =
    let p = err_from_is_err_and c.from_residual.result c.from_residual.ensures.1 in
    rw (p.1, p.2) (keeps-by _ _ _ c.refuse_zone.ensures c.in_err-refuse_zone.was refl)

pub standing_in-requires : goal.standing_in-requires
standing_in-requires c =
    let ok : There (given_read c.args.town) c.args.zone = zone-there _ _ (none-refused c.refuse_zone.ensures c.in_ok-refuse_zone.was) in
    omega (arith, tally-in _ ok.size _ ok.zone)

pub returns : goal.returns
returns c =
    let ok : There (given_read c.args.town) c.args.zone = zone-there _ _ (none-refused c.refuse_zone.ensures c.in_ok-refuse_zone.was) in
    rw c.standing_in.ensures (holder-kept ok)
