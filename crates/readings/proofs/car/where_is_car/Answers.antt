-- `where_is_car` answers the stored position, past the refusals.
use mathlib.Core.Path.{refl}
use native.Mathlib.Omega.{arith}
use Rattle.std.proofs.lemmas.Result.{err_from_is_err_and}
use Rattle.squares.specs.RefusalLaws.{none-refused}
use Rattle.model.specs.Model.{meaning}
use Rattle.tables.specs.Lent.{given_read}
use Rattle.promises.specs.PromiseLaws.{keeps-by}
use Rattle.readings.specs.ReadLaws.{Placed, placed-there, where-kept}
use Rattle.readings.proofs.car.where_is_car.Goals as goal

pub returns-in_err-refuse_car : goal.returns-in_err-refuse_car
unfolding meaning
returns-in_err-refuse_car c =
    let p = err_from_is_err_and c.from_residual.result c.from_residual.ensures.1 in
    rw (p.1, p.2) (keeps-by _ _ _ c.refuse_car.ensures c.in_err-refuse_car.was refl)

pub spot_in-requires : goal.spot_in-requires
spot_in-requires c =
    let ok : Placed (given_read c.args.town) c.args.car = placed-there _ _ (none-refused c.refuse_car.ensures c.in_ok-refuse_car.was) in
    omega (arith, ok.size.lengths.spots, ok.car)

pub returns : goal.returns
returns c =
    let ok : Placed (given_read c.args.town) c.args.car = placed-there _ _ (none-refused c.refuse_car.ensures c.in_ok-refuse_car.was) in
    rw c.spot_in.ensures (where-kept ok)
