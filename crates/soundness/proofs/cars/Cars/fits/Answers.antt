-- `fits`: a car that is not placed passes, and of one that is placed the team is asked, then the position.
use mathlib.Core.Path.{◌≡◌, ap, sym, ◌∙◌}
use native.Mathlib.Omega.{arith}
use Rattle.position.specs.Spots.{spot_on}
use Rattle.tables.specs.Tables.{spot_in}
use Rattle.soundness.specs.CarLaws.{car-away, car-teamless, car-told}
use Rattle.soundness.proofs.cars.Cars.fits.Goals as goal

pub returns-then-car-eq0 : goal.returns-then-car-eq0
returns-then-car-eq0 c = car-away _ _ _ _ c.if-car-eq0.true

pub returns-then-car : goal.returns-then-car
returns-then-car c = car-teamless _ _ _ _ (omega arith)

pub returns : goal.returns
returns c =
    let spot : let a = c.args in spot_on a.self.s (spot_in a.self.spots.now a.c) ≡ c.locate.result = ap (spot_on _) (sym c.spot_in.ensures) ∙ sym c.locate.ensures in
    c.is_some.ensures ∙ car-told _ _ _ _ c.requires.parked.shape c.if-car-eq0.false (omega arith) _ spot
