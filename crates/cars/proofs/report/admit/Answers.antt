-- `admit` asks six things in order: check 3, the car, its team, the position, room in each buffer; past them it gives the cell.
use mathlib.Core.Path.{◌≡◌, ap₂, sym, ◌∙◌}
use native.Mathlib.Omega.{arith}
use Rattle.std.specs.Prelude.{ℕ, true, nat_lt}
use Rattle.std.specs.declared.result.Result.TheVariants.{Ok}
use Rattle.std.proofs.lemmas.Result.{err_from_is_err_and}
use Rattle.squares.specs.RefusalLaws.{holds, fails, below, beyond, enough, short}
use Rattle.position.specs.Answer.{on_town}
use Rattle.position.specs.Spots.{cell_at}
use Rattle.model.specs.Model.{teamed, meaning}
use Rattle.tables.specs.Tables.{shape_of, car_room, car_in}
use Rattle.tables.specs.Lent.{given_read}
use Rattle.tables.specs.Check.{sized}
use Rattle.tables.specs.CheckLaws.{sized→}
use Rattle.tables.specs.RecordLaws.{team-known}
use Rattle.lookup.specs.SpotLaws.{spot-off, spot_on_lem, not-located, located}
use Rattle.cars.specs.AdmitLaws.{admits}
use Rattle.cars.proofs.report.admit.Goals.{then-entered-many-via-then-entered-many, then-entered-many-via-else-entered-many+then-left-many}
use Rattle.cars.proofs.report.admit.Goals as goal

pub returns-then-not-sized : goal.returns-then-not-sized
unfolding meaning
returns-then-not-sized c = admits _ _ _ _ _ _ 0 (fails c.sized.ensures c.if-not-sized.true-raw)

pub car_room-requires : goal.car_room-requires
car_room-requires c =
    let own : sized (given_read c.args.town) ≡ true = holds c.sized.ensures c.if-not-sized.false-raw in
    omega (arith, (sized→ _ own).lengths.head)

pub returns-then-car_room-car : goal.returns-then-car_room-car
unfolding meaning
returns-then-car_room-car c =
    let own : sized (given_read c.args.town) ≡ true = holds c.sized.ensures c.if-not-sized.false-raw in
    admits _ _ _ _ _ _ 1 (own, beyond c.car_room.ensures c.if-car_room-car.true)

pub team_fits-requires : goal.team_fits-requires
team_fits-requires c =
    let own : sized (given_read c.args.town) ≡ true = holds c.sized.ensures c.if-not-sized.false-raw in
    omega (arith, (sized→ _ own).lengths.cars, c.car_room.ensures, c.if-car_room-car.false)

pub returns-then-not-team_fits : goal.returns-then-not-team_fits
unfolding meaning
returns-then-not-team_fits c =
    let own : sized (given_read c.args.town) ≡ true = holds c.sized.ensures c.if-not-sized.false-raw in
    let near : nat_lt c.args.car (car_room (given_read c.args.town)) ≡ true = below c.car_room.ensures c.if-car_room-car.false in
    admits _ _ _ _ _ _ 2 (own, (near, sym (team-known _ _ _) ∙ fails c.team_fits.ensures c.if-not-team_fits.true-raw))

pub returns-in_err-cell : goal.returns-in_err-cell
unfolding meaning
returns-in_err-cell c =
    let p = err_from_is_err_and c.from_residual.result c.from_residual.ensures.1 in
    let off = not-located _ c.ok_or.ensures.value c.in_err-cell.was in
    let own : sized (given_read c.args.town) ≡ true = holds c.sized.ensures c.if-not-sized.false-raw in
    let near : nat_lt c.args.car (car_room (given_read c.args.town)) ≡ true = below c.car_room.ensures c.if-car_room-car.false in
    let team : teamed (car_in (given_read c.args.town) c.args.car) c.args.team ≡ true = sym (team-known _ _ _) ∙ holds c.team_fits.ensures c.if-not-team_fits.false-raw in
    rw (p.1, p.2, off.1) (admits _ _ _ _ _ _ 3 (own, (near, (team, spot-off _ _ (sized→ _ own) c.shape_in-s.ensures c.locate.ensures off.0))))

pub zone_room-many-requires : goal.zone_room-many-requires
zone_room-many-requires c =
    let own : sized (given_read c.args.town) ≡ true = holds c.sized.ensures c.if-not-sized.false-raw in
    omega (arith, (sized→ _ own).lengths.head)

pub returns-then-entered-many : goal.returns-then-entered-many
unfolding meaning
returns-then-entered-many c =
    let own : sized (given_read c.args.town) ≡ true = holds c.sized.ensures c.if-not-sized.false-raw in
    let near : nat_lt c.args.car (car_room (given_read c.args.town)) ≡ true = below c.car_room.ensures c.if-car_room-car.false in
    let team : teamed (car_in (given_read c.args.town) c.args.car) c.args.team ≡ true = sym (team-known _ _ _) ∙ holds c.team_fits.ensures c.if-not-team_fits.false-raw in
    let town : on_town (shape_of (given_read c.args.town)) c.args.p ≡ true = (spot_on_lem _ _ (sized→ _ own) c.shape_in-s.ensures c.locate.ensures _ (located _ c.ok_or.ensures.value c.in_ok-cell.was)).0 in
    elim c.then-entered-many.branch [ then-entered-many-via-then-entered-many w ↦ admits _ _ _ _ _ _ 4 (own, (near, (team, (town, short c.zone_room-many.ensures w.if-entered-many.true)))) | then-entered-many-via-else-entered-many+then-left-many w ↦ admits _ _ _ _ _ _ 5 (own, (near, (team, (town, (enough c.zone_room-many.ensures w.if-entered-many.false, short c.zone_room-many.ensures w.if-left-many.true))))) ]

pub returns : goal.returns
unfolding meaning
returns c =
    let own : sized (given_read c.args.town) ≡ true = holds c.sized.ensures c.if-not-sized.false-raw in
    let near : nat_lt c.args.car (car_room (given_read c.args.town)) ≡ true = below c.car_room.ensures c.if-car_room-car.false in
    let team : teamed (car_in (given_read c.args.town) c.args.car) c.args.team ≡ true = sym (team-known _ _ _) ∙ holds c.team_fits.ensures c.if-not-team_fits.false-raw in
    let spot = spot_on_lem _ _ (sized→ _ own) c.shape_in-s.ensures c.locate.ensures _ (located _ c.ok_or.ensures.value c.in_ok-cell.was) in
    ap₂ (λ (x y : ℕ). Ok (cell_at x y)) (sym spot.1) (sym spot.2) ∙ admits _ _ _ _ _ _ 6 (own, (near, (team, (spot.0, (enough c.zone_room-many.ensures c.if-entered-many.false, (enough c.zone_room-many.ensures c.if-left-many.false, tt))))))
