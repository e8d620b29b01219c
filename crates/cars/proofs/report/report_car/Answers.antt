-- `report_car` sees the zones that an admitted car enters and leaves, sets its bytes in their rows, turns their numbers, and stores
-- where the car is and its team.
use mathlib.Core.Path.{ap, sym, subst, ◌∙◌}
use Rattle.std.proofs.Common.{length}
use native.Mathlib.Omega.{arith}
use Rattle.std.proofs.lemmas.Result.{err_from_is_err_and}
use Rattle.tables.specs.Tables.{Tables}
use Rattle.tables.specs.Lent.{given_report}
use Rattle.cars.specs.Admits.{admitted, Reportable, SeesIn}
use Rattle.cars.specs.AdmitLaws.{not-admitted, reportable}
use Rattle.cars.specs.ReportLaws.{car-there, spot-there, see-asks, report-kept}
use Rattle.cars.proofs.report.report_car.Goals as goal

pub returns-in_err-cell : goal.returns-in_err-cell
returns-in_err-cell c =
    let a = c.args in
    let p = err_from_is_err_and c.from_residual.result c.from_residual.ensures.1 in
    rw (p.1, p.2) (not-admitted _ _ _ _ _ _ (sym c.in_err-cell.was ∙ c.admit.ensures ∙ ap (λ (t : Tables). admitted t a.car a.team a.p a.entered.now a.left.now) c.seen.ensures))

pub shape_in-s-requires : goal.shape_in-s-requires
shape_in-s-requires c =
    let a = c.args in
    let ok : Reportable (given_report a.town) a.car a.team a.p c.in_ok-cell.cell.x c.in_ok-cell.cell.y a.entered.now a.left.now = reportable _ _ _ _ _ _ (sym c.in_ok-cell.was ∙ c.admit.ensures ∙ ap (λ (t : Tables). admitted t a.car a.team a.p a.entered.now a.left.now) c.seen.ensures) in
    omega (arith, ok.size.lengths.head)

pub car_room-many-requires : goal.car_room-many-requires
car_room-many-requires c =
    let a = c.args in
    let ok : Reportable (given_report a.town) a.car a.team a.p c.in_ok-cell.cell.x c.in_ok-cell.cell.y a.entered.now a.left.now = reportable _ _ _ _ _ _ (sym c.in_ok-cell.was ∙ c.admit.ensures ∙ ap (λ (t : Tables). admitted t a.car a.team a.p a.entered.now a.left.now) c.seen.ensures) in
    omega (arith, ok.size.lengths.head)

pub see-seen-requires : goal.see-seen-requires
see-seen-requires c =
    let a = c.args in
    let ok : Reportable (given_report a.town) a.car a.team a.p c.in_ok-cell.cell.x c.in_ok-cell.cell.y a.entered.now a.left.now = reportable _ _ _ _ _ _ (sym c.in_ok-cell.was ∙ c.admit.ensures ∙ ap (λ (t : Tables). admitted t a.car a.team a.p a.entered.now a.left.now) c.seen.ensures) in
    let same = c.seen-2.ensures in
    let asked = see-asks ok c.shape_in-s.ensures in
    record { on_map = asked.0; starts_len = ap (λ (t : Tables). length t.derived.starts) same ∙ asked.1.0; c_in_bounds = rw (ap (λ (t : Tables). length t.records.cars) same) asked.1.1.0; c_in_bounds_2 = rw (ap (λ (t : Tables). length t.records.spots) same) asked.1.1.1 }

pub stamp_rows-requires : goal.stamp_rows-requires
stamp_rows-requires c =
    let a = c.args in
    let ok : Reportable (given_report a.town) a.car a.team a.p c.in_ok-cell.cell.x c.in_ok-cell.cell.y a.entered.now a.left.now = reportable _ _ _ _ _ _ (sym c.in_ok-cell.was ∙ c.admit.ensures ∙ ap (λ (t : Tables). admitted t a.car a.team a.p a.entered.now a.left.now) c.seen.ensures) in
    omega (arith, ok.size.room.cars-few)

pub stamp_rows-requires-2 : goal.stamp_rows-requires-2
stamp_rows-requires-2 c =
    let a = c.args in
    let ok : Reportable (given_report a.town) a.car a.team a.p c.in_ok-cell.cell.x c.in_ok-cell.cell.y a.entered.now a.left.now = reportable _ _ _ _ _ _ (sym c.in_ok-cell.was ∙ c.admit.ensures ∙ ap (λ (t : Tables). admitted t a.car a.team a.p a.entered.now a.left.now) c.seen.ensures) in
    omega (arith, ok.size.room.cars-few)

pub move_counts-requires : goal.move_counts-requires
move_counts-requires c =
    let a = c.args in
    let ok : Reportable (given_report a.town) a.car a.team a.p c.in_ok-cell.cell.x c.in_ok-cell.cell.y a.entered.now a.left.now = reportable _ _ _ _ _ _ (sym c.in_ok-cell.was ∙ c.admit.ensures ∙ ap (λ (t : Tables). admitted t a.car a.team a.p a.entered.now a.left.now) c.seen.ensures) in
    ok.few

pub move_counts-requires-2 : goal.move_counts-requires-2
move_counts-requires-2 c =
    let a = c.args in
    let ok : Reportable (given_report a.town) a.car a.team a.p c.in_ok-cell.cell.x c.in_ok-cell.cell.y a.entered.now a.left.now = reportable _ _ _ _ _ _ (sym c.in_ok-cell.was ∙ c.admit.ensures ∙ ap (λ (t : Tables). admitted t a.car a.team a.p a.entered.now a.left.now) c.seen.ensures) in
    ok.few

pub write_spot-requires : goal.write_spot-requires
write_spot-requires c =
    let a = c.args in
    let ok : Reportable (given_report a.town) a.car a.team a.p c.in_ok-cell.cell.x c.in_ok-cell.cell.y a.entered.now a.left.now = reportable _ _ _ _ _ _ (sym c.in_ok-cell.was ∙ c.admit.ensures ∙ ap (λ (t : Tables). admitted t a.car a.team a.p a.entered.now a.left.now) c.seen.ensures) in
    spot-there ok

pub overflow_add-team : goal.overflow_add-team
overflow_add-team c =
    let a = c.args in
    let ok : Reportable (given_report a.town) a.car a.team a.p c.in_ok-cell.cell.x c.in_ok-cell.cell.y a.entered.now a.left.now = reportable _ _ _ _ _ _ (sym c.in_ok-cell.was ∙ c.admit.ensures ∙ ap (λ (t : Tables). admitted t a.car a.team a.p a.entered.now a.left.now) c.seen.ensures) in
    omega (arith, ok.few)

pub write_car-requires : goal.write_car-requires
write_car-requires c =
    let a = c.args in
    let ok : Reportable (given_report a.town) a.car a.team a.p c.in_ok-cell.cell.x c.in_ok-cell.cell.y a.entered.now a.left.now = reportable _ _ _ _ _ _ (sym c.in_ok-cell.was ∙ c.admit.ensures ∙ ap (λ (t : Tables). admitted t a.car a.team a.p a.entered.now a.left.now) c.seen.ensures) in
    car-there ok

pub returns : goal.returns
returns c =
    let a = c.args in
    let ok : Reportable (given_report a.town) a.car a.team a.p c.in_ok-cell.cell.x c.in_ok-cell.cell.y a.entered.now a.left.now = reportable _ _ _ _ _ _ (sym c.in_ok-cell.was ∙ c.admit.ensures ∙ ap (λ (t : Tables). admitted t a.car a.team a.p a.entered.now a.left.now) c.seen.ensures) in
    let saw = subst (λ (t : Tables). SeesIn c.shape_in-s.result t a.car c.in_ok-cell.cell.x c.in_ok-cell.cell.y a.entered.now c.see-seen.new.entered a.left.now c.see-seen.new.left c.see-seen.result) c.seen-2.ensures c.see-seen.ensures in
    report-kept ok c.shape_in-s.ensures saw c.car_room-many.ensures c.stamp_rows.ensures c.stamp_rows-2.ensures c.move_counts.ensures c.move_counts-2.ensures c.write_spot.ensures c.write_car.ensures
