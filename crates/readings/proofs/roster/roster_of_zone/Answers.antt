-- `roster_of_zone` writes the zone's row as numbers, past the refusals of a call on a standing zone and that of its buffer.
use mathlib.Core.Path.{refl, sym, ◌∙◌}
use native.Mathlib.Omega.{arith}
use Rattle.std.proofs.lemmas.Result.{err_from_is_err_and}
use Rattle.squares.specs.declared.refusal.Refusal.{Refusal}
use Rattle.squares.specs.RefusalLaws.{Clear, clear, before, after, enough, short, some-number, refused-by, none-refused}
use Rattle.model.specs.Model.{removing, meaning}
use Rattle.tables.specs.Lent.{given_read}
use Rattle.tables.specs.RowLaws.{row-in}
use Rattle.promises.specs.Promise.{means}
use Rattle.promises.specs.PromiseLaws.{keeps-refused}
use Rattle.promises.specs.StandingLaws.{There, zone-there}
use Rattle.readings.specs.ReadLaws.{standing, roster-kept}
use Rattle.readings.proofs.roster.roster_of_zone.Goals as goal

pub returns-in_err-refuse_zone : goal.returns-in_err-refuse_zone
unfolding meaning
returns-in_err-refuse_zone c =
    let p = err_from_is_err_and c.from_residual.result c.from_residual.ensures.1 in
    let told = refused-by c.refuse_zone.ensures c.in_err-refuse_zone.was in
    rw (p.1, p.2) (keeps-refused _ _ _ _ (some-number _) (told ∙ sym (before (means (given_read c.args.town) (removing c.args.zone)).checks _ (λ z. some-number _ (told ∙ z)))) refl)

pub car_room-many-requires : goal.car_room-many-requires
car_room-many-requires c =
    let ok : There (given_read c.args.town) c.args.zone = zone-there _ _ (none-refused c.refuse_zone.ensures c.in_ok-refuse_zone.was) in
    omega (arith, ok.size.lengths.head)

pub returns-then-inside-many : goal.returns-then-inside-many
unfolding meaning
returns-then-inside-many c =
    let own : Clear (means (given_read c.args.town) (removing c.args.zone)).checks = clear _ refl (none-refused c.refuse_zone.ensures c.in_ok-refuse_zone.was) in
    keeps-refused _ _ _ _ (some-number Refusal.Buffer) (after 0 (means (given_read c.args.town) (removing c.args.zone)).checks _ own (short c.car_room-many.ensures c.if-inside-many.true)) refl

pub list_cars-requires : goal.list_cars-requires
list_cars-requires c =
    let ok : There (given_read c.args.town) c.args.zone = zone-there _ _ (none-refused c.refuse_zone.ensures c.in_ok-refuse_zone.was) in
    rw c.car_room-many.ensures (row-in _ ok.size _ ok.zone)

pub returns : goal.returns
unfolding meaning
returns c =
    let own : Clear (means (given_read c.args.town) (removing c.args.zone)).checks = clear _ refl (none-refused c.refuse_zone.ensures c.in_ok-refuse_zone.was) in
    roster-kept (standing _ _ _ (sym (after 1 (means (given_read c.args.town) (removing c.args.zone)).checks _ own (enough c.car_room-many.ensures c.if-inside-many.false, tt)))) (rw c.car_room-many.ensures at c.list_cars.ensures)
