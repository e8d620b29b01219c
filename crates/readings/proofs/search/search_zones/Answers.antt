-- `search_zones` is refused by the first of three tests that fails: check 3, the position, room in the buffer. Past them it
-- looks into the squares of the position's cell.
use mathlib.Core.Bool.{true}
use mathlib.Core.Path.{◌≡◌, refl, sym}
use native.Mathlib.Omega.{arith}
use Rattle.std.proofs.lemmas.Result.{err_from_is_err_and}
use Rattle.squares.specs.declared.refusal.Refusal.{Refusal}
use Rattle.squares.specs.RefusalLaws.{stops, holds, fails, enough, short, some-number}
use Rattle.position.specs.Answer.{on_town}
use Rattle.model.specs.Model.{meaning}
use Rattle.tables.specs.Tables.{shape_of}
use Rattle.tables.specs.Lent.{given_read}
use Rattle.tables.specs.Check.{sized}
use Rattle.tables.specs.CheckLaws.{sized→}
use Rattle.promises.specs.PromiseLaws.{keeps-refused}
use Rattle.lookup.specs.SpotLaws.{spot-off, spot_on_lem, spot-asks, not-located, located}
use Rattle.readings.specs.SearchLaws.{Searchable, searchable, search-kept}
use Rattle.readings.proofs.search.search_zones.Goals as goal

pub returns-then-not-sized : goal.returns-then-not-sized
unfolding meaning
returns-then-not-sized c = keeps-refused _ _ _ _ (some-number Refusal.Tables) (stops 0 _ (fails c.sized.ensures c.if-not-sized.true-raw)) refl

pub shape_in-s-requires : goal.shape_in-s-requires
shape_in-s-requires c =
    let own : sized (given_read c.args.town) ≡ true = holds c.sized.ensures c.if-not-sized.false-raw in
    omega (arith, (sized→ _ own).lengths.head)

pub returns-in_err-cell : goal.returns-in_err-cell
unfolding meaning
returns-in_err-cell c =
    let p = err_from_is_err_and c.from_residual.result c.from_residual.ensures.1 in
    let own : sized (given_read c.args.town) ≡ true = holds c.sized.ensures c.if-not-sized.false-raw in
    let off = not-located _ c.ok_or.ensures.value c.in_err-cell.was in
    rw (p.1, p.2, off.1) (keeps-refused _ _ _ _ (some-number Refusal.OffMap) (stops 1 _ (own, spot-off _ _ (sized→ _ own) c.shape_in-s.ensures c.locate.ensures off.0)) refl)

pub zone_room-requires : goal.zone_room-requires
zone_room-requires c =
    let own : sized (given_read c.args.town) ≡ true = holds c.sized.ensures c.if-not-sized.false-raw in
    omega (arith, (sized→ _ own).lengths.head)

pub returns-then-found-zone_room : goal.returns-then-found-zone_room
unfolding meaning
returns-then-found-zone_room c =
    let own : sized (given_read c.args.town) ≡ true = holds c.sized.ensures c.if-not-sized.false-raw in
    let town : on_town (shape_of (given_read c.args.town)) c.args.p ≡ true = (spot_on_lem _ _ (sized→ _ own) c.shape_in-s.ensures c.locate.ensures _ (located _ c.ok_or.ensures.value c.in_ok-cell.was)).0 in
    keeps-refused _ _ _ _ (some-number Refusal.Buffer) (stops 2 _ (own, (town, short c.zone_room.ensures c.if-found-zone_room.true))) refl

pub look_up-requires : goal.look_up-requires
look_up-requires c =
    let own : sized (given_read c.args.town) ≡ true = holds c.sized.ensures c.if-not-sized.false-raw in
    let asked = spot-asks _ _ (sized→ _ own) c.shape_in-s.ensures c.locate.ensures _ (located _ c.ok_or.ensures.value c.in_ok-cell.was) in
    record { on_map = asked.0; starts_len = asked.1 }

pub returns : goal.returns
unfolding meaning
returns c =
    let own : sized (given_read c.args.town) ≡ true = holds c.sized.ensures c.if-not-sized.false-raw in
    let at = located _ c.ok_or.ensures.value c.in_ok-cell.was in
    let town : on_town (shape_of (given_read c.args.town)) c.args.p ≡ true = (spot_on_lem _ _ (sized→ _ own) c.shape_in-s.ensures c.locate.ensures _ at).0 in
    let ok : Searchable (given_read c.args.town) c.args.p c.args.found.now = searchable _ _ _ (sym (stops 3 _ (own, (town, (enough c.zone_room.ensures c.if-found-zone_room.false, tt))))) in
    search-kept ok c.shape_in-s.ensures c.locate.ensures at c.look_up.ensures
