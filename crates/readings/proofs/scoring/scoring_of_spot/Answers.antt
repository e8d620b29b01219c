-- `scoring_of_spot` climbs from the position's cell, past the refusals.
use mathlib.Core.Bool.{true}
use mathlib.Core.Path.{◌≡◌}
use native.Mathlib.Omega.{arith}
use Rattle.std.proofs.lemmas.Result.{err_from_is_err_and}
use Rattle.squares.specs.RefusalLaws.{holds, fails}
use Rattle.tables.specs.Lent.{given_read}
use Rattle.tables.specs.Check.{sized}
use Rattle.tables.specs.CheckLaws.{sized→}
use Rattle.lookup.specs.SpotLaws.{spot-asks, not-located, located}
use Rattle.readings.specs.ScoringLaws.{scoring-unsized, scoring-off, scoring-kept}
use Rattle.readings.proofs.scoring.scoring_of_spot.Goals as goal

pub returns-then-not-sized : goal.returns-then-not-sized
returns-then-not-sized c = scoring-unsized _ _ (fails c.sized.ensures c.if-not-sized.true-raw)

pub shape_in-s-requires : goal.shape_in-s-requires
shape_in-s-requires c =
    let own : sized (given_read c.args.town) ≡ true = holds c.sized.ensures c.if-not-sized.false-raw in
    omega (arith, (sized→ _ own).lengths.head)

pub returns-in_err-cell : goal.returns-in_err-cell
returns-in_err-cell c =
    let p = err_from_is_err_and c.from_residual.result c.from_residual.ensures.1 in
    let own : sized (given_read c.args.town) ≡ true = holds c.sized.ensures c.if-not-sized.false-raw in
    let off = not-located _ c.ok_or.ensures.value c.in_err-cell.was in
    rw (p.1, p.2, off.1) (scoring-off _ _ own c.shape_in-s.ensures c.locate.ensures off.0)

pub climb_to_zone-requires : goal.climb_to_zone-requires
climb_to_zone-requires c =
    let own : sized (given_read c.args.town) ≡ true = holds c.sized.ensures c.if-not-sized.false-raw in
    let asked = spot-asks _ _ (sized→ _ own) c.shape_in-s.ensures c.locate.ensures _ (located _ c.ok_or.ensures.value c.in_ok-cell.was) in
    record { on_map = asked.0; starts_len = asked.1 }

pub returns : goal.returns
returns c =
    let own : sized (given_read c.args.town) ≡ true = holds c.sized.ensures c.if-not-sized.false-raw in
    scoring-kept _ _ own c.shape_in-s.ensures c.locate.ensures (located _ c.ok_or.ensures.value c.in_ok-cell.was) c.climb_to_zone.result c.climb_to_zone.ensures
