-- A car as it was read: whether it fits.
use Rattle.std.specs.Prelude.{is_some, ℕ, ◌+◌, ◌<◌, ◌≤◌, ◌≡◌, true, false, List, Float, get_or}
use Rattle.std.proofs.Common.{arith}
use borrow.Author.Tests.{le-leb, lt-leb, lt-ltb, le-ltb}
use Rattle.squares.specs.declared.shape.Shape.{Shape}
use Rattle.squares.specs.declared.shape.Cell.{Cell}
use Rattle.squares.specs.Bounds.{Allowed}
use Rattle.squares.specs.ShapeLaws.{→allowed}
use Rattle.std.specs.declared.option.Option.{Option}
use Rattle.std.specs.declared.option.Option.TheVariants.{None, Some}
use Rattle.position.specs.Spots.{spot_on}
use Rattle.position.specs.Laws.{off-town, on-town}
use Rattle.model.specs.Teams.{last_team}
use Rattle.tables.specs.Tables.{placed_in, team_in, spot_in}
use Rattle.soundness.specs.Tests.{car_fits}

car-up : (cars : List ℕ) (c : ℕ) → (get_or cars c 0 ≡ 0 → ⊥) → placed_in cars c ≡ true
car-up cars c f = lt-ltb 0 (get_or cars c 0) (omega arith)

module _ (s : Shape) (cars : List ℕ) (spots : List Float) (c : ℕ) where
  pub car-away : get_or cars c 0 ≡ 0 → true ≡ car_fits s cars spots c
  unfolding car_fits
  car-away e = rw (le-ltb 0 (get_or cars c 0) (omega arith))

  pub car-teamless : last_team + 1 < get_or cars c 0 → false ≡ car_fits s cars spots c
  unfolding car_fits
  car-teamless l = rw (lt-ltb 0 (get_or cars c 0) (omega arith), lt-leb (team_in cars c) last_team (omega arith))

  module _ (h : Allowed s) (f : get_or cars c 0 ≡ 0 → ⊥) (l : get_or cars c 0 ≤ last_team + 1) where
    pub car-off : spot_on s (spot_in spots c) ≡ None → false ≡ car_fits s cars spots c
    unfolding car_fits
    car-off e = rw (car-up cars c f, le-leb (team_in cars c) last_team (omega arith), off-town s (spot_in spots c) (→allowed s h) e)

    pub car-on : (cell : Cell) → spot_on s (spot_in spots c) ≡ Some cell → true ≡ car_fits s cars spots c
    unfolding car_fits
    car-on cell e = rw (car-up cars c f, le-leb (team_in cars c) last_team (omega arith), (on-town s (spot_in spots c) cell (→allowed s h) e).0)

    -- by whether its position has a cell
    pub car-told : (o : Option Cell) → spot_on s (spot_in spots c) ≡ o → is_some o ≡ car_fits s cars spots c
    car-told None e = car-off e
    car-told (Some cell) e = car-on cell e
