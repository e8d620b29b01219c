-- Sound tables: check 3 passes, the records are allowed, and what is derived is what the records give afresh.
use Rattle.std.specs.Prelude.{◌≡◌, ℕ, true, nat_le}
use Rattle.squares.specs.Shape.{fits}
use Rattle.position.specs.Answer.{on_town}
use Rattle.model.specs.Teams.{last_team}
use Rattle.tables.specs.Tables.{Tables, shape_of, rect_of, stands, placed, team_of, spot_of}
use Rattle.tables.specs.Check.{sized}
use Rattle.tables.specs.Derived.{derived_of}

pub record Sound (t : Tables) : Type 0 where
  pub size : sized t ≡ true
  pub zones : (z : ℕ) → stands t z ≡ true → fits (shape_of t) (rect_of t z) ≡ true
  pub cars : (c : ℕ) → placed t c ≡ true → on_town (shape_of t) (spot_of t c) ≡ true
  pub teams : (c : ℕ) → placed t c ≡ true → nat_le (team_of t c) last_team ≡ true
  pub derived : t.derived ≡ derived_of t
