-- What the functions over the tables of the cars ask of them.
use Rattle.std.specs.Prelude.{◌≡◌, ℕ, ◌*◌, ◌<◌, ◌≤◌, List, length, Float}
use Rattle.squares.specs.declared.shape.Shape.{Shape}
use Rattle.squares.specs.Shape.{most_cars}
use Rattle.squares.specs.Bounds.{Allowed}

-- they hold C cars of a town
pub record Parked (s : Shape) (cars : List ℕ) (spots : List Float) (C : ℕ) : Type 0 where
  pub shape : Allowed s
  pub many : length cars ≡ C
  pub pairs : length spots ≡ 2 * C
  pub some : 0 < C
  pub few : C ≤ most_cars
