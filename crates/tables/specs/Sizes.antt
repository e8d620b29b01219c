-- The tests of checks 2 and 3, as records for proofs.
use Rattle.std.specs.Prelude.{◌≡◌, ℕ, ◌+◌, ◌*◌, ◌<◌, ◌≤◌, length}
use Rattle.squares.specs.declared.shape.Shape.{Shape}
use Rattle.squares.specs.Shape.{most_zones, most_cars, most_entries}
use Rattle.squares.specs.Bounds.{Allowed}
use Rattle.squares.specs.Squares.{squares}
use Rattle.tables.specs.Tables.{Tables, tally, shape_of, zone_room, car_room, entry_room}

-- the capacities of zones, cars and entries, Z, C and E, are within the bounds
pub record Roomy (Z C E : ℕ) : Type 0 where
  pub zones-some : 0 < Z
  pub zones-few : Z ≤ most_zones
  pub cars-some : 0 < C
  pub cars-few : C ≤ most_cars
  pub entries-some : 0 < E
  pub entries-few : E ≤ most_entries

-- each table has the length that a shape and capacities call for
pub record Long (s : Shape) (Z C E : ℕ) (t : Tables) : Type 0 where
  pub head : length t.records.head ≡ 6
  pub zones : length t.records.zones ≡ 4 * Z
  pub cars : length t.records.cars ≡ C
  pub spots : length t.records.spots ≡ 2 * C
  pub starts : length t.derived.starts ≡ squares s + 1
  pub entries : length t.derived.entries ≡ E
  pub rosters : length t.derived.rosters ≡ Z * C
  pub tallies : length t.derived.tallies ≡ Z * tally

-- check 3 passes: what head says is within the bounds, and each table has its length
pub record Sized (t : Tables) : Type 0 where
  pub shape : Allowed (shape_of t)
  pub room : Roomy (zone_room t) (car_room t) (entry_room t)
  pub lengths : Long (shape_of t) (zone_room t) (car_room t) (entry_room t) t
