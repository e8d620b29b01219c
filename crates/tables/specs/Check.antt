-- Check 3: the lengths of the tables.
use Rattle.std.specs.Prelude.{ℕ, ◌+◌, ◌*◌, Bool, ◌&&◌, length, ◌==◌}
use Rattle.squares.specs.declared.shape.Shape.{Shape}
use Rattle.squares.specs.Shape.{allowed}
use Rattle.model.specs.Model.{roomy}
use Rattle.squares.specs.Squares.{squares}
use Rattle.tables.specs.Tables.{Tables, tally, shape_of, zone_room, car_room, entry_room}

-- each table has the length that a shape and capacities call for
abbrev pub long : Shape → ℕ → ℕ → ℕ → Tables → Bool
long s Z C E t =
    (length t.records.head == 6) && (length t.records.zones == 4 * Z && (length t.records.cars == C && (length t.records.spots == 2 * C && (length t.derived.starts == squares s + 1 && (length t.derived.entries == E && (length t.derived.rosters == Z * C && length t.derived.tallies == Z * tally))))))

-- check 3 passes: what head says is within the bounds, and each table has its length
unfoldable pub sized : Tables → Bool
sized t = allowed (shape_of t) && (roomy (zone_room t) (car_room t) (entry_room t) && long (shape_of t) (zone_room t) (car_room t) (entry_room t) t)
