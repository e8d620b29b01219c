-- What the records give afresh: the entries in use, where each square's list starts, the rosters, the tallies.
use Rattle.std.specs.Prelude.{ℕ, ◌+◌, ◌-◌, ◌*◌, ◌/◌, ◌%◌, ◌^◌, Bool, ◌&&◌, List, ◌∷◌, ◌++◌, map, length, replicate, nat_le, slice_index}
use Rattle.order.specs.Order.{upto, keep}
use Rattle.order.specs.Sums.{bit}
use Rattle.squares.specs.declared.shape.Shape.{Shape}
use Rattle.squares.specs.Squares.{squares}
use Rattle.cuts.specs.Cut.{in_cut}
use Rattle.model.specs.Model.{roster, standing}
use Rattle.tables.specs.Tables.{Tables, Derived, tally, shape_of, zone_room, car_room, entry_room, rect_of, stands, town_of, roster_has}

-- ---- places: all squares of a town in one row, level 0 first, rising number within a level

-- how many squares lie on the levels above level i
unfoldable pub before : Shape → ℕ → ℕ
before s i = s.P * s.Q * (4 ^ i - 1) / 3

abbrev pub place : Shape → ℕ → ℕ → ℕ
place s i n = before s i + n

-- the level of a place is how many of the levels 1 to k begin at it or before it
unfoldable pub level_at : Shape → ℕ → ℕ
level_at s p = length (keep (λ (i : ℕ). nat_le (before s (i + 1)) p) (upto s.k))

abbrev pub number_at : Shape → ℕ → ℕ
number_at s p = p - before s (level_at s p)

-- ---- entries: one zone on one square's list, as place × 256 + zone

-- the zone stands, and the square is in the cut of its rectangle
unfoldable pub on : Tables → ℕ → Bool
on t key = stands t (key % 256) && in_cut (shape_of t) (rect_of t (key % 256)) (level_at (shape_of t) (key / 256)) (number_at (shape_of t) (key / 256))

-- the keys of the squares below place p, lowest first
abbrev pub keys_to : Tables → ℕ → List ℕ
keys_to t p = keep (on t) (upto (p * 256))

abbrev pub used : Tables → List ℕ
used t = keys_to t (squares (shape_of t))

abbrev pub free : ℕ
free = 4294967295

abbrev pub entries_of : Tables → List ℕ
entries_of t = used t ++ replicate (entry_room t - length (used t)) free

-- for each place, how many entries lie before it
abbrev pub starts_of : Tables → List ℕ
starts_of t = map (λ (p : ℕ). length (keys_to t p)) (upto (squares (shape_of t) + 1))

-- ---- rosters

abbrev pub rosters_of : Tables → List ℕ
rosters_of t = map (λ (i : ℕ). bit (roster_has t (i / car_room t) (i % car_room t))) (upto (zone_room t * car_room t))

-- ---- tallies

-- a zone's numbers: how many cars its roster has, how many of each team, and the holder
abbrev pub tally_of : Tables → ℕ → List ℕ
tally_of t z = length (roster (town_of t) z) ∷ standing (town_of t) z

-- zone after zone
abbrev pub tallies_of : Tables → List ℕ
tallies_of t = map (λ (i : ℕ). slice_index (tally_of t (i / tally)) (i % tally)) (upto (zone_room t * tally))

-- ---- all four

abbrev pub derived_of : Tables → Derived
derived_of t = record { starts = starts_of t; entries = entries_of t; rosters = rosters_of t; tallies = tallies_of t }
