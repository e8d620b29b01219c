-- The tests that soundness makes, each over the tables that it reads.
use Rattle.std.specs.Prelude.{ℕ, zero, suc, ◌+◌, ◌-◌, ◌*◌, ◌/◌, ◌%◌, ◌<◌, ◌≤◌, ◌≡◌, Bool, true, cond, ◌&&◌, List, leb, ltb, eqb, Float, length, get_or, drop}
use Rattle.std.proofs.Math.Option.{Option, none, some}
use Rattle.order.specs.Sums.{sum, bit}
use Rattle.order.specs.Buffer.{ends_below}
use Rattle.squares.specs.declared.shape.Shape.{Shape}
use Rattle.squares.specs.declared.shape.Rect.{Rect}
use Rattle.squares.specs.Shape.{fits, most_zones}
use Rattle.squares.specs.Bounds.{Allowed, Fits}
use Rattle.squares.specs.Squares.{squares, squares_on}
use Rattle.cuts.specs.Cut.{in_cut}
use Rattle.position.specs.Answer.{on_town}
use Rattle.model.specs.Teams.{last_team}
use Rattle.model.specs.Model.{Car, Town, holds_car, cut_size}
use Rattle.soundness.specs.declared.entry.Leveled.{Leveled}
use Rattle.tables.specs.Tables.{Tables, tally, shape_of, zone_room, car_room, rect_in, stands_in, placed_in, team_in, spot_in}
use Rattle.tables.specs.Derived.{level_at, number_at, free}
use Rattle.tables.specs.Asks.{Parked}
use Rattle.tallies.specs.Counts.{counted}

-- every number below n has p
unfoldable pub every : (ℕ → Bool) → ℕ → Bool
every p zero = true
every p (suc n) = every p n && p n

-- ---- zones and cars

-- as the town has them: the rectangle of a zone that stands, a car on the map
abbrev pub zone_at : List ℕ → ℕ → Option Rect
zone_at zones z = cond (stands_in zones z) (some (rect_in zones z)) none

abbrev pub car_at : List ℕ → List Float → ℕ → Option Car
car_at cars spots c = cond (placed_in cars c) (some (record { position = spot_in spots c; team = team_in cars c })) none

-- where a zone stands, its rectangle fits
unfoldable pub zone_fits : Shape → List ℕ → ℕ → Bool
zone_fits s zones z = cond (stands_in zones z) (fits s (rect_in zones z)) true

-- where a car is placed, its team is one of the eight and its position is on the map
unfoldable pub car_fits : Shape → List ℕ → List Float → ℕ → Bool
car_fits s cars spots c = cond (placed_in cars c) (leb (team_in cars c) last_team && on_town s (spot_in spots c)) true

-- ---- entries

-- a key's square is one of the town's, its zone stands, and the square is in the cut of its rectangle
unfoldable pub key_right : Shape → List ℕ → ℕ → Bool
key_right s zones key = ltb (key / 256) (squares s) && (stands_in zones (key % 256) && in_cut s (rect_in zones (key % 256)) (level_at s (key / 256)) (number_at s (key / 256)))

abbrev pub right_at : Shape → List ℕ → List ℕ → ℕ → Bool
right_at s zones entries i = key_right s zones (get_or entries i 0)

abbrev pub rises_at : List ℕ → ℕ → Bool
rises_at entries i = ltb (get_or entries i 0) (get_or entries (i + 1) 0)

abbrev pub free_at : List ℕ → ℕ → Bool
free_at entries i = eqb (get_or entries i 0) free

-- how many entries a zone has: the squares of its cut, if it stands
abbrev pub size_at : Shape → List ℕ → ℕ → ℕ
size_at s zones z = cut_size s (zone_at zones z)

-- ---- starts

-- the entry after the first n of u is not below a key, or there is none
unfoldable pub starts_above : List ℕ → ℕ → ℕ → ℕ → Bool
starts_above entries u key n = cond (eqb n u) true (leb key (get_or entries n 0))

-- of the first u entries the first n are below a key, and no other, where they rise
unfoldable pub parts : List ℕ → ℕ → ℕ → ℕ → Bool
parts entries u key n = leb n u && (ends_below entries key n && starts_above entries u key n)

abbrev pub start_right : List ℕ → List ℕ → ℕ → ℕ → Bool
start_right starts entries u p = parts entries u (p * 256) (get_or starts p 0)

-- ---- rosters

-- the town of these records; a roster goes by no capacity
abbrev pub town_in : Shape → List ℕ → List ℕ → List Float → Town
town_in s zones cars spots = record { opening = record { shape = s; zones = 0; cars = 0; entries = 0 }; zone = zone_at zones; car = car_at cars spots }

-- a zone's roster has a car
unfoldable pub has : Shape → List ℕ → List ℕ → List Float → ℕ → ℕ → Bool
has s zones cars spots z c = holds_car (town_in s zones cars spots) z c

-- the bytes of a row say yes or no as p does
abbrev pub says_at : List ℕ → (ℕ → Bool) → ℕ → Bool
says_at row p c = eqb (get_or row c 0) (bit (p c))

unfoldable pub says : List ℕ → (ℕ → Bool) → Bool
says row p = every (says_at row p) (length row)

unfoldable pub byte_right : Shape → List ℕ → List ℕ → List Float → List ℕ → ℕ → ℕ → Bool
byte_right s zones cars spots rosters C i = eqb (get_or rosters i 0) (bit (has s zones cars spots (i / C) (i % C)))

-- ---- tallies

-- a zone's number is that of a row
abbrev pub number_right : List ℕ → ℕ → List ℕ → ℕ → Bool
number_right tallies z row j = eqb (get_or tallies (z * tally + j) 0) (get_or row j 0)

-- all are those counted by its row of the rosters and the cars' records
unfoldable pub tally_right : List ℕ → List ℕ → List ℕ → ℕ → ℕ → Bool
tally_right cars rosters tallies C z = every (number_right tallies z (counted cars rosters (z * C) C)) tally

-- ---- all of them

-- how many entries are in use
abbrev pub in_use : Tables → ℕ
in_use t = get_or t.derived.starts (squares (shape_of t)) 0

abbrev pub records_right : Tables → Bool
records_right t = every (zone_fits (shape_of t) t.records.zones) (zone_room t) && every (car_fits (shape_of t) t.records.cars t.records.spots) (car_room t)

unfoldable pub entries_right : Shape → ℕ → List ℕ → List ℕ → ℕ → Bool
entries_right s Z zones entries u =
    leb u (length entries) && (every (rises_at entries) (u - 1) && (every (right_at s zones entries) u && (eqb u (sum (size_at s zones) Z) && every (free_at (drop u entries)) (length (drop u entries)))))

unfoldable pub sound : Tables → Bool
sound t =
    records_right t
    && (entries_right (shape_of t) (zone_room t) t.records.zones t.derived.entries (in_use t)
    && (every (start_right t.derived.starts t.derived.entries (in_use t)) (squares (shape_of t) + 1)
    && (every (byte_right (shape_of t) t.records.zones t.records.cars t.records.spots t.derived.rosters (car_room t)) (zone_room t * car_room t)
    && every (tally_right t.records.cars t.derived.rosters t.derived.tallies (car_room t)) (zone_room t))))

-- ---- what the functions ask and promise

-- the zones table holds Z zones of a town
pub record Zoned (s : Shape) (zones : List ℕ) (Z : ℕ) : Type 0 where
  pub shape : Allowed s
  pub many : length zones ≡ 4 * Z
  pub few : Z ≤ most_zones

-- and those that stand fit
pub record Fitting (s : Shape) (zones : List ℕ) (Z : ℕ) : Type 0 where
  pub zoned : Zoned s zones Z
  pub fit : (z : ℕ) → stands_in zones z ≡ true → Fits s (rect_in zones z)

-- the tables of the cars hold C cars, and those that are placed are on the map
pub record Riding (s : Shape) (cars : List ℕ) (spots : List Float) (C : ℕ) : Type 0 where
  pub parked : Parked s cars spots C
  pub fit : (c : ℕ) → placed_in cars c ≡ true → on_town s (spot_in spots c) ≡ true

-- a place of the town, and the square there
pub record InTown (s : Shape) (p : ℕ) : Type 0 where
  pub shape : Allowed s
  pub below : p < squares s

pub record At (s : Shape) (p : ℕ) (q : Leveled) : Type 0 where
  pub level : q.level ≡ level_at s p
  pub number : q.number ≡ number_at s p
  pub deep : q.level ≤ s.k
  pub within : q.number < squares_on s q.level

pub record SizeOf (s : Shape) (zones : List ℕ) (z n : ℕ) : Type 0 where
  pub is : n ≡ size_at s zones z
  pub few : n ≤ 87381
