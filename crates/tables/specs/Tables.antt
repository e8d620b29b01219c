-- The lent tables: the records that stand in them, what is derived from those, and the town that the records say (docs/LAYOUT.md).
use Rattle.std.specs.Prelude.{ℕ, ◌+◌, ◌-◌, ◌*◌, Bool, cond, List, [], ◌∷◌, nat_lt, slice_index, slice_index_or, Float}
use Rattle.std.proofs.Math.Option.{Option, none, some}
use Rattle.std.specs.Float.{nan}
use Rattle.squares.specs.declared.shape.Shape.{Shape}
use Rattle.squares.specs.declared.shape.Rect.{Rect}
use Rattle.position.specs.declared.Position.{Position}
use Rattle.model.specs.Model.{Car, Town, holds_cell, holds_car}
use Rattle.model.specs.declared.opening.Opening.{Opening}

pub record Records : Type 0 where
  pub head : List ℕ
  pub zones : List ℕ
  pub cars : List ℕ
  pub spots : List Float

pub record Derived : Type 0 where
  pub starts : List ℕ
  pub entries : List ℕ
  pub rosters : List ℕ
  pub tallies : List ℕ

pub record Tables : Type 0 where
  pub records : Records
  pub derived : Derived

-- all eight, in the order in which they are lent
abbrev pub tables : List ℕ → List ℕ → List ℕ → List Float → List ℕ → List ℕ → List ℕ → List ℕ → Tables
tables h z c p s e r n = record { records = record { head = h; zones = z; cars = c; spots = p }; derived = record { starts = s; entries = e; rosters = r; tallies = n } }

-- how many numbers a zone has in tallies
abbrev pub tally : ℕ
tally = 10

-- ---- what head says

abbrev pub head_of : Shape → ℕ → ℕ → ℕ → List ℕ
head_of s Z C E = s.k ∷ s.P ∷ s.Q ∷ Z ∷ C ∷ E ∷ []

abbrev pub shape_in : List ℕ → Shape
shape_in head = record { k = slice_index head 0; P = slice_index head 1; Q = slice_index head 2 }

abbrev pub shape_of : Tables → Shape
shape_of t = shape_in t.records.head

-- the capacities: zones, cars, entries
abbrev pub zone_room : Tables → ℕ
zone_room t = slice_index t.records.head 3

abbrev pub car_room : Tables → ℕ
car_room t = slice_index t.records.head 4

abbrev pub entry_room : Tables → ℕ
entry_room t = slice_index t.records.head 5

abbrev pub opened_by : List ℕ → Opening
opened_by head = record { shape = shape_in head; zones = slice_index head 3; cars = slice_index head 4; entries = slice_index head 5 }

-- ---- zones

abbrev pub rect_in : List ℕ → ℕ → Rect
rect_in zones z = record { a = slice_index zones (4 * z); b = slice_index zones (4 * z + 1); w = slice_index zones (4 * z + 2); h = slice_index zones (4 * z + 3) }

abbrev pub rect_of : Tables → ℕ → Rect
rect_of t z = rect_in t.records.zones z

abbrev pub stands_in : List ℕ → ℕ → Bool
stands_in zones z = nat_lt 0 (rect_in zones z).w

unfoldable pub stands : Tables → ℕ → Bool
stands t z = stands_in t.records.zones z

-- ---- cars

abbrev pub placed_in : List ℕ → ℕ → Bool
placed_in cars c = nat_lt 0 (slice_index cars c)

unfoldable pub placed : Tables → ℕ → Bool
placed t c = placed_in t.records.cars c

-- a car's record is 1 + its team, where it is on the map
abbrev pub team_in : List ℕ → ℕ → ℕ
team_in cars c = slice_index cars c - 1

abbrev pub team_of : Tables → ℕ → ℕ
team_of t c = team_in t.records.cars c

abbrev pub spot_in : List Float → ℕ → Position
spot_in spots c = record { x = slice_index_or spots (2 * c) nan; y = slice_index_or spots (2 * c + 1) nan }

abbrev pub spot_of : Tables → ℕ → Position
spot_of t c = spot_in t.records.spots c

-- ---- the town

abbrev pub opening_in : Tables → Opening
opening_in t = record { shape = shape_of t; zones = zone_room t; cars = car_room t; entries = entry_room t }

unfoldable pub zone_in : Tables → ℕ → Option Rect
zone_in t z = cond (stands t z) (some (rect_of t z)) none

unfoldable pub car_in : Tables → ℕ → Option Car
car_in t c = cond (placed t c) (some (record { position = spot_of t c; team = team_of t c })) none

abbrev pub town_of : Tables → Town
town_of t = record { opening = opening_in t; zone = zone_in t; car = car_in t }

-- a standing zone holds a cell
unfoldable pub zone_holds : Tables → ℕ → ℕ → ℕ → Bool
zone_holds t z x y = holds_cell (town_of t) z x y

-- a zone's roster has a car
unfoldable pub roster_has : Tables → ℕ → ℕ → Bool
roster_has t z c = holds_car (town_of t) z c
