-- What a change makes of the tables: the records as it says, and what is derived as the records give it afresh.
use Rattle.std.specs.Prelude.{ℕ, ◌+◌, ◌*◌, List, [], ◌∷◌, replicate, from_bits, slice_set, Float}
use Rattle.std.specs.Float.{binary32}
use Rattle.std.proofs.lemmas.List.Edits.{sets}
use Rattle.squares.specs.declared.shape.Rect.{Rect}
use Rattle.squares.specs.Ride.{ridden}
use Rattle.squares.specs.Squares.{squares}
use Rattle.position.specs.declared.Position.{Position}
use Rattle.model.specs.Model.{Change, emptied, zone_on, zone_off, zone_moved, car_at, car_off, nothing}
use Rattle.model.specs.declared.opening.Opening.{Opening}
use Rattle.tables.specs.Tables.{Tables, tables, tally, head_of, rect_of}
use Rattle.tables.specs.Derived.{derived_of, free}

-- a town with no zone and no car
abbrev pub empty_town : Opening → Tables
empty_town o =
    tables
    (head_of o.shape o.zones o.cars o.entries)
    (replicate (4 * o.zones) 0)
    (replicate o.cars 0)
    (replicate (2 * o.cars) (from_bits binary32 0))
    (replicate (squares o.shape + 1) 0)
    (replicate o.entries free)
    (replicate (o.zones * o.cars) 0)
    (replicate (o.zones * tally) 0)

-- what is derived worked out afresh
abbrev pub fresh : Tables → Tables
fresh t = record { records = t.records; derived = derived_of t }

-- other zones; other cars and positions
abbrev pub zoned : Tables → List ℕ → Tables
zoned t zones = record { records = record { head = t.records.head; zones = zones; cars = t.records.cars; spots = t.records.spots }; derived = t.derived }

abbrev pub parked : Tables → List ℕ → List Float → Tables
parked t cars spots = record { records = record { head = t.records.head; zones = t.records.zones; cars = cars; spots = spots }; derived = t.derived }

-- zone z's record is a rectangle
abbrev pub with_zone : List ℕ → ℕ → Rect → List ℕ
with_zone zones z r = sets zones (4 * z) (r.a ∷ r.b ∷ r.w ∷ r.h ∷ [])

-- zone z stands no more; the rest of its record stays
abbrev pub without_zone : List ℕ → ℕ → List ℕ
without_zone zones z = slice_set zones (4 * z + 2) 0

-- car c's position is p, its bits unchanged
abbrev pub with_spot : List Float → ℕ → Position → List Float
with_spot spots c p = sets spots (2 * c) (p.x ∷ p.y ∷ [])

-- a car that is taken off the map keeps what its position held
abbrev pub step : Change → Tables → Tables
step (emptied o) t = empty_town o
step (zone_on z r) t = fresh (zoned t (with_zone t.records.zones z r))
step (zone_off z) t = fresh (zoned t (without_zone t.records.zones z))
step (zone_moved z dx dy) t = fresh (zoned t (with_zone t.records.zones z (ridden dx dy (rect_of t z))))
step (car_at c a) t = fresh (parked t (slice_set t.records.cars c (a.team + 1)) (with_spot t.records.spots c a.position))
step (car_off c) t = fresh (parked t (slice_set t.records.cars c 0) t.records.spots)
step nothing t = t
