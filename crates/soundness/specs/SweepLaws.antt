-- How soundness is found out, test by test.
use Rattle.std.specs.Prelude.{ℕ, ◌+◌, ◌-◌, ◌*◌, ◌<◌, ◌≤◌, ◌≡◌, true, false, List, leb, ltb, length, get_or, take}
use Rattle.std.proofs.Common.{ap, ap₂, ◌∙◌, arith, length-take-le, get_or-take}
use Rattle.std.proofs.Math.ListN.{drop, length-drop}
use Rattle.std.proofs.Math.Seq.{take_all}
use borrow.Author.Tests.{le-leb, lt-leb, eq-eqb, ne_eqb, leb-true}
use Rattle.order.specs.Sums.{sum}
use Rattle.order.specs.TestLaws.{and→}
use Rattle.squares.specs.declared.shape.Shape.{Shape}
use Rattle.squares.specs.Squares.{squares}
use Rattle.squares.specs.ShapeLaws.{squares-few}
use Rattle.tables.specs.Tables.{Tables, tally, shape_of, zone_room, car_room}
use Rattle.tables.specs.Sizes.{Sized}
use Rattle.tables.specs.Asks.{Parked}
use Rattle.tables.specs.Rows.{RowThere}
use Rattle.tables.specs.RowLaws.{row-in}
use Rattle.soundness.specs.Tests.{every, zone_fits, car_fits, key_right, right_at, rises_at, free_at, size_at, start_right, byte_right, tally_right, in_use, entries_right, sound, Zoned, Fitting, Riding}
use Rattle.soundness.specs.EveryLaws.{every-ext}
use Rattle.soundness.specs.StartLaws.{parts-front}
use Rattle.soundness.specs.SoundnessLaws.{zones→, cars→}

-- ---- the entries

-- those in use are asked apart
module _ (entries : List ℕ) (u : ℕ) (few : u ≤ length entries) where
  pub rises-front : every (rises_at (take u entries)) (length (take u entries) - 1) ≡ every (rises_at entries) (u - 1)
  rises-front = rw (length-take-le u entries few) (every-ext _ _ (u - 1) (λ i h. ap₂ ltb (get_or-take u entries i 0 (omega arith)) (get_or-take u entries (i + 1) 0 (omega arith))))

  pub rights-front : (s : Shape) (zones : List ℕ) → every (right_at s zones (take u entries)) (length (take u entries)) ≡ every (right_at s zones entries) u
  rights-front s zones = rw (length-take-le u entries few) (every-ext _ _ u (λ i h. ap (key_right s zones) (get_or-take u entries i 0 h)))

  pub starts-front : (starts : List ℕ) → every (start_right starts (take u entries) (length (take u entries))) (length starts) ≡ every (start_right starts entries u) (length starts)
  starts-front starts = every-ext _ _ (length starts) (λ p h. parts-front entries u (p * 256) (get_or starts p 0) few)

module _ (s : Shape) (Z : ℕ) (zones entries : List ℕ) (u : ℕ) where
  pub entries-many : length entries < u → false ≡ entries_right s Z zones entries u
  unfolding entries_right
  entries-many h = rw (lt-leb u (length entries) h)

  pub entries-few : entries_right s Z zones entries u ≡ true → u ≤ length entries
  unfolding entries_right
  entries-few e = leb-true u (length entries) (and→ (leb u (length entries)) _ e).0

  module _ (few : u ≤ length entries) where
    pub entries-fall : every (rises_at entries) (u - 1) ≡ false → false ≡ entries_right s Z zones entries u
    unfolding entries_right
    entries-fall e = rw (le-leb u (length entries) few, e)

    module _ (rise : every (rises_at entries) (u - 1) ≡ true) where
      pub entries-wrong : every (right_at s zones entries) u ≡ false → false ≡ entries_right s Z zones entries u
      unfolding entries_right
      entries-wrong e = rw (le-leb u (length entries) few, rise, e)

      module _ (right : every (right_at s zones entries) u ≡ true) (n : ℕ) (all : n ≡ sum (size_at s zones) Z) where
        pub entries-lack : (u ≡ n → ⊥) → false ≡ entries_right s Z zones entries u
        unfolding entries_right
        entries-lack f = rw (le-leb u (length entries) few, rise, right, ← all, ne_eqb u n f)

        pub entries-rest : u ≡ n → (rest : List ℕ) → rest ≡ take (length entries - u) (drop u entries) → every (free_at rest) (length rest) ≡ entries_right s Z zones entries u
        unfolding entries_right
        entries-rest e rest f =
            let whole : rest ≡ drop u entries = f ∙ take_all (length entries - u) (drop u entries) (omega (arith, length-drop u entries)) in
            rw (le-leb u (length entries) few, rise, right, ← all, eq-eqb u n e, whole)

-- ---- all tables

-- the shape and the capacities as they were read
pub record Known (t : Tables) (s : Shape) (Z C : ℕ) : Type 0 where
  pub size : Sized t
  pub shape : s ≡ shape_of t
  pub zones : Z ≡ zone_room t
  pub cars : C ≡ car_room t

module _ {t : Tables} {s : Shape} {Z C : ℕ} (k : Known t s Z C) where
  pub zoned : Zoned s t.records.zones Z
  zoned = rw (k.shape, k.zones) (record { shape = k.size.shape; many = k.size.lengths.zones; few = k.size.room.zones-few })

  pub parked : Parked s t.records.cars t.records.spots C
  parked = rw (k.shape, k.cars) (record { shape = k.size.shape; many = k.size.lengths.cars; pairs = k.size.lengths.spots; some = k.size.room.cars-some; few = k.size.room.cars-few })

  pub fitting : every (zone_fits s t.records.zones) Z ≡ true → Fitting s t.records.zones Z
  fitting e = record { zoned = zoned; fit = zones→ s t.records.zones Z zoned.many e }

  pub riding : every (car_fits s t.records.cars t.records.spots) C ≡ true → Riding s t.records.cars t.records.spots C
  riding e = record { parked = parked; fit = λ c h. (cars→ s t.records.cars t.records.spots C parked.many e c h).1 }

  pub starts-few : length t.derived.starts ≤ 87382
  starts-few = omega (arith, k.size.lengths.starts, squares-few (shape_of t) k.size.shape)

  pub bytes-many : length t.derived.rosters ≡ Z * C
  bytes-many = rw (k.zones, k.cars) k.size.lengths.rosters

  pub rows-there : (z : ℕ) → z < Z → RowThere t.derived.rosters z (length t.records.cars)
  rows-there = rw (k.zones, k.size.lengths.cars) (row-in t k.size)

  pub numbers-many : length t.derived.tallies ≡ Z * tally
  numbers-many = rw k.zones k.size.lengths.tallies

  pub last-start : (u : ℕ) → u ≡ get_or t.derived.starts (length t.derived.starts - 1) 0 → u ≡ in_use t
  last-start u e = let h : length t.derived.starts - 1 ≡ squares (shape_of t) = omega (arith, k.size.lengths.starts) in e ∙ ap (λ (n : ℕ). get_or t.derived.starts n 0) h

  pub unsound-zones : every (zone_fits s t.records.zones) Z ≡ false → false ≡ sound t
  unfolding sound
  unsound-zones e = rw (rw (k.shape, k.zones) at e)

  module _ (zone : every (zone_fits s t.records.zones) Z ≡ true) where
    pub unsound-cars : every (car_fits s t.records.cars t.records.spots) C ≡ false → false ≡ sound t
    unfolding sound
    unsound-cars e = rw (rw (k.shape, k.zones) at zone, rw (k.shape, k.cars) at e)

    module _ (car : every (car_fits s t.records.cars t.records.spots) C ≡ true) (u : ℕ) (last : u ≡ in_use t) where
      pub unsound-entries : entries_right s Z t.records.zones t.derived.entries u ≡ false → false ≡ sound t
      unfolding sound
      unsound-entries e = rw (rw (k.shape, k.zones) at zone, rw (k.shape, k.cars) at car, rw (k.shape, k.zones, last) at e)

      module _ (entry : entries_right s Z t.records.zones t.derived.entries u ≡ true) where
        pub unsound-starts : every (start_right t.derived.starts t.derived.entries u) (length t.derived.starts) ≡ false → false ≡ sound t
        unfolding sound
        unsound-starts e = rw (rw (k.shape, k.zones) at zone, rw (k.shape, k.cars) at car, rw (k.shape, k.zones, last) at entry, rw (last, k.size.lengths.starts) at e)

        module _ (start : every (start_right t.derived.starts t.derived.entries u) (length t.derived.starts) ≡ true) where
          pub unsound-rosters : every (byte_right s t.records.zones t.records.cars t.records.spots t.derived.rosters C) (Z * C) ≡ false → false ≡ sound t
          unfolding sound
          unsound-rosters e = rw (rw (k.shape, k.zones) at zone, rw (k.shape, k.cars) at car, rw (k.shape, k.zones, last) at entry, rw (last, k.size.lengths.starts) at start, rw (k.shape, k.zones, k.cars) at e)

          pub sound-tallies : every (byte_right s t.records.zones t.records.cars t.records.spots t.derived.rosters C) (Z * C) ≡ true → every (tally_right t.records.cars t.derived.rosters t.derived.tallies (length t.records.cars)) Z ≡ sound t
          unfolding sound
          sound-tallies e = rw (rw (k.shape, k.zones) at zone, rw (k.shape, k.cars) at car, rw (k.shape, k.zones, last) at entry, rw (last, k.size.lengths.starts) at start, rw (k.shape, k.zones, k.cars) at e, k.zones, k.size.lengths.cars)
