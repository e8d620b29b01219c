-- The program's tables: room for a town of 64 by 64 with 16 zones, 64 cars and 2,048 entries.
use Rattle.std.specs.Prelude.{ℕ, ◌+◌, ◌*◌, ◌≡◌, true, cond, List, length, take}
use Rattle.order.specs.Order.{over}
use Rattle.squares.specs.Shape.{allowed}
use Rattle.squares.specs.Squares.{squares}
use Rattle.tables.specs.Tables.{Tables, tally, shape_in, shape_of}
use Rattle.tables.specs.Sound.{Sound}

-- how many of the starts the town in head needs: none where no town is open
unfoldable pub places_of : List ℕ → ℕ
places_of head = cond (allowed (shape_in head)) (squares (shape_in head) + 1) 0

-- tables with other starts
abbrev pub with_starts : Tables → List ℕ → Tables
with_starts t starts = record { records = t.records; derived = record { starts = starts; entries = t.derived.entries; rosters = t.derived.rosters; tallies = t.derived.tallies } }

-- the part that is lent to a call: of the starts, as many as the town needs
abbrev pub part : Tables → Tables
part t = with_starts t (take (places_of t.records.head) t.derived.starts)

-- a town's tables put back into the program's: starts that the town does not need stay as they are
abbrev pub into : Tables → Tables → Tables
into t u = with_starts u (over u.derived.starts t.derived.starts)

-- the lengths of the program's tables
pub record Roomed (t : Tables) : Type 0 where
  pub head : length t.records.head ≡ 6
  pub zones : length t.records.zones ≡ 64
  pub cars : length t.records.cars ≡ 64
  pub spots : length t.records.spots ≡ 128
  pub starts : length t.derived.starts ≡ 5462
  pub entries : length t.derived.entries ≡ 2048
  pub rosters : length t.derived.rosters ≡ 1024
  pub tallies : length t.derived.tallies ≡ 16 * tally

-- the tables have these lengths, and a town that is open is sound
pub record Ready (t : Tables) : Type 0 where
  pub room : Roomed t
  pub sound : allowed (shape_of t) ≡ true → Sound (part t)
