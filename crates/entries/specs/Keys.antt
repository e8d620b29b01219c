-- The keys of a zone: the squares of its cut with the zone, over plain lists.
use Rattle.std.specs.Prelude.{◌≡◌, ℕ, ◌+◌, ◌*◌, ◌/◌, ◌%◌, ◌<◌, ◌≤◌, List, map, length, slice_index}
use Rattle.order.specs.Order.{over}
use Rattle.order.specs.Buffer.{rank}
use Rattle.squares.specs.declared.shape.Shape.{Shape}
use Rattle.squares.specs.declared.shape.Rect.{Rect}
use Rattle.squares.specs.Shape.{most_zones, most_entries}
use Rattle.squares.specs.Bounds.{Allowed, Fits}
use Rattle.squares.specs.Squares.{squares, squares_on}
use Rattle.cuts.specs.Cut.{cut}
use Rattle.tables.specs.Derived.{place}
use Rattle.starts.specs.Shift.{shifted}
use Rattle.entries.specs.Merge.{Merged}

-- the place of a square that is written as one number
abbrev pub code_place : Shape → ℕ → ℕ
code_place s code = place s (code / 1048576) (code % 1048576)

abbrev pub code_key : Shape → ℕ → ℕ → ℕ
code_key s z code = code_place s code * 256 + z

-- the keys of zone z with rectangle r
abbrev pub zone_keys : Shape → Rect → ℕ → List ℕ
zone_keys s r z = map (code_key s z) (cut s r)

-- a number is a square's, and z a zone's
pub record Coded (s : Shape) (z code : ℕ) : Type 0 where
  pub shape : Allowed s
  pub zone : z < most_zones
  pub level : code / 1048576 ≤ s.k
  pub number : code % 1048576 < squares_on s (code / 1048576)

-- what writing a zone's keys asks, and what it leaves
pub record KeyRoom (s : Shape) (r : Rect) (z : ℕ) (b : List ℕ) : Type 0 where
  pub shape : Allowed s
  pub rect : Fits s r
  pub zone : z < most_zones
  pub room : squares s ≤ length b

-- the same of a buffer that has just room for the keys
pub record KeySpace (s : Shape) (r : Rect) (z : ℕ) (b : List ℕ) : Type 0 where
  pub shape : Allowed s
  pub rect : Fits s r
  pub zone : z < most_zones
  pub room : length (cut s r) ≤ length b

pub record Keyed (s : Shape) (r : Rect) (z : ℕ) (b b' : List ℕ) (n : ℕ) : Type 0 where
  pub written : b' ≡ over (zone_keys s r z) b
  pub count : n ≡ length (zone_keys s r z)
  pub within : n ≤ length b

-- what adding a zone's keys to the first u entries asks, and what it leaves
pub record AddRoom (s : Shape) (r : Rect) (z u : ℕ) (starts entries : List ℕ) : Type 0 where
  pub shape : Allowed s
  pub rect : Fits s r
  pub zone : z < most_zones
  pub places : length starts ≡ squares s + 1
  pub room : u + length (cut s r) ≤ length entries
  pub few : length entries ≤ most_entries

pub record KeysAdded (s : Shape) (r : Rect) (z u : ℕ) (starts starts' entries entries' : List ℕ) : Type 0 where
  pub merged : Merged starts entries entries' u (zone_keys s r z)
  pub long : length starts' ≡ length starts
  pub counted : (q : ℕ) → q < length (zone_keys s r z) → slice_index starts' q ≡ rank (q * 256) entries'
  pub raised : (q : ℕ) → length (zone_keys s r z) ≤ q → q < length starts → slice_index starts' q ≡ shifted (rank (q * 256) (zone_keys s r z)) (slice_index starts q)
