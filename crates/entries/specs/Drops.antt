-- The keys of one zone taken out of the entries, over plain lists.
use Rattle.std.specs.Prelude.{◌≡◌, ℕ, ◌+◌, ◌-◌, ◌*◌, ◌%◌, ◌<◌, ◌≤◌, Bool, not, List, ◌++◌, length, take, drop, replicate, ◌==◌, slice_index}
use Rattle.order.specs.Order.{keep}
use Rattle.order.specs.Rising.{Rising}
use Rattle.order.specs.Buffer.{rank}
use Rattle.squares.specs.declared.shape.Shape.{Shape}
use Rattle.squares.specs.declared.shape.Rect.{Rect}
use Rattle.squares.specs.Shape.{most_zones, most_entries}
use Rattle.squares.specs.Bounds.{Allowed, Fits}
use Rattle.squares.specs.Squares.{squares}
use Rattle.tables.specs.Derived.{free}
use Rattle.starts.specs.Starts.{ranks}
use Rattle.starts.specs.Shift.{less, Moved}
use Rattle.entries.specs.Keys.{zone_keys}

-- a key is of zone z, or of another
abbrev pub of_zone : ℕ → ℕ → Bool
of_zone z key = key % 256 == z

abbrev pub of_other : ℕ → ℕ → Bool
of_other z key = not (of_zone z key)

abbrev pub own : ℕ → List ℕ → List ℕ
own z entries = keep (of_zone z) entries

abbrev pub others : ℕ → List ℕ → List ℕ
others z entries = keep (of_other z) entries

-- the keys of zone z taken out of the first u, and free marks after what is left of those
abbrev pub dropped : ℕ → ℕ → List ℕ → List ℕ
dropped z u entries = others z (take u entries) ++ (replicate (u - length (others z (take u entries))) free ++ drop u entries)

-- ---- in one pass

-- the starts are lowered by zone z's keys, and those of other zones stand at the front; the answer is how many they are
pub record Packed (z : ℕ) (s s' e e' : List ℕ) (r : ℕ) : Type 0 where
  pub front : take r e' ≡ others z e
  pub count : r ≡ length (others z e)
  pub within : r ≤ length e
  pub starts : Moved less (own z e) 0 s s'

-- the starts are lowered by zone z's keys among the first u entries, and those are taken out
pub record Passed (z u : ℕ) (s s' e e' : List ℕ) : Type 0 where
  pub starts : Moved less (own z (take u e)) 0 s s'
  pub entries : e' ≡ dropped z u e

-- ---- on tables that are right

-- the first u entries rise, and each start from place n on counts those before it
pub record Ordered (n u : ℕ) (s e : List ℕ) : Type 0 where
  pub rising : Rising (take u e)
  pub starts : (p : ℕ) → n ≤ p → p < length s → slice_index s p ≡ rank (p * 256) (take u e)

-- what taking a zone's keys out asks
pub record DropRoom (s : Shape) (z : ℕ) (starts entries : List ℕ) : Type 0 where
  pub shape : Allowed s
  pub zone : z < most_zones
  pub places : length starts ≡ squares s + 1
  pub few : length entries ≤ most_entries

-- and by its rectangle from the first u entries
pub record CutRoom (s : Shape) (r : Rect) (z u : ℕ) (starts entries : List ℕ) : Type 0 where
  pub room : DropRoom s z starts entries
  pub rect : Fits s r
  pub within : u ≤ length entries

-- how many entries are in use, as the last start says
abbrev pub in_use : List ℕ → ℕ
in_use starts = slice_index starts (length starts - 1)

-- the first u entries are in use, those of zone z are the keys of rectangle r, and free marks stand after them
pub record Listed (s : Shape) (r : Rect) (z u : ℕ) (starts entries : List ℕ) : Type 0 where
  pub rect : Fits s r
  pub within : u ≤ length entries
  pub ordered : Ordered 0 u starts entries
  pub keys : zone_keys s r z ≡ own z (take u entries)
  pub marks : drop u entries ≡ replicate (length entries - u) free

-- the keys of other zones are left, free marks stand after them, and the starts count them
pub record Dropped (z u : ℕ) (starts starts' entries entries' : List ℕ) : Type 0 where
  pub left : entries' ≡ others z (take u entries) ++ replicate (length entries - length (others z (take u entries))) free
  pub counted : starts' ≡ ranks entries' (length starts)

abbrev pub Drops : Shape → Rect → ℕ → ℕ → List ℕ → List ℕ → List ℕ → List ℕ → Type 0
Drops s r z u starts starts' entries entries' = Listed s r z u starts entries → Dropped z u starts starts' entries entries'
