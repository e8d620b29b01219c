-- The keys that a zone drops and those that it takes up as it rides, over plain lists.
use Rattle.std.specs.Prelude.{ℕ, ◌+◌, ◌-◌, ◌<◌, ◌≤◌, ◌≡◌, List, ◌++◌, length, get_or, take, drop, replicate}
use Rattle.order.specs.Order.{lacks}
use Rattle.order.specs.Rising.{Rising}
use Rattle.squares.specs.declared.shape.Shape.{Shape}
use Rattle.squares.specs.declared.shape.Rect.{Rect}
use Rattle.squares.specs.Shape.{most_zones, most_entries}
use Rattle.squares.specs.Bounds.{Allowed, Fits}
use Rattle.squares.specs.Squares.{squares}
use Rattle.cuts.specs.Cut.{cut}
use Rattle.tables.specs.Derived.{free}
use Rattle.starts.specs.Starts.{ranks}
use Rattle.entries.specs.Keys.{zone_keys}
use Rattle.entries.specs.Drops.{own, others, Listed}

-- what finding them asks of a rectangle r, its new place r' and a buffer
pub record ChangeRoom (s : Shape) (r r' : Rect) (z : ℕ) (b : List ℕ) : Type 0 where
  pub shape : Allowed s
  pub old : Fits s r
  pub new : Fits s r'
  pub zone : z < most_zones
  pub places : length b ≡ squares s + 1

-- among the first n numbers of the buffer those dropped stand at the front, and those taken up from `at` on; the others keep theirs
pub record Changed (s : Shape) (r r' : Rect) (z : ℕ) (b b' : List ℕ) (gone at come n : ℕ) : Type 0 where
  pub fewer : gone ≤ n
  pub few : at + come ≤ n
  pub within : n ≤ length b
  pub long : length b' ≡ length b
  pub rest : (q : ℕ) → n ≤ q → get_or b' q 0 ≡ get_or b q 0
  pub dropped : take gone b' ≡ lacks (zone_keys s r' z) (zone_keys s r z)
  pub taken : take come (drop at b') ≡ lacks (zone_keys s r z) (zone_keys s r' z)

-- what a ride asks of the first u entries
pub record RideRoom (s : Shape) (r r' : Rect) (z u : ℕ) (starts entries : List ℕ) : Type 0 where
  pub changes : ChangeRoom s r r' z starts
  pub within : u ≤ length entries
  pub room : u + length (cut s r') ≤ length entries + length (cut s r)
  pub few : length entries ≤ most_entries

-- how many squares are dropped and taken up; and, where the entries in use have the keys of r for zone z, the list n with the same
-- keys of other zones and the keys of r' is left, free marks after it, and the starts count it
pub record KeysRidden (s : Shape) (r r' : Rect) (z u : ℕ) (starts starts' entries entries' : List ℕ) (gone come : ℕ) : Type 0 where
  pub dropped : gone ≡ length (lacks (cut s r') (cut s r))
  pub taken : come ≡ length (lacks (cut s r) (cut s r'))
  pub left : Listed s r z u starts entries → (n : List ℕ) → Rising n → others z n ≡ others z (take u entries) → own z n ≡ zone_keys s r' z → (entries' ≡ n ++ replicate (length entries - length n) free) × (starts' ≡ ranks entries' (length starts))
