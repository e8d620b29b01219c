-- What the steps of a block moved down ask and promise, over plain lists.
use Rattle.std.specs.Prelude.{ℕ, ◌+◌, ◌<◌, ◌≤◌, ◌≡◌, Bool, true, false, ◌⊎◌, List, get_or}
use Rattle.tables.specs.Derived.{free}
use Rattle.rides.specs.Blocks.{SeatIn}

-- a number is left to drop or to take up, or none is
pub record Goes (a i b j : ℕ) (r : Bool) : Type 0 where
  pub on : r ≡ true → (a < i) ⊎ (b < j)
  pub ends : r ≡ false → (i ≤ a) × (j ≤ b)

-- the next number is one of d, of which i are dropped, or one of t, of which j are taken up
pub record Next (d t : List ℕ) (a i b j : ℕ) (r : Bool) : Type 0 where
  pub drop : r ≡ true → (a < i) × (b < j → get_or d a 0 < get_or t b 0)
  pub take : r ≡ false → a < i → (b < j) × (get_or t b 0 ≤ get_or d a 0)

-- the place of a key, not before the first of those looked at
pub record FoundIn (s : List ℕ) (n : ℕ) (e : List ℕ) (from end key r : ℕ) : Type 0 where
  pub low : from ≤ r
  pub seat : SeatIn s n e from end key r

-- the entries from one place up to an end stand so many places lower
pub record Lower (e e' : List ℕ) (from end by : ℕ) : Type 0 where
  pub before : (q : ℕ) → q + by < from → get_or e' q 0 ≡ get_or e q 0
  pub range : (q : ℕ) → from ≤ q + by → q + by < end → get_or e' q 0 ≡ get_or e (q + by) 0
  pub after : (q : ℕ) → end ≤ q → get_or e' q 0 ≡ get_or e q 0

-- and free marks after them
pub record Drawn (e e' : List ℕ) (from end by : ℕ) : Type 0 where
  pub lower : Lower e e' from end by
  pub marks : (q : ℕ) → end ≤ q + by → q < end → get_or e' q 0 ≡ free
