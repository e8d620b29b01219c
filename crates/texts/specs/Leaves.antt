-- What the leaves promise.
use Rattle.std.specs.Prelude.{ℕ, ◌≤◌, ◌≡◌, List, length, take}

-- the first r of a list are its first n, or all where it has fewer
pub record Fronts (n : ℕ) (l : List ℕ) (r : ℕ) : Type 0 where
  pub is : take r l ≡ take n l
  pub within : r ≤ length l
