-- What the leaves promise.
use Rattle.std.specs.Prelude.{ℕ, ◌+◌, ◌≤◌, ◌≡◌, List, ◌++◌, length, take, drop}
use Rattle.line.specs.Grammar.{form}
use Rattle.line.specs.Fields.{front}

-- the part that starts at a place ends at r
pub record Ends (mark : ℕ) (l : List ℕ) (at r : ℕ) : Type 0 where
  pub is : r ≡ at + length (front mark (drop at l))
  pub from : at ≤ r
  pub within : r ≤ length l

-- a field and a base whose numbers are small
pub record Short (f : List ℕ) (base : ℕ) : Type 0 where
  pub digits : length f ≤ 10
  pub within : base ≤ 16

-- the first of the bases are those of the letter's fields
pub record Formed (letter count : ℕ) (bases : List ℕ) : Type 0 where
  pub is : take count bases ≡ form letter
  pub most : count ≤ 5
  pub room : length bases ≡ 5

-- of the buffer's first n bytes and the part's, the first 81 are the buffer's first r
pub record Holds (part b b' : List ℕ) (n r : ℕ) : Type 0 where
  pub is : take r b' ≡ take 81 (take n b ++ part)
  pub most : r ≤ 81
  pub room : length b' ≡ length b
