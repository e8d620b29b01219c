-- A row of the rosters: the cars whose byte is not 0.
use Rattle.std.specs.Prelude.{ℕ, ◌+◌, ◌*◌, ◌≤◌, Bool, cond, List, [], ◌∷◌, length, nat_lt, slice_index}
use Rattle.order.specs.Order.{upto, keep}
use Rattle.order.specs.Order.{Wrote}

abbrev pub marked : List ℕ → ℕ → ℕ → Bool
marked rosters from c = nat_lt 0 (slice_index rosters (from + c))

abbrev pub row : List ℕ → ℕ → ℕ → List ℕ
row rosters from many = keep (marked rosters from) (upto many)

-- what storing one car leaves
pub record Adds (byte c : ℕ) (b b' : List ℕ) (at r : ℕ) : Type 0 where
  pub wrote : Wrote b b' at r (cond (nat_lt 0 byte) (c ∷ []) [])
  pub most : r ≤ at + 1

-- zone z's row of so many bytes is in the table
pub record RowThere (rosters : List ℕ) (z many : ℕ) : Type 0 where
  pub there : z * many + many ≤ length rosters
  pub early : z * many ≤ 262144
  pub few : many ≤ 1024
