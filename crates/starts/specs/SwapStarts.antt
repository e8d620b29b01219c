-- Starts moved by keys that are dropped and others that are taken up, over plain lists.
use Rattle.std.specs.Prelude.{◌≡◌, ℕ, ◌+◌, ◌*◌, ◌<◌, ◌≤◌, List, length, slice_index}
use Rattle.order.specs.Buffer.{rank}
use Rattle.starts.specs.Shift.{shifted, plus, less}

-- where the keys lie
pub record SwapKeys (gone at come n : ℕ) (s : List ℕ) : Type 0 where
  pub dropped : gone ≤ n
  pub taken : at + come ≤ n
  pub within : n ≤ length s

-- from place lo on each number goes down by how many of d, and up by how many of t, lie before its place
pub record Swapped (d t : List ℕ) (lo : ℕ) (s s' : List ℕ) : Type 0 where
  pub each : (q : ℕ) → lo ≤ q → q < length s → slice_index s' q ≡ shifted (less (rank (q * 256) d)) (shifted (plus (rank (q * 256) t)) (slice_index s q))
  pub long : length s' ≡ length s
