-- Keys found by the starts and taken out of the entries by ranges, over plain lists.
use Rattle.std.specs.Prelude.{◌≡◌, ℕ, ◌+◌, ◌-◌, ◌/◌, ◌≤◌, List, ◌++◌, length, take, drop, slice_index, slice_range}
use Rattle.order.specs.Buffer.{rank}
use Rattle.entries.specs.Drops.{own, dropped, Ordered}

-- the numbers from one place up to an end, moved down by so many places; and what that asks
abbrev pub slid : ℕ → ℕ → ℕ → List ℕ → List ℕ
slid from end by l = take (from - by) l ++ (slice_range l from end ++ drop (end - by) l)

pub record SlideRoom (from end by : ℕ) (l : List ℕ) : Type 0 where
  pub low : by ≤ from
  pub forward : from ≤ end
  pub within : end ≤ length l

-- of the entries from `from` on, as many as there are, r are passed over: no more than lie below the key, where the
-- start of its place stands from n on and is right
pub record Skips (s : List ℕ) (n from many key r : ℕ) : Type 0 where
  pub within : r ≤ many
  pub low : (below : ℕ) → (n ≤ key / 256 → slice_index s (key / 256) ≤ from + below) → r ≤ below

-- r of the entries from `from` on lie below the key, where that start is right
pub record Finds (s : List ℕ) (n : ℕ) (rest : List ℕ) (from key r : ℕ) : Type 0 where
  pub within : r ≤ length rest
  pub is : (n ≤ key / 256 → slice_index s (key / 256) ≤ from + rank key rest) → r ≡ rank key rest

-- where the first n starts are zone z's keys among the first u entries, those are taken out
abbrev pub Closes : ℕ → ℕ → List ℕ → List ℕ → List ℕ → Type 0
Closes n u s e e' = (z : ℕ) → Ordered n u s e → take n s ≡ own z (take u e) → e' ≡ dropped z u e
