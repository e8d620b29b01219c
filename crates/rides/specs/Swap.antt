-- Numbers taken out of a rising list and others put in, over plain lists.
use Rattle.std.specs.Prelude.{ℕ, suc, ◌+◌, ◌*◌, ◌<◌, ◌≤◌, ◌≡◌, length, get_or}
use mathlib.Core.List.{List, Memᴰ}
use Rattle.order.specs.Rising.{Rising}
use Rattle.order.specs.Buffer.{rank}

-- r is l without the numbers of d and with those of t: told by how many lie below each number
pub record Swap (l d t r : List ℕ) : Type 0 where
  pub old : Rising l
  pub gone : Rising d
  pub come : Rising t
  pub new : Rising r
  pub there : (x : ℕ) → Memᴰ x d → Memᴰ x l
  pub fresh : (x : ℕ) → Memᴰ x t → Memᴰ x l → ⊥
  pub each : (x : ℕ) → rank x r + rank x d ≡ rank x l + rank x t

-- place p of l lies after the first i numbers of d and the first j of t, and before the others
pub record Split (l d t : List ℕ) (p i j : ℕ) : Type 0 where
  pub place : p ≤ length l
  pub gone : i ≤ length d
  pub come : j ≤ length t
  pub below : (q : ℕ) → q < p → (rank (suc (get_or l q 0)) d ≤ i) × (rank (suc (get_or l q 0)) t ≤ j)
  pub above : (q : ℕ) → p ≤ q → q < length l → (i ≤ rank (get_or l q 0) d) × (j ≤ rank (get_or l q 0) t)

-- from place n on each start counts the numbers of l before its place
abbrev pub Counts : List ℕ → ℕ → List ℕ → Type 0
Counts s n l = (p : ℕ) → n ≤ p → p < length s → get_or s p 0 ≡ rank (p * 256) l

-- the entries e from one place up to an end are those of l; m numbers of d and of t belong before them, i and j before their end
pub record Block (s : List ℕ) (n : ℕ) (l d t r e : List ℕ) (from end m i j : ℕ) : Type 0 where
  pub swap : Swap l d t r
  pub counts : Counts s n l
  pub forward : from ≤ end
  pub first : Split l d t from m m
  pub last : Split l d t end i j
  pub same : (q : ℕ) → from ≤ q → q < end → get_or e q 0 ≡ get_or l q 0

-- from lo up to hi the entries are r's, and elsewhere as they were
pub record Done (r e e' : List ℕ) (lo hi : ℕ) : Type 0 where
  pub within : (q : ℕ) → lo ≤ q → q < hi → get_or e' q 0 ≡ get_or r q 0
  pub before : (q : ℕ) → q < lo → get_or e' q 0 ≡ get_or e q 0
  pub after : (q : ℕ) → hi ≤ q → get_or e' q 0 ≡ get_or e q 0
