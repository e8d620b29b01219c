-- Two rising lists merged into one, over plain lists.
use Rattle.std.specs.Prelude.{◌≡◌, ℕ, zero, suc, ◌+◌, ◌*◌, ◌<◌, ◌≤◌, true, ◌⊎◌, List, length, take, drop, slice_index, slice_set}
use mathlib.Core.List.{Memᴰ}
use Rattle.order.specs.Rising.{Rising}
use Rattle.order.specs.Buffer.{ends_below}

-- a and b rise and have no number in common
pub record Apart (a b : List ℕ) : Type 0 where
  pub left : Rising a
  pub right : Rising b
  pub none : (x : ℕ) → Memᴰ x a → Memᴰ x b → ⊥

-- c rises and has the numbers of a and of b, and no others
pub record Union (a b c : List ℕ) : Type 0 where
  pub rising : Rising c
  pub from : (x : ℕ) → Memᴰ x c → Memᴰ x a ⊎ Memᴰ x b
  pub left : (x : ℕ) → Memᴰ x a → Memᴰ x c
  pub right : (x : ℕ) → Memᴰ x b → Memᴰ x c

-- from place n on the starts guide into the first u entries: those from a place's start on are keys of that place or of later ones
abbrev pub Guided : List ℕ → ℕ → ℕ → List ℕ → Type 0
Guided starts n u e = (p : ℕ) → n ≤ p → p < length starts → (i : ℕ) → slice_index starts p ≤ i → i < u → p * 256 ≤ slice_index e i

-- where the starts guide, those of the first `end` entries from r on are not below a key
pub record Limit (starts : List ℕ) (n : ℕ) (e : List ℕ) (end key r : ℕ) : Type 0 where
  pub within : r ≤ end
  pub above : Guided starts n end e → (i : ℕ) → r ≤ i → i < end → key ≤ slice_index e i

-- and the one before r is
pub record Seat (starts : List ℕ) (n : ℕ) (e : List ℕ) (end key r : ℕ) : Type 0 where
  pub limit : Limit starts n e end key r
  pub below : ends_below e key r ≡ true

-- the d numbers from a place on moved up by so many places, the last one first
unfoldable pub moved_up : ℕ → ℕ → ℕ → List ℕ → List ℕ
moved_up from by zero e = e
moved_up from by (suc d) e = moved_up from by d (slice_set e (from + d + by) (slice_index e (from + d)))

-- keys merged into the first u entries, where the starts guide; what stands after both stays
pub record Merged (starts e e' : List ℕ) (u : ℕ) (keys : List ℕ) : Type 0 where
  pub front : Guided starts (length keys) u e → Apart (take u e) keys → Union (take u e) keys (take (u + length keys) e')
  pub rest : drop (u + length keys) e' ≡ drop (u + length keys) e
