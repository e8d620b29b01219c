-- The starts of places, and what the functions that set them promise, over plain lists.
use Rattle.std.specs.Prelude.{◌≡◌, ℕ, ◌-◌, ◌*◌, ◌<◌, ◌≤◌, List, map, length, replicate}
use Rattle.std.proofs.lemmas.List.Edits.{sets}
use Rattle.order.specs.Order.{upto}
use Rattle.order.specs.Buffer.{rank}

-- for each of so many places, how many entries at the front are keys of places before it
abbrev pub ranks : List ℕ → ℕ → List ℕ
ranks entries places = map (λ (p : ℕ). rank (p * 256) entries) (upto places)

-- the places up to a key's own, of so many, end at r
pub record Reaches (key many r : ℕ) : Type 0 where
  pub most : r ≤ many
  pub own : (p : ℕ) → p < r → p * 256 ≤ key
  pub after : (p : ℕ) → r ≤ p → p < many → key < p * 256

-- numbers from place p up to r are v: r is the end where that lies further on, else p
pub record Fills (s s' : List ℕ) (p end v r : ℕ) : Type 0 where
  pub is : s' ≡ sets s p (replicate (r - p) v)
  pub low : p ≤ r
  pub most : r ≤ length s
  pub reached : end ≤ r
  pub no_more : (q : ℕ) → p ≤ q → q < r → q < end
