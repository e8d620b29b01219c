-- What the functions that exchange a block of keys ask and promise, over plain lists.
use Rattle.std.specs.Prelude.{ℕ, ◌+◌, ◌-◌, ◌<◌, ◌≤◌, ◌≡◌, Bool, true, false, List, ◌++◌, length, get_or, take, drop, replicate}
use Rattle.order.specs.Rising.{Rising}
use Rattle.order.specs.Buffer.{rank}
use Rattle.tables.specs.Derived.{free}
use Rattle.rides.specs.Swap.{Swap, Counts, Block, Done}

-- ---- keys found

-- of the entries e from one place up to an end, which are those of l, r in all lie before the key
pub record SeatIn (s : List ℕ) (n : ℕ) (e : List ℕ) (from end key r : ℕ) : Type 0 where
  pub within : r ≤ end
  pub is : (l : List ℕ) → Rising l → Counts s n l → ((q : ℕ) → from ≤ q → q < end → get_or e q 0 ≡ get_or l q 0) → end ≤ length l → from ≤ rank key l → rank key l ≤ end → r ≡ rank key l

-- ---- a block moved up

-- at each place of both lists the number taken up is the lower one
abbrev pub Up : List ℕ → List ℕ → ℕ → ℕ → Type 0
Up d t m i = (x : ℕ) → m ≤ x → x < i → get_or t x 0 < get_or d x 0

-- of the first i numbers of d and the first j of t, those from m on, the last one of d is the greater one, or not
pub record LastDrop (d t : List ℕ) (m i j : ℕ) (r : Bool) : Type 0 where
  pub yes : r ≡ true → (m < i) × (get_or t (j - 1) 0 < get_or d (i - 1) 0)
  pub no : r ≡ false → m < i → get_or d (i - 1) 0 ≤ get_or t (j - 1) 0

pub record LiftRoom (d t e : List ℕ) (from end m i j : ℕ) : Type 0 where
  pub forward : from ≤ end
  pub gone : m ≤ i
  pub more : i ≤ j
  pub all : i ≤ length d
  pub new : j ≤ length t
  pub room : end + (j - i) ≤ length e

abbrev pub Lifts : List ℕ → ℕ → List ℕ → List ℕ → List ℕ → List ℕ → ℕ → ℕ → ℕ → ℕ → ℕ → Type 0
Lifts s n d t e e' from end m i j = (l r : List ℕ) → Block s n l d t r e from end m i j → Up d t m i → Done r e e' from (end + (j - i))

-- ---- a block moved down

-- at each place of both lists the number dropped is the lower one
abbrev pub Down : List ℕ → List ℕ → ℕ → ℕ → Type 0
Down d t m j = (x : ℕ) → m ≤ x → x < j → get_or d x 0 < get_or t x 0

pub record SinkRoom (d t e : List ℕ) (from end m i j : ℕ) : Type 0 where
  pub forward : from ≤ end
  pub come : m ≤ j
  pub more : j ≤ i
  pub all : i ≤ length d
  pub new : j ≤ length t
  pub room : end ≤ length e

-- free marks stand where nothing is left
pub record Sunk (r e e' : List ℕ) (from left end : ℕ) : Type 0 where
  pub within : (q : ℕ) → from ≤ q → q < left → get_or e' q 0 ≡ get_or r q 0
  pub marks : (q : ℕ) → left ≤ q → q < end → get_or e' q 0 ≡ free
  pub before : (q : ℕ) → q < from → get_or e' q 0 ≡ get_or e q 0
  pub after : (q : ℕ) → end ≤ q → get_or e' q 0 ≡ get_or e q 0

abbrev pub Sinks : List ℕ → ℕ → List ℕ → List ℕ → List ℕ → List ℕ → ℕ → ℕ → ℕ → ℕ → ℕ → Type 0
Sinks s n d t e e' from end m i j = (l r : List ℕ) → Block s n l d t r e from end m i j → Down d t m j → Sunk r e e' from (end - (i - j)) end

-- ---- all of them

-- what the exchange asks of the first u entries
pub record SwapRoom (d t e : List ℕ) (u : ℕ) : Type 0 where
  pub within : u ≤ length e
  pub room : u + length t ≤ length e + length d

-- where the starts are right and free marks stand after the first u entries, r and free marks are left
abbrev pub Swaps : List ℕ → ℕ → List ℕ → List ℕ → ℕ → List ℕ → List ℕ → Type 0
Swaps s n d t u e e' = (r : List ℕ) → Swap (take u e) d t r → Counts s n (take u e) → drop u e ≡ replicate (length e - u) free → e' ≡ r ++ replicate (length e - length r) free
