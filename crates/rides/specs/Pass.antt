-- What the functions that go from block to block ask and promise, over plain lists.
use Rattle.std.specs.Prelude.{ℕ, ◌+◌, ◌-◌, ◌<◌, ◌≤◌, ◌≡◌, ◌⊎◌, Bool, true, false, cond, List, ltb, leb, length, get_or}
use Rattle.tables.specs.Derived.{free}
use Rattle.rides.specs.Swap.{Swap, Split, Counts}
use Rattle.rides.specs.Blocks.{SwapRoom}

-- ---- which way

-- how many numbers the longer list has
abbrev pub longer : List ℕ → List ℕ → ℕ
longer d t = length t + (length d - length t)

-- at place x the number taken up is the lower one, where a list that has ended counts as higher
unfoldable pub rise : List ℕ → List ℕ → ℕ → Bool
rise d t x = cond (leb (length t) x) false (cond (leb (length d) x) true (ltb (get_or t x 0) (get_or d x 0)))

-- from m up to next each place goes one way; and the one at next, if there is one, the other
pub record Run (d t : List ℕ) (m next : ℕ) (up : Bool) : Type 0 where
  pub some : m < next
  pub within : next ≤ longer d t
  pub each : (x : ℕ) → m ≤ x → x < next → rise d t x ≡ up
  pub stops : next < longer d t → rise d t next ≡ up → ⊥

-- ---- from block to block

-- m numbers of d and of t are exchanged: up to `from` the entries e are those of r, then those of l, then free marks
pub record Going (s : List ℕ) (n : ℕ) (l d t r e : List ℕ) (from m : ℕ) : Type 0 where
  pub swap : Swap l d t r
  pub counts : Counts s n l
  pub split : Split l d t from m m
  pub before : (q : ℕ) → q < from → get_or e q 0 ≡ get_or r q 0
  pub rest : (q : ℕ) → from ≤ q → q < length l → get_or e q 0 ≡ get_or l q 0
  pub marks : (q : ℕ) → length l ≤ q → q < length e → get_or e q 0 ≡ free

-- all are: the entries e are those of r, then free marks
pub record Swapped (r e : List ℕ) : Type 0 where
  pub front : (q : ℕ) → q < length r → get_or e q 0 ≡ get_or r q 0
  pub marks : (q : ℕ) → length r ≤ q → q < length e → get_or e q 0 ≡ free

abbrev pub Reached : List ℕ → ℕ → List ℕ → List ℕ → List ℕ → List ℕ → List ℕ → ℕ → ℕ → Type 0
Reached s n l d t r e from m = Going s n l d t r e from m ⊎ ((longer d t ≤ m) × Swapped r e)

-- what a block asks, and what it promises
pub record StepRoom (d t e : List ℕ) (from u m next : ℕ) (up : Bool) : Type 0 where
  pub room : SwapRoom d t e u
  pub run : Run d t m next up
  pub forward : from ≤ u
  pub gone : m ≤ length d
  pub come : m ≤ length t

pub record Steps (s : List ℕ) (n : ℕ) (d t e e' : List ℕ) (from u m next at : ℕ) : Type 0 where
  pub within : at ≤ u
  pub right : (l r : List ℕ) → length l ≡ u → Going s n l d t r e from m → Reached s n l d t r e' at next
