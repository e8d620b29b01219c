-- The keys that one rectangle has and another has not, square by square, over plain lists.
use Rattle.std.specs.Prelude.{ℕ, ◌/◌, ◌%◌, ◌<◌, ◌≤◌, ◌≡◌, Bool, not, List, length, get_or, take}
use Rattle.order.specs.Order.{keep, lacks}
use Rattle.squares.specs.declared.shape.Shape.{Shape}
use Rattle.squares.specs.declared.shape.Rect.{Rect}
use Rattle.squares.specs.Bounds.{Allowed, Fits}
use Rattle.squares.specs.Squares.{squares_on}
use Rattle.cuts.specs.Cut.{in_cut, cut}
use Rattle.entries.specs.Keys.{zone_keys, KeySpace}

-- r is the larger of a and b
pub record Larger (a b r : ℕ) : Type 0 where
  pub first : a ≤ r
  pub second : b ≤ r
  pub within : (m : ℕ) → a ≤ m → b ≤ m → r ≤ m

-- a square, written as one number, is not in the cut of r
abbrev pub code_out : Shape → Rect → ℕ → Bool
code_out s r code = not (in_cut s r (code / 1048576) (code % 1048576))

-- numbers that are squares
pub record SievedRoom (s : Shape) (r : Rect) (codes : List ℕ) : Type 0 where
  pub shape : Allowed s
  pub rect : Fits s r
  pub level : (i : ℕ) → i < length codes → get_or codes i 0 / 1048576 ≤ s.k
  pub number : (i : ℕ) → i < length codes → get_or codes i 0 % 1048576 < squares_on s (get_or codes i 0 / 1048576)

-- those not in the cut stand at the front; the answer is how many they are
pub record Sieved (s : Shape) (r : Rect) (codes codes' : List ℕ) (n : ℕ) : Type 0 where
  pub front : take n codes' ≡ keep (code_out s r) codes
  pub count : n ≡ length (keep (code_out s r) codes)
  pub within : n ≤ length codes

-- what writing keys of r that r' has not asks, and what it leaves: behind the keys of r nothing changes
pub record ApartRoom (s : Shape) (r r' : Rect) (z : ℕ) (b : List ℕ) : Type 0 where
  pub room : KeySpace s r z b
  pub other : Fits s r'

pub record WroteApart (s : Shape) (r r' : Rect) (z : ℕ) (b b' : List ℕ) (n : ℕ) : Type 0 where
  pub front : take n b' ≡ lacks (zone_keys s r' z) (zone_keys s r z)
  pub count : n ≡ length (lacks (zone_keys s r' z) (zone_keys s r z))
  pub fewer : n ≤ length (cut s r)
  pub long : length b' ≡ length b
  pub rest : (q : ℕ) → length (cut s r) ≤ q → get_or b' q 0 ≡ get_or b q 0
