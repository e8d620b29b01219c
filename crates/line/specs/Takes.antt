-- A line taken from a piece of the input: what the function asks, and what it leaves.
use Rattle.std.specs.Prelude.{ℕ, suc, ◌<◌, ◌≤◌, ◌≡◌, Bool, true, false, List, ◌++◌, length, take, drop}
use Rattle.line.specs.Fields.{front}

-- a buffer for a line, of which n bytes are held
pub record Room (b : List ℕ) (n : ℕ) : Type 0 where
  pub few : n ≤ 81
  pub long : 81 ≤ length b

-- from place `at` of the piece p, with the first n bytes of the buffer b held, up to `next`; then `bytes` of the buffer are the
-- line's, cut to 81, and r are held for the next piece
pub record Takes (p : List ℕ) (at : ℕ) (b b' : List ℕ) (n next bytes : ℕ) (whole : Bool) (r : ℕ) : Type 0 where
  pub within : next ≤ length p
  pub further : at < length p → at < next
  pub most : bytes ≤ 81
  pub few : r ≤ bytes
  pub room : length b' ≡ length b
  pub line : take bytes b' ≡ take 81 (take n b ++ front 10 (drop at p))
  -- a feed came: what follows it is left, and nothing is held
  pub ended : whole ≡ true → (length (front 10 (drop at p)) < length (drop at p)) × (drop next p ≡ drop (suc (length (front 10 (drop at p)))) (drop at p)) × (r ≡ 0)
  -- none came: the piece is at its end, and the line is held
  pub part : whole ≡ false → (front 10 (drop at p) ≡ drop at p) × (next ≡ length p) × (r ≡ bytes)
