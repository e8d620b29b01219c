-- Numbers of a list moved up or down by ranges, around 2^32, over plain lists.
use Rattle.std.specs.Prelude.{◌≡◌, ℕ, ◌+◌, ◌-◌, ◌*◌, ◌%◌, ◌^◌, ◌<◌, ◌≤◌, List, length, slice_index}
use Rattle.order.specs.Buffer.{rank}

abbrev pub shifted : ℕ → ℕ → ℕ
shifted v x = (x + v) % 2 ^ 32

-- numbers from place p up to q are moved by v, and all of them lie before the end
pub record Shifting (s s' : List ℕ) (p end v q : ℕ) : Type 0 where
  pub moved : (n : ℕ) → p ≤ n → n < q → slice_index s' n ≡ shifted v (slice_index s n)
  pub before : (n : ℕ) → n < p → slice_index s' n ≡ slice_index s n
  pub after : (n : ℕ) → q ≤ n → slice_index s' n ≡ slice_index s n
  pub long : length s' ≡ length s
  pub low : p ≤ q
  pub most : q ≤ length s
  pub no_more : (n : ℕ) → p ≤ n → n < q → n < end

-- and none is left: q is the end where that lies further on, else p
pub record Shifts (s s' : List ℕ) (p end v q : ℕ) : Type 0 where
  pub part : Shifting s s' p end v q
  pub reached : end ≤ q

-- what adds n to a number, and what takes n off it
abbrev pub plus : ℕ → ℕ
plus n = n

abbrev pub less : ℕ → ℕ
less n = (2 ^ 32 - n % 2 ^ 32) % 2 ^ 32

-- n steps around 2^32
abbrev pub steps : ℕ → ℕ → ℕ
steps step n = n * step % 2 ^ 32

-- from place lo on each number is moved by what c makes of how many keys at the front lie before its place
pub record Moved (c : ℕ → ℕ) (keys : List ℕ) (lo : ℕ) (s s' : List ℕ) : Type 0 where
  pub each : (q : ℕ) → lo ≤ q → q < length s → slice_index s' q ≡ shifted (c (rank (q * 256) keys)) (slice_index s q)
  pub long : length s' ≡ length s
