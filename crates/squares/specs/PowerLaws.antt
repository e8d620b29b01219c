-- Laws of powers, and of bits taken apart as the loop that does it needs them.
use Rattle.std.specs.Prelude.{◌≡◌, ℕ, zero, suc, ◌+◌, ◌-◌, ◌*◌, ◌/◌, ◌%◌, ◌^◌, ◌<◌, ◌≤◌, refl}
use Rattle.std.proofs.Common.{zero-le, sym, ◌∙◌, arith, add-one, pow-suc, mul_assoc, mul_comm, mul-add, mul-zero, one-mul, mul-le-mul, zero-add, add-zero, le_trans, lit<, Fits, shl_exact}
use Rattle.std.proofs.Math.Nat.{pow-succ', pow-zero, pow-le-pow_left, pow-le-pow_right, one-le-pow, le-pred_of_lt}
use Rattle.std.proofs.Math.Arith.{digits_lt}
use Rattle.std.specs.Int.{w32}
use Rattle.squares.specs.Shape.{largest_k}
use Rattle.squares.specs.Squares.{evens}
use Rattle.squares.specs.Leaves.{Below}

pub four-pos : (i : ℕ) → 0 < 4 ^ i
four-pos i = one-le-pow i 4 (lit< tt)

pub two-two : (i : ℕ) → 2 ^ (2 * i) ≡ 4 ^ i
two-two zero = refl
two-two (suc i) = let e : 2 * suc i ≡ suc (suc (2 * i)) = omega arith in rw (e, pow-succ' 2 (suc (2 * i)), pow-succ' 2 (2 * i), two-two i, pow-succ' 4 i) (omega arith)

-- a one shifted
pub shifted : (j : ℕ) → j ≤ 12 → (1 * 2 ^ j) % 2 ^ 32 ≡ 2 ^ j
shifted j h = shl_exact {a = 1} 1 j 32 (lit< tt) (omega arith) ∙ one-mul (2 ^ j)

pub four-small : (i m : ℕ) → i ≤ m → 4 ^ i ≤ 4 ^ m
four-small i m h = pow-le-pow_right (lit< tt) h

-- ---- a number made digit by digit, lowest first: of i digits j are in r, and the rest stands above them

pub record Digits (base i whole rest r place j : ℕ) : Type 0 where
  pub turns : j ≤ i
  pub power : place ≡ base ^ j
  pub sum : whole ≡ r + place * rest
  pub low : r < place

module _ (base i whole : ℕ) where
  pub digits-start : Digits base i whole whole 0 1 0
  digits-start = record { turns = zero-le; power = sym (pow-zero base); sum = sym (zero-add (1 * whole) ∙ one-mul whole); low = lit< tt }

  pub digits_more : (rest rest' d r place j : ℕ) → j < i → rest ≡ base * rest' + d → d < base → Digits base i whole rest r place j → Digits base i whole rest' (r + d * place) (place * base) (j + 1)
  digits_more rest rest' d r place j g e l h = record {
    turns = omega arith;
    power = rw (h.power, add-one j, pow-suc base j);
    sum = h.sum ∙ rw (e, mul-add place (base * rest') d, ← mul_assoc place base rest', mul_comm place d) (omega arith);
    low = omega (arith, digits_lt l h.low, h.low, mul_comm place base);
  }

  pub digits-end : (rest r place j : ℕ) → Digits base i whole rest r place j → i ≤ j → rest ≡ 0 → Below whole (base ^ i) r
  digits-end rest r place j h g e =
      let q : j ≡ i = omega (arith, h.turns) in
      record { is = sym (h.sum ∙ rw (e, mul-zero place) (add-zero r)); below = rw (← q, ← h.power) h.low }

  pub digits-room : (rest r place j : ℕ) → base ≤ 4 → i ≤ largest_k → Digits base i whole rest r place j → place ≤ 1024
  digits-room rest r place j g l h = rw h.power (le_trans (pow-le-pow_left g j) (four-small j 5 (le_trans h.turns l)))

pub evens-turn : (i j n : ℕ) → j < i → evens (i - j) n ≡ 2 * evens (i - (j + 1)) (n / 4) + n % 2
unfolding evens
evens-turn i j n h = let e : i - j ≡ suc (i - (j + 1)) = omega arith in rw e

pub evens-end : (i j n : ℕ) → i ≤ j → evens (i - j) n ≡ 0
unfolding evens
evens-end i j n h = let e : i - j ≡ 0 = omega arith in rw e

-- a digit at its place, and what it is added to
pub digit-fits : (d place : ℕ) → d < 4 → place ≤ 1024 → Fits w32 (d * place)
digit-fits d place h g = record { fits = omega (arith, mul-le-mul (le-pred_of_lt h) g) }

pub sum_fits : (r d place : ℕ) → r < place → d < 4 → place ≤ 1024 → Fits w32 (r + d * place)
sum_fits r d place l h g = record { fits = omega (arith, mul-le-mul (le-pred_of_lt h) g) }
