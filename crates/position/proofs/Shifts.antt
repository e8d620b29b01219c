-- The floor of n / 2 ^ 149 by a shift of the digits, by the exponent field e. Assumes nothing.
use Prim.Native.Nat.{ℕ, ◌+◌, ◌-◌, ◌*◌, ◌/◌, ◌^◌, ◌≤◌, ◌<◌}
use mathlib.Core.Path.{◌≡◌, sym, ap, ◌∙◌}
use mathlib.Core.Logic.{⊎_elim}
use native.Mathlib.Nat.{eq-zero-or-pos, mod-lt, mul-le-mul, mul-lt-mul_of_pos_left, mul-lt-mul_of_pos_right, div-eq_of_lt, lt_of_lt_of_le, lt_of_le_of_lt, le_refl}
use native.Mathlib.Omega.{arith}
use lib.Pow.{pow_pos, pow_mono, pow-lt, shl_lt, shl-shr, shr-shr}
use lib.Dec.{lit≤}
use Rattle.order.specs.TestLaws.{lt-or-le}
use Rattle.position.specs.Cell.{exponent, fraction, whole}
use Rattle.position.specs.Exact.{whole-zero, whole-some}

-- a shift up and a longer one down
down-more : (d i j : ℕ) → d * 2 ^ i / 2 ^ (i + j) ≡ d / 2 ^ j
down-more d i j = sym (shr-shr (d * 2 ^ i) i j) ∙ ap (λ (x : ℕ). x / 2 ^ j) (shl-shr d i)

-- ---- the digits: the fraction field below its leading 1

abbrev digits : ℕ → ℕ
digits bits = 2 ^ 23 + fraction bits

digits_lt : (bits : ℕ) → digits bits < 2 ^ 24
digits_lt bits = omega arith

module _ (bits e : ℕ) (field : e ≡ exponent bits) where
  normal : 0 < e → whole bits ≡ digits bits * 2 ^ (e - 1)
  normal h = whole-some bits (e - 1) (omega arith)

  -- ---- below 1

  small : e < 127 → whole bits < 2 ^ 149
  small h =
      ⊎_elim (λ (z : e ≡ 0). let l : 23 ≤ 149 = lit≤ tt in rw (whole-zero bits (omega arith)) (lt_of_lt_of_le (mod-lt bits (pow_pos 23)) (pow_mono l)))
      (λ (p : 0 < e). let l : 24 + (e - 1) ≤ 149 = omega arith in rw (normal p) (lt_of_lt_of_le (shl_lt 24 (e - 1) (digits_lt bits)) (pow_mono l)))
      (eq-zero-or-pos e)

  pub floor-small : (j : ℕ) → e < 127 → 24 ≤ j → digits bits / 2 ^ j ≡ whole bits / 2 ^ 149
  floor-small j h g = div-eq_of_lt (lt_of_lt_of_le (digits_lt bits) (pow_mono g)) ∙ sym (div-eq_of_lt (small h))

  -- ---- from 1 on

  pub floor-down : 127 ≤ e → e < 150 → digits bits / 2 ^ (150 - e) ≡ whole bits / 2 ^ 149
  floor-down a b =
      let k : 149 ≡ e - 1 + (150 - e) = omega arith in
      sym (ap (λ (n : ℕ). n / 2 ^ 149) (normal (omega arith)) ∙ ap (λ (i : ℕ). digits bits * 2 ^ (e - 1) / 2 ^ i) k ∙ down-more (digits bits) (e - 1) (150 - e))

  -- ---- above 256: past every side

  pub past : (side : ℕ) → 135 * 2 ^ 23 < bits → bits < 2 ^ 31 → side ≤ 256 → side * 2 ^ 149 < whole bits
  past side a b s = lt_of_le_of_lt (mul-le-mul s (le_refl (2 ^ 149))) (rw (normal (omega arith)) (⊎_elim
      (λ (l : e < 136). let g : 134 ≡ e - 1 = omega arith in let h : 2 ^ 23 < digits bits = omega arith in rw (← g) (mul-lt-mul_of_pos_right h (pow_pos 134)))
      (λ (l : 136 ≤ e). let g : 134 < e - 1 = omega arith in let h : 2 ^ 23 ≤ digits bits = omega arith in lt_of_lt_of_le (mul-lt-mul_of_pos_left (pow-lt g) (pow_pos 23)) (mul-le-mul h (le_refl (2 ^ (e - 1)))))
      (lt-or-le e 136)))
