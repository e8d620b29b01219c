-- Laws of the levels on which two cells lie in different squares: they are the lowest ones, from the unit cell up.
use Rattle.std.specs.Prelude.{◌≡◌, ℕ, suc, ◌+◌, ◌-◌, ◌/◌, ◌^◌, ◌<◌, ◌≤◌, true, false, not, List, ◌++◌, length, ◌≢◌, bit_or, bit_xor, refl}
use Rattle.std.proofs.Common.{ap, sym, ◌∙◌, ⊎_elim, arith, pow-suc, one-mul, le-div_iff_mul-le, pow_pos, pow_mono, eq-eqb, ne_eqb}
use Rattle.std.proofs.Math.Nat.{div-eq_of_lt}
use Rattle.std.proofs.lemmas.Nat.{or_lt, and_le_l, and_le_r, xor_shr, xor_lt, leading_length}
use Rattle.std.specs.Int.Bits.{or_add_and, xor_add_and, xor_self}
use Rattle.std.specs.Int.Count.{count_leading_zeros}
use Rattle.order.specs.Order.{span, upto, keep}
use Rattle.order.specs.KeepLaws.{span-add, length-span, span→, keep_append, keep-none, keep_all}
use Rattle.order.specs.TestLaws.{lt-or-le}
use Rattle.squares.specs.declared.shape.Shape.{Shape}
use Rattle.squares.specs.Shape.{width}
use Rattle.squares.specs.Squares.{number, differ_at, differ}
use Rattle.squares.specs.Leaves.{StepsApart}
use Rattle.squares.specs.SquareLaws.{same_number}

-- the d lowest levels differ, and no other
pub record Apart (s : Shape) (x y x' y' d : ℕ) : Type 0 where
  pub few : d ≤ s.k + 1
  pub below : (i : ℕ) → i ≤ s.k → s.k - i < d → differ_at s x y x' y' i ≡ true
  pub above : (i : ℕ) → i ≤ s.k → d ≤ s.k - i → differ_at s x y x' y' i ≡ false

-- a cell and itself
pub apart_none : (s : Shape) (x y : ℕ) → Apart s x y x y 0
apart_none s x y = record { few = omega arith; below = λ (i : ℕ) (l : i ≤ s.k) (g : s.k - i < 0). absurd (omega arith); above = λ (i : ℕ) (l : i ≤ s.k) (g : 0 ≤ s.k - i). ap not (eq-eqb (number s i x y) (number s i x y) refl) }

-- those are all that differ
pub differ-count : {s : Shape} {x y x' y' d : ℕ} → Apart s x y x' y' d → length (differ s x y x' y') ≡ d
differ-count {s} {x} {y} {x'} {y'} {d} h =
    let p = differ_at s x y x' y' in
    let low = s.k + 1 - d in
    let e : s.k + 1 ≡ low + d = omega (arith, h.few) in
    let none = keep-none p (upto low) (λ i m. h.above i (omega (arith, span→ 0 low i m)) (omega (arith, span→ 0 low i m))) in
    let all = keep_all p (span (0 + low) d) (λ i m. h.below i (omega (arith, span→ (0 + low) d i m)) (omega (arith, span→ (0 + low) d i m))) in
    ap length (ap (λ (n : ℕ). keep p (upto n)) e ∙ ap (keep p) (span-add 0 low d) ∙ keep_append p (upto low) (span (0 + low) d) ∙ ap (λ (l : List ℕ). l ++ keep p (span (0 + low) d)) none ∙ all) ∙ length-span (0 + low) d

-- ---- by the columns and rows

pub steps_apart : {s : Shape} {x y x' y' d : ℕ} → x < width s → x' < width s → StepsApart s.k x y x' y' d → Apart s x y x' y' d
steps_apart {s} {x} {y} {x'} {y'} {d} w w' h = record {
  few = h.few;
  below = λ (i : ℕ) (l : i ≤ s.k) (g : s.k - i < d). ap not (ne_eqb (number s i x y) (number s i x' y') (λ q. let both = (same_number s i x y x' y' l w w').0 q in h.apart (s.k - i) g both.0 both.1));
  above = λ (i : ℕ) (l : i ≤ s.k) (g : d ≤ s.k - i). ap not (eq-eqb (number s i x y) (number s i x' y') ((same_number s i x y x' y' l w w').1 (h.together (s.k - i) (omega arith) g)));
}

-- ---- by the bits of the coordinates

-- no bit differs
xor-none : (a b : ℕ) → bit_xor a b ≡ 0 → a ≡ b
xor-none a b e = omega (arith, xor_add_and a b, and_le_l a b, and_le_r a b)

-- from the j-th on none does, or one does
xor_low : (a b j : ℕ) → bit_xor a b < 2 ^ j → a / 2 ^ j ≡ b / 2 ^ j
xor_low a b j h = xor-none (a / 2 ^ j) (b / 2 ^ j) (sym (xor_shr a b j) ∙ div-eq_of_lt h)

xor-high : (a b j : ℕ) → 2 ^ j ≤ bit_xor a b → a / 2 ^ j ≢ b / 2 ^ j
xor-high a b j h e =
    let none : bit_xor a b / 2 ^ j ≡ 0 = xor_shr a b j ∙ ap (λ (n : ℕ). bit_xor n (b / 2 ^ j)) e ∙ xor_self (b / 2 ^ j) in
    let some : 1 ≤ bit_xor a b / 2 ^ j = (le-div_iff_mul-le (pow_pos j)).1 (omega (arith, one-mul (2 ^ j))) in
    omega arith

xor-small : (a b j : ℕ) → a / 2 ^ j ≡ b / 2 ^ j → bit_xor a b < 2 ^ j
xor-small a b j e = ⊎_elim (λ (l : bit_xor a b < 2 ^ j). l) (λ (l : 2 ^ j ≤ bit_xor a b). absurd (xor-high a b j l e)) (lt-or-le (bit_xor a b) (2 ^ j))

-- the bits up to the highest one in which the columns or the rows differ
abbrev pub length_apart : ℕ → ℕ → ℕ → ℕ → ℕ
length_apart x y x' y' = 32 - count_leading_zeros 32 (bit_or (bit_xor x x') (bit_xor y y'))

module _ {x y x' y' : ℕ} (hx : x < 2 ^ 32) (hy : y < 2 ^ 32) (hx' : x' < 2 ^ 32) (hy' : y' < 2 ^ 32) where
  whole : bit_or (bit_xor x x') (bit_xor y y') < 2 ^ 32
  whole = or_lt 32 (bit_xor x x') (bit_xor y y') (xor_lt 32 x x' hx hx') (xor_lt 32 y y' hy hy')

  below : (j : ℕ) → j < length_apart x y x' y' → x / 2 ^ j ≡ x' / 2 ^ j → y / 2 ^ j ≢ y' / 2 ^ j
  below j g e e' =
      let t = leading_length 32 (bit_or (bit_xor x x') (bit_xor y y')) whole in
      let p = pow_mono {i = suc j} {j = t.0} (omega (arith, t.1)) in
      omega (arith, t.3, p, pow-suc 2 j, or_lt j (bit_xor x x') (bit_xor y y') (xor-small x x' j e) (xor-small y y' j e'))

  above : (j : ℕ) → length_apart x y x' y' ≤ j → (x / 2 ^ j ≡ x' / 2 ^ j) × (y / 2 ^ j ≡ y' / 2 ^ j)
  above j g =
      let t = leading_length 32 (bit_or (bit_xor x x') (bit_xor y y')) whole in
      let p = pow_mono {i = t.0} {j = j} (omega (arith, t.1)) in
      let sum = or_add_and (bit_xor x x') (bit_xor y y') in (
        xor_low x x' j (omega (arith, t.2, p, sum, and_le_r (bit_xor x x') (bit_xor y y'))),
        xor_low y y' j (omega (arith, t.2, p, sum, and_le_l (bit_xor x x') (bit_xor y y'))),
      )

  pub steps-some : {k : ℕ} → length_apart x y x' y' ≤ k → StepsApart k x y x' y' (length_apart x y x' y')
  steps-some l = record { few = omega arith; apart = λ j g. below j g; together = λ j m g. above j g }

  pub steps_all : {k : ℕ} → k < length_apart x y x' y' → StepsApart k x y x' y' (k + 1)
  steps_all {k} l = record { few = omega arith; apart = λ (j : ℕ) (g : j < k + 1). below j (omega arith); together = λ (j : ℕ) (m : j ≤ k) (g : k + 1 ≤ j). absurd (omega arith) }
