-- n / 2 ^ 149 is the exact value that lib.Ieee gives a float: so a cell is the floor of a real number, but no later than the last, and the map's end a comparison of real numbers.
-- A number is `fin s m e`: m * 2 ^ e, negative where s is true. 2 ^ e is the fraction up e / down e. Assumes nothing.
use Rattle.std.specs.Prelude.{ℕ, zero, suc, ◌+◌, ◌-◌, ◌*◌, ◌/◌, ◌%◌, ◌^◌, ◌<◌, ◌≤◌, min, ◌≡◌, refl, Bool, true, false, not, ◌&&◌, ◌||◌, cond, ℤ, T, ltb, leb, eqb, Float}
use Rattle.std.proofs.Common.{zero-le, sym, ap, ap₂, ◌∙◌, ⊎_elim, sub-le, le_of_eq, mul-pos, mul-one, mul_comm, mul_right_comm, mul-div_cancel, mul-le-mul_right, mul-lt-mul_of_pos_right, lt_of_mul-lt-mul_right, le_of_mul-le-mul_right, arith, pow_pos, eq-eqb, ne_eqb, lt-ltb, le-ltb, le-leb, leb-true, leb-false}
use Rattle.std.proofs.Math.Bool.{and-false}
use Rattle.std.proofs.Math.Nat.{zero-min, min-eq_right, mul-div-mul_right}
use Rattle.std.proofs.Math.Pow.{field}
use Rattle.std.proofs.lemmas.Bool.{eqb-false, lt-leb}
use Rattle.std.specs.Float.{nan, inf, fin}
use Rattle.std.specs.Float.Ieee.{binary32, up, down, fits, is_nan, odd, of_fields, of_bits, to_bits}
use Rattle.std.specs.Float.Ieee.Exact.{HasValue, odd_sign}
use Rattle.std.specs.Float.Ieee.Bits.{of_bits-to_bits}
use Rattle.std.specs.Float.Ieee.Fits.{down_pos}
use Rattle.order.specs.TestLaws.{lt-or-le}
use Rattle.position.specs.Cell.{exponent, fraction, whole, in_range, on_map, cell_of}

-- ---- n by its two cases

pub whole-zero : (bits : ℕ) → exponent bits ≡ 0 → whole bits ≡ fraction bits
unfolding whole
whole-zero bits h = rw (eq-eqb _ _ h)

pub whole-some : (bits e : ℕ) → exponent bits ≡ suc e → whole bits ≡ (2 ^ 23 + fraction bits) * 2 ^ e
unfolding whole
whole-some bits e h =
    let some : exponent bits ≡ 0 → ⊥ = omega arith in
    let less : exponent bits - 1 ≡ e = omega arith in
    rw (ne_eqb _ _ some, less)

-- ---- the fields of a number's bits

-- a number is no infinity and no NaN
number : (a b s : Bool) (y : Float) (t : Bool) (m : ℕ) (x : ℤ) → cond a (cond b (inf s) nan) y ≡ fin t m x → (a ≡ false) × (y ≡ fin t m x)
number true true s y t m x r = let z : ◌≡◌ {A = ℕ} 0 1 = cc in absurd (omega arith)
number true false s y t m x r = let z : ◌≡◌ {A = ℕ} 0 1 = cc in absurd (omega arith)
number false b s y t m x r = (refl, r)

-- the number that a sign s, an exponent field e and a fraction field stand for
read : (s : Bool) (e bits : ℕ) → exponent bits ≡ e → (t : Bool) (m : ℕ) (x : ℤ) → of_fields binary32 s e (fraction bits) ≡ fin t m x
    → (t ≡ s) × (exponent bits < 255) × (m * up x * 2 ^ 149 ≡ whole bits * down x)
unfolding of_fields
read s zero bits h t m x r =
    let v : HasValue (fin t m x) s (fraction bits * 2 ^ 0) (2 ^ 149) = rw r at (odd_sign 24 s (fraction bits) 0 149) in
    (v.0, omega arith, v.1 ∙ ap (λ (n : ℕ). n * down x) (mul-one (fraction bits) ∙ sym (whole-zero bits h)))
read s (suc e) bits h t m x r =
    let d = 2 ^ 23 + fraction bits in
    let q = number (eqb (suc e) 255) (eqb (fraction bits) 0) s (odd 24 s d e 149) t m x r in
    let v : HasValue (fin t m x) s (d * 2 ^ e) (2 ^ 149) = rw q.1 at (odd_sign 24 s d e 149) in
    (v.0, omega (arith, eqb-false (suc e) 255 q.0), v.1 ∙ ap (λ (n : ℕ). n * down x) (sym (whole-some bits e h)))

-- ---- tests on the same numbers

not-le : (a b : ℕ) (s : Bool) → leb b a ≡ s → ltb a b ≡ not s
not-le a b true h = le-ltb a b (leb-true b a h)
not-le a b false h = lt-ltb a b (leb-false b a h)

-- n / k and a / d are the same, so they stand the same way to c
scaled : (n k a d c : ℕ) → 0 < k → 0 < d → n * d ≡ a * k → leb n (c * k) ≡ leb a (c * d)
scaled n k a d c kp dp h = go (leb a (c * d)) refl
  where
    go : (t : Bool) → leb a (c * d) ≡ t → leb n (c * k) ≡ t
    go true e = le-leb n (c * k) (le_of_mul-le-mul_right (rw (h, mul_right_comm c k d) (mul-le-mul_right k (leb-true a (c * d) e))) dp)
    go false e = lt-leb n (c * k) (lt_of_mul-lt-mul_right d (rw (h, mul_right_comm c k d) (mul-lt-mul_of_pos_right (leb-false a (c * d) e) kp)))

-- and are 0 together
zero-alike : (n k a d : ℕ) → 0 < k → 0 < d → n * d ≡ a * k → eqb n 0 ≡ eqb a 0
zero-alike n k a d kp dp h = ⊎_elim
    (λ (l : n < 1).
    ⊎_elim (λ (g : a < 1). let x : n ≡ 0 = omega arith in let y : a ≡ 0 = omega arith in rw (x, y)) (λ (g : 1 ≤ a). let x : n ≡ 0 = omega arith in absurd (omega (arith, rw x at h, mul-pos {m = a} {n = k} (omega arith) kp))) (lt-or-le a 1))
    (λ (l : 1 ≤ n).
    ⊎_elim (λ (g : a < 1). let y : a ≡ 0 = omega arith in absurd (omega (arith, rw y at h, mul-pos {m = n} {n = d} (omega arith) dp))) (λ (g : 1 ≤ a). ne_eqb n 0 (omega arith) ∙ sym (ne_eqb a 0 (omega arith))) (lt-or-le a 1))
    (lt-or-le n 1)

-- a value that is the side is in the side's last cell
pub at-end : (n d side : ℕ) → 0 < d → n ≡ side * d → min (n / d) (side - 1) ≡ side - 1
at-end n d side dp h = rw (h, mul-div_cancel side dp) (min-eq_right (sub-le side 1))

-- ---- every number that an f32 holds

module _ (s : Bool) (m : ℕ) (e : ℤ) (held : T (fits binary32 (fin s m e))) where
  fields : (s ≡ leb (2 ^ 31) (to_bits binary32 (fin s m e)))
      × (exponent (to_bits binary32 (fin s m e)) < 255)
      × (m * up e * 2 ^ 149 ≡ whole (to_bits binary32 (fin s m e)) * down e)
  unfolding of_bits
  fields =
      let bits = to_bits binary32 (fin s m e) in
      read (leb (2 ^ 31) bits) (bits % 2 ^ 31 / 2 ^ 23) bits (sym (field bits 8 23)) s m e (of_bits-to_bits binary32 (fin s m e) held)

  -- n / 2 ^ 149 is m * 2 ^ e
  pub exact : whole (to_bits binary32 (fin s m e)) * down e ≡ m * up e * 2 ^ 149
  exact = sym fields.2

  floor-exact : whole (to_bits binary32 (fin s m e)) / 2 ^ 149 ≡ m * up e / down e
  floor-exact =
      sym (mul-div-mul_right (whole (to_bits binary32 (fin s m e))) (2 ^ 149) (down_pos e))
      ∙ ap₂ (λ (a b : ℕ). a / b) exact (mul_comm (2 ^ 149) (down e))
      ∙ mul-div-mul_right (m * up e) (down e) (pow_pos 149)

  -- the cell is the smaller of the floor of m * 2 ^ e and the last cell
  pub cell-exact : (side : ℕ) → cell_of side (fin s m e) ≡ min (m * up e / down e) (side - 1)
  unfolding cell_of
  cell-exact side = rw floor-exact

  -- it is on the map where its value is at least 0, so that it has no sign or is 0, and m * 2 ^ e is at most the side
  pub map-exact : (side : ℕ) → on_map side (fin s m e) ≡ ((not s || eqb (m * up e) 0) && leb (m * up e) (side * down e))
  unfolding on_map in_range is_nan
  map-exact side =
      let bits = to_bits binary32 (fin s m e) in
      rw (lt-ltb _ _ fields.1, not-le bits (2 ^ 31) s (sym fields.0), zero-alike (whole bits) (2 ^ 149) (m * up e) (down e) (pow_pos 149) (down_pos e) exact, scaled (whole bits) (2 ^ 149) (m * up e) (down e) side (pow_pos 149) (down_pos e) exact)

  -- at the wall, where the value is the side, it is on the map in the last cell; past the wall it is off
  pub at-wall : (side : ℕ) → s ≡ false → m * up e ≡ side * down e → (on_map side (fin s m e) ≡ true) × (cell_of side (fin s m e) ≡ side - 1)
  at-wall side clear wall = (rw (map-exact side, clear, le-leb _ _ (le_of_eq wall)), cell-exact side ∙ at-end (m * up e) (down e) side (down_pos e) wall)

  pub past-wall : (side : ℕ) → side * down e < m * up e → on_map side (fin s m e) ≡ false
  past-wall side past = rw (map-exact side, lt-leb _ _ past, and-false)

-- what has no value is not on the map: a NaN, an infinity
pub nan-off : (side : ℕ) → on_map side nan ≡ false
unfolding on_map is_nan
nan-off side = refl

pub inf-off : (s : Bool) (side : ℕ) → on_map side (inf s) ≡ false
unfolding on_map in_range is_nan to_bits
inf-off true side = refl
inf-off false side = refl

-- minus zero is 0: it is on every map, in cell 0; the least number below it is on none
pub minus-zero : (side : ℕ) → (on_map side (of_bits binary32 2147483648) ≡ true) × (cell_of side (of_bits binary32 2147483648) ≡ 0)
unfolding on_map in_range whole cell_of of_bits to_bits is_nan
minus-zero side = (le-leb 0 (side * 2 ^ 149) zero-le, zero-min (side - 1))

pub below-zero : (side : ℕ) → on_map side (of_bits binary32 2147483649) ≡ false
unfolding on_map in_range whole of_bits to_bits is_nan
below-zero side = refl
