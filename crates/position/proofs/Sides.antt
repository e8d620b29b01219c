-- The floats of a whole side are those on the map, and the cell of one is that of its bits without the sign. Assumes nothing.
use Prim.Native.Nat.{ℕ, ◌+◌, ◌-◌, ◌*◌, ◌%◌, ◌^◌, ◌≤◌, ◌<◌, zero-le, min}
use mathlib.Core.Path.{◌≡◌, refl, sym, ◌∙◌}
use mathlib.Core.Logic.{⊎_elim}
use mathlib.Core.Bool.{true, false, not, ◌&&◌, ◌||◌, and-true}
use native.Mathlib.Nat.{min-eq_left, min-eq_right, lt_irrefl, lt_of_lt_of_le}
use native.Mathlib.Omega.{arith}
use lib.Dec.{T, ltb, leb, eqb}
use lib.Ieee.{Float, binary32, to_bits, is_nan, fits}
use borrow.Author.Tests.{le-leb, lt-ltb, leb-true}
use Rattle.std.specs.declared.option.Option.{Option}
use Rattle.std.specs.declared.option.Option.TheVariants.{None, Some}
use Rattle.order.specs.TestLaws.{lt-or-le, and→}
use Rattle.position.specs.Cell.{exponent, fraction, whole, in_range, on_map, cell_in, cell_of}
use Rattle.position.specs.Spots.{coordinate_on, Side}
use Rattle.position.specs.Band.{Stretch, band_of, in_band}
use Rattle.position.specs.BandLaws.{band-cell}
use Rattle.position.specs.Laws.{cell_below}
use Rattle.position.proofs.Shifts.{past}

-- ---- the sign bit apart

whole-sign : (bits : ℕ) → whole (bits % 2 ^ 31) ≡ whole bits
unfolding whole
whole-sign bits =
    let e : exponent (bits % 2 ^ 31) ≡ exponent bits = omega arith in
    let f : fraction (bits % 2 ^ 31) ≡ fraction bits = omega arith in
    rw (e, f)

-- ---- the smaller of a floor and the last cell

pub before_last : (cell side : ℕ) → cell < side → cell ≡ min cell (side - 1)
before_last cell side h = let l : cell ≤ side - 1 = omega arith in sym (min-eq_left l)

pub is_last : (cell side : ℕ) → side ≤ cell → side - 1 ≡ min cell (side - 1)
is_last cell side h = let l : side - 1 ≤ cell = omega arith in sym (min-eq_right l)

module _ {side : ℕ} (h : Side side) where
  pub whole-side : Stretch 0 side side
  whole-side = record { some = h.some; within = omega arith; small = h.small }

  module _ (x : Float) (held : T (fits binary32 x)) where
    pub on-side : in_band (band_of 0 side side) x ≡ on_map side x
    on-side =
        let cell : cell_of side x < 0 + side = omega (arith, cell_below side x h.some) in
        band-cell 0 side side whole-side x held ∙ rw (le-leb 0 (cell_of side x) zero-le, lt-ltb _ _ cell, and-true)

    pub off-side : in_band (band_of 0 side side) x ≡ false → ◌≡◌ {A = Option ℕ} None (coordinate_on side x)
    unfolding coordinate_on
    off-side e = rw (sym on-side ∙ e)

    module _ (on : in_band (band_of 0 side side) x ≡ true) where
      parts : (not (is_nan x) ≡ true) × (in_range side (to_bits binary32 x) ≡ true)
      unfolding on_map
      parts = and→ (not (is_nan x)) (in_range side (to_bits binary32 x)) (sym on-side ∙ on)

      pub is_number : T (not (is_nan x))
      is_number = rw parts.0 tt

      at_most : whole (to_bits binary32 x) ≤ side * 2 ^ 149
      unfolding in_range
      at_most =
          let bits = to_bits binary32 x in
          leb-true _ _ (and→ (ltb (exponent bits) 255 && (ltb bits (2 ^ 31) || eqb (whole bits) 0)) (leb (whole bits) (side * 2 ^ 149)) parts.1).1

      pub bits-few : to_bits binary32 x % 2 ^ 31 ≤ 135 * 2 ^ 23
      bits-few =
          let b = to_bits binary32 x % 2 ^ 31 in
          ⊎_elim
          (λ (l : 135 * 2 ^ 23 < b). let g : b < 2 ^ 31 = omega arith in absurd (lt_irrefl _ (lt_of_lt_of_le (rw (whole-sign (to_bits binary32 x)) at (past b (exponent b) refl side l g h.small)) at_most)))
          (λ (l : b ≤ 135 * 2 ^ 23). l)
          (lt-or-le (135 * 2 ^ 23) b)

      pub cell-is : {r : ℕ} → r ≡ cell_in side (to_bits binary32 x % 2 ^ 31) → Some r ≡ coordinate_on side x
      unfolding coordinate_on cell_of
      cell-is {r} e = rw (sym on-side ∙ on, e, whole-sign (to_bits binary32 x))
