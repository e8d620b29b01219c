-- Whether a coordinate is on the map, and its cell on a side (document 01, "Positions"). Definitions only.
use Rattle.std.specs.Prelude.{ℕ, ◌+◌, ◌-◌, ◌*◌, ◌/◌, ◌%◌, ◌^◌, min, Bool, not, ◌&&◌, ◌||◌, cond, ltb, leb, eqb, Float}
use Rattle.std.specs.Float.{binary32}
use Rattle.std.specs.Float.Ieee.{to_bits, is_nan}

-- the exponent field e and the fraction field f of a float's bits
abbrev pub exponent : ℕ → ℕ
exponent bits = bits / 2 ^ 23 % 2 ^ 8

abbrev pub fraction : ℕ → ℕ
fraction bits = bits % 2 ^ 23

-- n: sign bit apart, the value is n / 2 ^ 149
unfoldable pub whole : ℕ → ℕ
whole bits = cond (eqb (exponent bits) 0) (fraction bits) ((2 ^ 23 + fraction bits) * 2 ^ (exponent bits - 1))

-- bits of no infinity and no NaN, with a value of at least 0 (the sign bit is clear, or n is 0) and at most the side
unfoldable pub in_range : ℕ → ℕ → Bool
in_range side bits = ltb (exponent bits) 255 && (ltb bits (2 ^ 31) || eqb (whole bits) 0) && leb (whole bits) (side * 2 ^ 149)

-- a coordinate is on the map, on a side. lib.Ieee has one NaN, with no bits of its own, so it is named apart
unfoldable pub on_map : ℕ → Float → Bool
on_map side x = not (is_nan x) && in_range side (to_bits binary32 x)

-- the cell of a number's bits: the greatest whole number not above the value, or the side's last cell, whichever is smaller
abbrev pub cell_in : ℕ → ℕ → ℕ
cell_in side bits = min (whole bits / 2 ^ 149) (side - 1)

unfoldable pub cell_of : ℕ → Float → ℕ
cell_of side x = cell_in side (to_bits binary32 x)
