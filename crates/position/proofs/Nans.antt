-- Which bits are a NaN's.
use Prim.Native.Nat.{ℕ, ◌%◌, ◌<◌, ◌≤◌}
use mathlib.Core.Path.{◌≡◌, refl, sym, ◌∙◌}
use mathlib.Core.Bool.{true, false, not}
use lib.Dec.{T}
use lib.Ieee.{Float, nan, inf, fin, binary32, is_nan, of_bits, nan_bits}
use lib.Ieee.Bits.{nan_bits_is, nan_bits_above}
use borrow.Author.Tests.{lt-ltb, le-ltb}
use Rattle.order.specs.TestLaws.{true-not-false}

only_nan : (v : Float) → is_nan v ≡ true → v ≡ nan
unfolding is_nan
only_nan nan e = refl
only_nan (inf s) e = absurd (true-not-false false e refl)
only_nan (fin s m x) e = absurd (true-not-false false e refl)

pub nan-bits : (n : ℕ) → 0x7F80_0000 < n % 0x8000_0000 → of_bits binary32 n ≡ nan
nan-bits n h = only_nan (of_bits binary32 n) (sym (nan_bits_is binary32 n) ∙ nan_bits_above binary32 n ∙ lt-ltb 0x7F80_0000 (n % 0x8000_0000) h)

pub no-nan-bits : (n : ℕ) → n % 0x8000_0000 ≤ 0x7F80_0000 → T (not (nan_bits binary32 n))
no-nan-bits n h = rw (nan_bits_above binary32 n ∙ le-ltb 0x7F80_0000 (n % 0x8000_0000) h) tt
