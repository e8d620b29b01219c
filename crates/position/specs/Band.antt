-- The floats of a stretch of cells on a side. Definitions only.
use Rattle.std.specs.Prelude.{ℕ, ◌+◌, ◌<◌, ◌≤◌, Bool, ◌&&◌, ◌||◌, cond, eqb, pos, Float}
use Rattle.std.specs.Float.{binary32}
use Rattle.std.specs.Float.Ieee.{of_int, le, lt, eq}
use Rattle.squares.specs.declared.shape.Shape.{Shape}
use Rattle.squares.specs.declared.shape.Rect.{Rect}
use Rattle.squares.specs.Shape.{width, height}
use Rattle.position.specs.declared.Position.{Position}
use Rattle.position.specs.declared.band.Band.{Band}

-- the w cells from a on, of a side of a town
pub record Stretch (a w side : ℕ) : Type 0 where
  pub some : 0 < w
  pub within : a + w ≤ side
  pub small : side ≤ 256

-- a whole number as a float
abbrev pub float : ℕ → Float
float n = of_int binary32 (pos n)

-- their floats: the wall is among them where they reach it
abbrev pub band_of : ℕ → ℕ → ℕ → Band
band_of a w side = record { low = float a; end = float (a + w); wall = float (cond (eqb (a + w) side) side a) }

-- those of a rectangle's columns and of its rows
unfoldable pub columns_of : Shape → Rect → Band
columns_of s r = band_of r.a r.w (width s)

unfoldable pub rows_of : Shape → Rect → Band
rows_of s r = band_of r.b r.h (height s)

-- a float is one of a band
abbrev pub in_band : Band → Float → Bool
in_band b x = le b.low x && (lt x b.end || eq x b.wall)

-- a position's floats are of two bands
unfoldable pub in_bands : Band → Band → Position → Bool
in_bands columns rows p = in_band columns p.x && in_band rows p.y
