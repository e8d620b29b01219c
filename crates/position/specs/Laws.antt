-- The laws that callers go by: none says what being on the map means, or what a cell is. Assumes nothing.
use Rattle.std.specs.Prelude.{ℕ, ◌/◌, ◌^◌, ◌-◌, ◌<◌, ◌≡◌, refl, Bool, true, false, ◌&&◌, cond, Float}
use Rattle.std.proofs.Math.Nat.{min-le_right}
use Rattle.std.proofs.Common.{ap, lt_of_le_of_lt, mul-pos, arith, pow_pos}
use Rattle.std.specs.Float.{binary32}
use Rattle.std.specs.Float.Ieee.{to_bits}
use Rattle.std.specs.declared.option.Option.{Option}
use Rattle.std.specs.declared.option.Option.TheVariants.{None, Some}
use Rattle.squares.specs.declared.shape.Shape.{Shape}
use Rattle.squares.specs.declared.shape.Cell.{Cell}
use Rattle.squares.specs.Shape.{width, height, allowed}
use Rattle.squares.specs.Bounds.{Allowed}
use Rattle.position.specs.Cell.{whole, cell_of}
use Rattle.position.specs.Answer.{on_town, column_of, row_of}
use Rattle.position.specs.Spots.{spot_on, cell_at}
use Rattle.position.specs.declared.Position.{Position}

-- ---- a position's cell is a cell of the town

pub cell_below : (side : ℕ) (x : Float) → 0 < side → cell_of side x < side
unfolding cell_of
cell_below side x h = let last : side - 1 < side = omega arith in lt_of_le_of_lt (min-le_right (whole (to_bits binary32 x) / 2 ^ 149) (side - 1)) last

pub column-below : (s : Shape) (p : Position) → Allowed s → column_of s p < width s
unfolding column_of
column-below s p h = cell_below (width s) p.x (mul-pos h.columns (pow_pos s.k))

pub row_below : (s : Shape) (p : Position) → Allowed s → row_of s p < height s
unfolding row_of
row_below s p h = cell_below (height s) p.y (mul-pos h.rows (pow_pos s.k))

-- ---- what a position's answer tells, of an allowed shape

pub off-town : (s : Shape) (p : Position) → allowed s ≡ true → spot_on s p ≡ None → on_town s p ≡ false
unfolding spot_on
off-town s p e = go (on_town s p) e
  where
    go : (t : Bool) → allowed s ≡ true → cond (allowed s && t) (Some (cell_at (column_of s p) (row_of s p))) None ≡ None → t ≡ false
    go true a h = let g = rw a at h in cc
    go false a h = refl

pub on-town : (s : Shape) (p : Position) (cell : Cell) → allowed s ≡ true → spot_on s p ≡ Some cell → (on_town s p ≡ true) × (column_of s p ≡ cell.x) × (row_of s p ≡ cell.y)
unfolding spot_on
on-town s p cell e = go (on_town s p) e
  where
    go : (t : Bool) → allowed s ≡ true → cond (allowed s && t) (Some (cell_at (column_of s p) (row_of s p))) None ≡ Some cell → (t ≡ true) × (column_of s p ≡ cell.x) × (row_of s p ≡ cell.y)
    go true a h =
        let g = rw a at h in
        let same : cell_at (column_of s p) (row_of s p) ≡ cell = cc in
        (refl, ap (λ (q : Cell). q.x) same, ap (λ (q : Cell). q.y) same)
    go false a h = let g = rw a at h in (cc, cc, cc)
