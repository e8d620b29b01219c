-- What the functions that find a cell answer.
use Rattle.std.specs.Prelude.{ℕ, ◌-◌, ◌<◌, ◌≤◌, ◌≡◌, ◌&&◌, cond, Float}
use Rattle.std.specs.declared.option.Option.{Option}
use Rattle.std.specs.declared.option.Option.TheVariants.{None, Some}
use Rattle.squares.specs.declared.shape.Shape.{Shape}
use Rattle.squares.specs.declared.shape.Cell.{Cell}
use Rattle.squares.specs.Shape.{allowed}
use Rattle.position.specs.Cell.{on_map, cell_of}
use Rattle.position.specs.Answer.{on_town, column_of, row_of}
use Rattle.position.specs.declared.Position.{Position}

-- a side of a town, in cells
pub record Side (side : ℕ) : Type 0 where
  pub some : 0 < side
  pub small : side ≤ 256

-- the digits of a number with exponent field e are shifted down by r: from 1 on to its floor, below 1 all out
pub record Down (e r : ℕ) : Type 0 where
  pub whole : 127 ≤ e → r ≡ 150 - e
  pub none : e < 127 → 24 ≤ r
  pub few : r < 32

-- a coordinate's answer, on a side
unfoldable pub coordinate_on : ℕ → Float → Option ℕ
coordinate_on side x = cond (on_map side x) (Some (cell_of side x)) None

-- a cell by its column and its row
abbrev pub cell_at : ℕ → ℕ → Cell
cell_at column row = record { x = column; y = row }

-- a position's answer; a shape beyond the bounds has no map
unfoldable pub spot_on : Shape → Position → Option Cell
spot_on s p = cond (allowed s && on_town s p) (Some (cell_at (column_of s p) (row_of s p))) None
