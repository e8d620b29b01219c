-- Whether a position is on the map of a town, and its column and row. Definitions only.
use Rattle.std.specs.Prelude.{ℕ, Bool, ◌&&◌}
use Rattle.squares.specs.declared.shape.Shape.{Shape}
use Rattle.squares.specs.Shape.{width, height}
use Rattle.position.specs.Cell.{on_map, cell_of}
use Rattle.position.specs.declared.Position.{Position}

-- a position is on the map of a town
unfoldable pub on_town : Shape → Position → Bool
on_town s p = on_map (width s) p.x && on_map (height s) p.y

-- its column and its row there
unfoldable pub column_of : Shape → Position → ℕ
column_of s p = cell_of (width s) p.x

unfoldable pub row_of : Shape → Position → ℕ
row_of s p = cell_of (height s) p.y
