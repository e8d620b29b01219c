-- A position's answer is made of the two coordinates' answers. Assumes nothing.
use mathlib.Core.Path.{◌≡◌, refl}
use mathlib.Core.Bool.{Bool, true, false, ◌&&◌, cond}
use Prim.Native.Nat.{ℕ}
use Rattle.std.specs.declared.option.Option.{Option}
use Rattle.std.specs.declared.option.Option.TheVariants.{None, Some}
use Rattle.squares.specs.declared.shape.Shape.{Shape}
use Rattle.squares.specs.declared.shape.Cell.{Cell}
use Rattle.squares.specs.Shape.{width, height, allowed}
use Rattle.position.specs.Cell.{on_map, cell_of}
use Rattle.position.specs.Answer.{on_town, column_of, row_of}
use Rattle.position.specs.Spots.{coordinate_on, spot_on, cell_at}
use Rattle.position.specs.declared.Position.{Position}

abbrev pub pair : Option ℕ → Option ℕ → Option Cell
pair None y = None
pair (Some column) None = None
pair (Some column) (Some row) = Some (cell_at column row)

pub by-pair : (s : Shape) (p : Position) → allowed s ≡ true → spot_on s p ≡ pair (coordinate_on (width s) p.x) (coordinate_on (height s) p.y)
unfolding spot_on on_town column_of row_of coordinate_on
by-pair s p e = rw e (go (on_map (width s) p.x) (on_map (height s) p.y))
  where
    go : (a b : Bool)
        → cond (a && b) (Some (cell_at (cell_of (width s) p.x) (cell_of (height s) p.y))) None
        ≡ pair (cond a (Some (cell_of (width s) p.x)) None) (cond b (Some (cell_of (height s) p.y)) None)
    go true true = refl
    go true false = refl
    go false b = refl

-- a shape beyond the bounds has no map
pub no-town : (s : Shape) (p : Position) → allowed s ≡ false → spot_on s p ≡ None
unfolding spot_on
no-town s p e = rw e
