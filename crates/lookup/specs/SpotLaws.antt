-- Where a position is found, on tables that pass check 3: off the map, or at its column and row.
use Rattle.std.specs.Prelude.{◌+◌, ◌≡◌, refl, true, false, length, ok_or}
use Rattle.std.proofs.Common.{ap, sym, ◌∙◌}
use Rattle.std.specs.declared.option.Option.{Option}
use Rattle.std.specs.declared.option.Option.TheVariants.{None, Some}
use Rattle.std.specs.declared.result.Result.{Result}
use Rattle.std.specs.declared.result.Result.TheVariants.{Ok, Err}
use Rattle.squares.specs.declared.refusal.Refusal.{Refusal}
use Rattle.squares.specs.declared.shape.Shape.{Shape}
use Rattle.squares.specs.declared.shape.Cell.{Cell}
use Rattle.squares.specs.Shape.{allowed}
use Rattle.squares.specs.Squares.{squares}
use Rattle.squares.specs.Leaves.{OnMap}
use Rattle.squares.specs.ShapeLaws.{→allowed}
use Rattle.position.specs.declared.Position.{Position}
use Rattle.position.specs.Answer.{on_town, column_of, row_of}
use Rattle.position.specs.Spots.{spot_on}
use Rattle.position.specs.Laws.{column-below, row_below, off-town, on-town}
use Rattle.tables.specs.Tables.{Tables, shape_of}
use Rattle.tables.specs.Sizes.{Sized}

-- what looking into the squares of a position's cell asks; of the cell at which it is found, below
pub look-asks : (t : Tables) (p : Position) → Sized t → OnMap (shape_of t) (column_of (shape_of t) p) (row_of (shape_of t) p) × (length t.derived.starts ≡ squares (shape_of t) + 1)
look-asks t p size = (record { shape = size.shape; column = column-below (shape_of t) p size.shape; row = row_below (shape_of t) p size.shape }, size.lengths.starts)

module _ (t : Tables) (p : Position) (size : Sized t) {s : Shape} {spot : Option Cell} (shape : s ≡ shape_of t) (at : spot ≡ spot_on s p) where
  within : allowed (shape_of t) ≡ true
  within = →allowed (shape_of t) size.shape

  spot_is : spot_on (shape_of t) p ≡ spot
  spot_is = ap (λ (q : Shape). spot_on q p) (sym shape) ∙ sym at

  pub spot-off : spot ≡ None → on_town (shape_of t) p ≡ false
  spot-off e = off-town (shape_of t) p within (spot_is ∙ e)

  pub spot_on_lem : (cell : Cell) → spot ≡ Some cell → (on_town (shape_of t) p ≡ true) × (column_of (shape_of t) p ≡ cell.x) × (row_of (shape_of t) p ≡ cell.y)
  spot_on_lem cell e = on-town (shape_of t) p cell within (spot_is ∙ e)

  pub spot-asks : (cell : Cell) → spot ≡ Some cell → OnMap s cell.x cell.y × (length t.derived.starts ≡ squares s + 1)
  spot-asks cell e = let at-cell = spot_on_lem cell e in rw (shape, ← at-cell.1, ← at-cell.2) (look-asks t p size)

-- a cell that a call asks for: refused where there is none
pub not-located : (spot : Option Cell) {found : Result Cell Refusal} {r : Refusal} → found ≡ ok_or spot Refusal.OffMap → found ≡ Err r → (spot ≡ None) × (r ≡ Refusal.OffMap)
not-located None e q = (refl, cc)
not-located (Some cell) e q = (cc, cc)

pub located : (spot : Option Cell) {found : Result Cell Refusal} {cell : Cell} → found ≡ ok_or spot Refusal.OffMap → found ≡ Ok cell → spot ≡ Some cell
located None e q = cc
located (Some cell) e q = cc
