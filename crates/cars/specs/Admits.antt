-- What a report is admitted as: refused by its number, or on its way to its cell.
use Rattle.std.specs.Prelude.{ℕ, zero, suc, ◌<◌, ◌≤◌, ◌≡◌, true, List, length}
use Rattle.std.specs.declared.result.Result.{Result}
use Rattle.std.specs.declared.result.Result.TheVariants.{Ok, Err}
use Rattle.squares.specs.declared.refusal.Refusal.{Refusal}
use Rattle.squares.specs.declared.shape.Shape.{Shape}
use Rattle.squares.specs.declared.shape.Cell.{Cell}
use Rattle.squares.specs.RefusalLaws.{refusal_at}
use Rattle.position.specs.declared.Position.{Position}
use Rattle.position.specs.Spots.{cell_at}
use Rattle.position.specs.Answer.{column_of, row_of}
use Rattle.model.specs.Teams.{last_team}
use Rattle.model.specs.Model.{teamed, reporting}
use Rattle.tables.specs.Tables.{Tables, shape_of, zone_room, car_room, car_in}
use Rattle.tables.specs.Sizes.{Sized}
use Rattle.promises.specs.Promise.{bars}
use Rattle.model.specs.declared.answers.Crossed.{Crossed}
use Rattle.lookup.specs.Looks.{Sees}

-- a refusal by its number, or where there is none the cell (x, y)
abbrev pub refused_or_at : ℕ → ℕ → ℕ → Result Cell Refusal
refused_or_at zero x y = Ok (cell_at x y)
refused_or_at (suc n) x y = Err (refusal_at (suc n))

unfoldable pub admitted : Tables → ℕ → ℕ → Position → List ℕ → List ℕ → Result Cell Refusal
admitted t c g p e l = refused_or_at (bars t (reporting c g p e l)) (column_of (shape_of t) p) (row_of (shape_of t) p)

-- what a report that is not barred has, on its way to its cell (x, y)
pub record Reportable (t : Tables) (c g : ℕ) (p : Position) (x y : ℕ) (e l : List ℕ) : Type 0 where
  pub none : bars t (reporting c g p e l) ≡ 0
  pub size : Sized t
  pub car : c < car_room t
  pub team : teamed (car_in t c) g ≡ true
  pub few : g ≤ last_team
  pub column : column_of (shape_of t) p ≡ x
  pub row : row_of (shape_of t) p ≡ y
  pub room_in : zone_room t ≤ length e
  pub room_out : zone_room t ≤ length l

-- what car c sees on its way to the cell (x, y), on the tables
abbrev pub SeesIn : Shape → Tables → ℕ → ℕ → ℕ → List ℕ → List ℕ → List ℕ → List ℕ → Crossed → Type 0
SeesIn s t c x y e e' l l' r = Sees s t.records.zones t.records.cars t.records.spots t.derived.starts t.derived.entries c x y e e' l l' r
