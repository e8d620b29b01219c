-- What a search that is not barred has, and how it keeps the promise.
use Rattle.std.specs.Prelude.{ℕ, ◌+◌, ◌≤◌, ◌≡◌, true, length}
use Rattle.std.proofs.Math.Path.{refl, subst}
use mathlib.Core.List.{List, [], ◌∷◌}
use Rattle.std.proofs.Common.{leb-true}
use Rattle.std.specs.declared.option.Option.{Option}
use Rattle.std.specs.declared.option.Option.TheVariants.{None, Some}
use Rattle.std.specs.declared.result.Result.TheVariants.{Ok}
use Rattle.order.specs.BufferLaws.{Front}
use Rattle.order.specs.TestLaws.{true-not-false}
use Rattle.squares.specs.declared.shape.Shape.{Shape}
use Rattle.squares.specs.declared.shape.Cell.{Cell}
use Rattle.squares.specs.Squares.{squares}
use Rattle.squares.specs.Leaves.{OnMap}
use Rattle.squares.specs.Refusals.{first}
use Rattle.squares.specs.RefusalLaws.{clear}
use Rattle.position.specs.declared.Position.{Position}
use Rattle.position.specs.Answer.{on_town, column_of, row_of}
use Rattle.position.specs.Spots.{spot_on}
use Rattle.position.specs.Laws.{column-below, row_below}
use Rattle.model.specs.Answers.{numbers, searched_is}
use Rattle.model.specs.Model.{searching, zones_at, meaning}
use Rattle.tables.specs.Tables.{Tables, shape_of, zone_room, town_of, zone_holds}
use Rattle.tables.specs.Sizes.{Sized}
use Rattle.tables.specs.CheckLaws.{sized→}
use Rattle.tables.specs.Sound.{Sound}
use Rattle.tables.specs.Lent.{both}
use Rattle.promises.specs.Promise.{means, bars, Keeps}
use Rattle.promises.specs.Events.{event}
use Rattle.promises.specs.PromiseLaws.{keeps-done}
use Rattle.model.specs.declared.answers.Looked.{Looked}
use Rattle.lookup.specs.Looks.{Looks}
use Rattle.lookup.specs.LookLaws.{looked-holds}
use Rattle.lookup.specs.SpotLaws.{spot-off, spot_on_lem, spot-asks}

pub record Searchable (t : Tables) (p : Position) (b : List ℕ) : Type 0 where
  pub none : bars t (searching p b) ≡ 0
  pub size : Sized t
  pub town : on_town (shape_of t) p ≡ true
  pub enough : zone_room t ≤ length b

pub searchable : (t : Tables) (p : Position) (b : List ℕ) → bars t (searching p b) ≡ 0 → Searchable t p b
unfolding meaning
searchable t p b none =
    let h = clear (means t (searching p b)).checks refl none in
    record { none = none; size = sized→ t h.0; town = h.1.0; enough = leb-true (zone_room t) (length b) h.1.1.0 }

module _ {t : Tables} {p : Position} {b : List ℕ} (ok : Searchable t p b) {s : Shape} {spot : Option Cell} (shape : s ≡ shape_of t) (at : spot ≡ spot_on s p) where
  pub search-on : spot ≡ None → ⊥
  search-on e = true-not-false _ ok.town (spot-off t p ok.size shape at e)

  module _ {cell : Cell} (e : spot ≡ Some cell) where
    on-cell : (on_town (shape_of t) p ≡ true) × (column_of (shape_of t) p ≡ cell.x) × (row_of (shape_of t) p ≡ cell.y)
    on-cell = spot_on_lem t p ok.size shape at cell e

    pub search-asks : OnMap s cell.x cell.y × (length t.derived.starts ≡ squares s + 1)
    search-asks = spot-asks t p ok.size shape at cell e

    pub search-kept : {b' : List ℕ} {r : Looked} → Looks s cell.x cell.y t.derived.starts t.derived.entries b b' r → Keeps (both t t) (event (searching p b) (b' ∷ []) (searched_is (Ok (record { squares = r.squares; zones = r.zones }))))
    unfolding meaning first zone_holds
    search-kept {b'} {r} l = keeps-done t (searching p b) _ t (numbers (r.squares ∷ r.zones ∷ [])) ok.none refl
        (λ any sound. (refl, (rw (l.squares, shape, (found sound).count, (found sound).written), refl)))
      where
        found : Sound t → Front b b' r.zones (zones_at (town_of t) p)
        found sound =
            let h = rw (shape, ← on-cell.1, ← on-cell.2) at l in
            subst (λ (k : List ℕ). Front b b' r.zones k) (looked-holds sound (column_of (shape_of t) p) (row_of (shape_of t) p) (column-below (shape_of t) p ok.size.shape) (row_below (shape_of t) p ok.size.shape) (length b) ok.enough) h.found
