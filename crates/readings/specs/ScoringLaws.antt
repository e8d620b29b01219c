-- How a scoring keeps the promise: refused by 3 or 10, or by the climb from the position's cell.
use Rattle.std.specs.Prelude.{◌≡◌, true, false}
use Rattle.std.proofs.Math.Path.{refl, subst}
use Rattle.std.proofs.Common.{sym, arith}
use mathlib.Core.List.{[], ◌∷◌}
use Rattle.std.specs.declared.option.Option.{Option}
use Rattle.std.specs.declared.option.Option.TheVariants.{None, Some}
use Rattle.std.specs.declared.result.Result.TheVariants.{Ok, Err}
use Rattle.order.specs.Sums.{bit}
use Rattle.squares.specs.declared.refusal.Refusal.{Refusal}
use Rattle.squares.specs.declared.shape.Shape.{Shape}
use Rattle.squares.specs.declared.shape.Cell.{Cell}
use Rattle.squares.specs.Refusals.{first, accept}
use Rattle.squares.specs.RefusalLaws.{stops}
use Rattle.position.specs.declared.Position.{Position}
use Rattle.position.specs.Answer.{on_town, column_of, row_of}
use Rattle.position.specs.Spots.{spot_on}
use Rattle.model.specs.declared.answers.Scoring.{Scoring}
use Rattle.model.specs.Answers.{Values, numbers}
use Rattle.model.specs.Model.{ask_scoring, climb, meaning}
use Rattle.model.specs.ScoringLaws.{some_to}
use Rattle.tables.specs.Tables.{Tables, shape_of}
use Rattle.tables.specs.Check.{sized}
use Rattle.tables.specs.CheckLaws.{sized→}
use Rattle.tables.specs.Lent.{both}
use Rattle.promises.specs.Promise.{means, Keeps}
use Rattle.promises.specs.Events.{event, scoring_told}
use Rattle.promises.specs.PromiseLaws.{keeps-refused, keeps-done}
use Rattle.lookup.specs.Looks.{listed_on, Climbs}
use Rattle.lookup.specs.ClimbLaws.{climb-sound}
use Rattle.lookup.specs.SpotLaws.{spot-off, spot_on_lem}

module _ (t : Tables) (p : Position) where
  pub scoring-unsized : sized t ≡ false → Keeps (both t t) (scoring_told p (Err Refusal.Tables))
  unfolding meaning
  scoring-unsized e = keeps-refused t (ask_scoring p) _ 3 (λ (z : 3 ≡ 0). omega arith) (stops 0 (means t (ask_scoring p)).checks e) refl

  module _ (own : sized t ≡ true) {s : Shape} {spot : Option Cell} (shape : s ≡ shape_of t) (at : spot ≡ spot_on s p) where
    pub scoring-off : spot ≡ None → Keeps (both t t) (scoring_told p (Err Refusal.OffMap))
    unfolding meaning
    scoring-off e = keeps-refused t (ask_scoring p) _ 10 (λ (z : 10 ≡ 0). omega arith) (stops 1 (means t (ask_scoring p)).checks (own, spot-off t p (sized→ t own) shape at e)) refl

    module _ {cell : Cell} (e : spot ≡ Some cell) where
      on-cell : (on_town (shape_of t) p ≡ true) × (column_of (shape_of t) p ≡ cell.x) × (row_of (shape_of t) p ≡ cell.y)
      on-cell = spot_on_lem t p (sized→ t own) shape at cell e

      pub scoring-kept : (r : Scoring) → Climbs s cell.x cell.y t.derived.starts r → Keeps (both t t) (scoring_told p (Ok r))
      unfolding meaning first
      scoring-kept r k =
          let marks = listed_on (shape_of t) (column_of (shape_of t) p) (row_of (shape_of t) p) t.derived.starts in
          let told = rw (shape, ← on-cell.1, ← on-cell.2) at k in
          subst (λ (a : Values). Keeps (both t t) (event (ask_scoring p) [] (accept a))) (sym told)
          (keeps-done t (ask_scoring p) _ t (numbers (bit (some_to marks (shape_of t).k) ∷ climb marks (shape_of t).k ∷ [])) (sym (stops 2 (means t (ask_scoring p)).checks (own, (on-cell.0, tt)))) refl
          (λ any sound. (refl, (rw ((climb-sound sound p).0, (climb-sound sound p).1), refl))))
