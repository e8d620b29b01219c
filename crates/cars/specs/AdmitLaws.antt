-- Laws of what a report is admitted as: by the test that fails, and what the call has either way.
use Prim.Native.Nat.{ℕ, zero, suc}
use Rattle.std.proofs.Math.Path.{◌≡◌, refl, ap, sym}
use Rattle.std.proofs.Common.{◌∙◌, arith}
use Rattle.std.specs.Prelude.{Bool, true, false, List, [], ◌∷◌, length}
use Rattle.std.specs.declared.result.Result.TheVariants.{Ok, Err}
use borrow.Author.Tests.{leb-true, ltb-true}
use Rattle.squares.specs.declared.refusal.Refusal.{Refusal}
use Rattle.squares.specs.declared.shape.Cell.{Cell}
use Rattle.squares.specs.Refusals.{Bar, unless, first, number_of}
use Rattle.squares.specs.RefusalLaws.{Stops, number_at, stops, clear, refusal_at, some-number}
use Rattle.position.specs.declared.Position.{Position}
use Rattle.position.specs.Answer.{column_of, row_of}
use Rattle.position.specs.Spots.{cell_at}
use Rattle.model.specs.TeamLaws.{teamed-few}
use Rattle.model.specs.Answers.{reported_is}
use Rattle.model.specs.Model.{reporting, meaning}
use Rattle.tables.specs.Tables.{Tables, shape_of, zone_room, car_room, car_in}
use Rattle.tables.specs.CheckLaws.{sized→}
use Rattle.tables.specs.Lent.{both}
use Rattle.promises.specs.Promise.{means, bars, Keeps}
use Rattle.promises.specs.Events.{event}
use Rattle.promises.specs.PromiseLaws.{keeps-refused}
use Rattle.cars.specs.Admits.{refused_or_at, admitted, Reportable}

-- each number is a refusal's
abbrev Told : List Bar → Type 0
Told [] = Unit {0}
Told (x ∷ l) = (number_of (refusal_at x.1) ≡ x.1) × Told l

told-first : (l : List Bar) → Told l → (n : ℕ) → first l ≡ suc n → number_of (refusal_at (suc n)) ≡ suc n
unfolding first
told-first [] h n e = absurd (omega (arith, e))
told-first (x ∷ l) h n e = go x.0 (told-first l h.1 n) e
  where
    go : (b : Bool) → (first l ≡ suc n → number_of (refusal_at (suc n)) ≡ suc n) → unless b x.1 (first l) ≡ suc n → number_of (refusal_at (suc n)) ≡ suc n
    go true f e = f e
    go false f e = rw e at h.0

module _ (t : Tables) (c g : ℕ) (p : Position) (e l : List ℕ) where
  -- refused by test i, or past the last one at its cell
  pub admits : (i : ℕ) → Stops i (means t (reporting c g p e l)).checks → refused_or_at (number_at i (means t (reporting c g p e l)).checks) (column_of (shape_of t) p) (row_of (shape_of t) p) ≡ admitted t c g p e l
  unfolding admitted
  admits i h = ap (λ n. refused_or_at n (column_of (shape_of t) p) (row_of (shape_of t) p)) (stops i (means t (reporting c g p e l)).checks h)

  -- refused
  pub not-admitted : {r : Refusal} → Err r ≡ admitted t c g p e l → Keeps (both t t) (event (reporting c g p e l) (e ∷ l ∷ []) (reported_is (Err r)))
  unfolding admitted meaning
  not-admitted {r} = go (bars t (reporting c g p e l)) refl
    where
      go : (m : ℕ) → bars t (reporting c g p e l) ≡ m → Err r ≡ refused_or_at m (column_of (shape_of t) p) (row_of (shape_of t) p) → Keeps (both t t) (event (reporting c g p e l) (e ∷ l ∷ []) (reported_is (Err r)))
      go zero q h = cc
      go (suc m) q h =
          let same : r ≡ refusal_at (suc m) = cc in
          let told = told-first (means t (reporting c g p e l)).checks (refl, (refl, (refl, (refl, (refl, (refl, tt)))))) m q in
          keeps-refused t (reporting c g p e l) _ (number_of r) (some-number r) (ap number_of same ∙ told ∙ sym q) refl

  -- or on its way
  pub reportable : {cell : Cell} → Ok cell ≡ admitted t c g p e l → Reportable t c g p cell.x cell.y e l
  unfolding admitted meaning
  reportable {cell} = go (bars t (reporting c g p e l)) refl
    where
      go : (n : ℕ) → bars t (reporting c g p e l) ≡ n → Ok cell ≡ refused_or_at n (column_of (shape_of t) p) (row_of (shape_of t) p) → Reportable t c g p cell.x cell.y e l
      go zero none q =
          let h = clear (means t (reporting c g p e l)).checks refl none in
          let at : cell ≡ cell_at (column_of (shape_of t) p) (row_of (shape_of t) p) = cc in
          record {
            none = none;
            size = sized→ t h.0;
            car = ltb-true c (car_room t) h.1.0;
            team = h.1.1.0;
            few = teamed-few (car_in t c) g h.1.1.0;
            column = sym (ap (λ (k : Cell). k.x) at);
            row = sym (ap (λ (k : Cell). k.y) at);
            room_in = leb-true (zone_room t) (length e) h.1.1.1.1.0;
            room_out = leb-true (zone_room t) (length l) h.1.1.1.1.1.0;
          }
      go (suc n) none q = cc
