-- What a remove that is not barred has in the tables, and how it keeps the promise.
use Rattle.std.specs.Prelude.{ℕ, ◌+◌, ◌*◌, ◌≤◌, ◌≡◌, true, List, [], length, replicate}
use Rattle.std.proofs.Math.Path.{refl, sym}
use Rattle.std.proofs.Common.{◌∙◌, arith}
use Rattle.std.proofs.lemmas.List.Edits.{sets}
use Rattle.squares.specs.declared.shape.Shape.{Shape}
use Rattle.squares.specs.declared.shape.Rect.{Rect}
use Rattle.squares.specs.Refusals.{first}
use Rattle.squares.specs.RefusalLaws.{clear}
use Rattle.std.specs.declared.result.Result.TheVariants.{Ok, Err}
use Rattle.squares.specs.declared.refusal.Refusal.{Refusal}
use Rattle.model.specs.Answers.{numbers}
use Rattle.model.specs.Model.{removing, meaning}
use Rattle.tables.specs.Tables.{Tables, tables, tally, shape_of, car_room, rect_of, stands}
use Rattle.tables.specs.Rows.{RowThere}
use Rattle.tables.specs.RowLaws.{row-in}
use Rattle.tables.specs.RecordLaws.{stands-known}
use Rattle.tables.specs.Steps.{without_zone}
use Rattle.tables.specs.Lent.{both}
use Rattle.rosters.specs.Rosters.{row_cleared}
use Rattle.entries.specs.Drops.{in_use, DropRoom, Drops}
use Rattle.edits.specs.StepLaws.{removed-is}
use Rattle.promises.specs.Promise.{means, Keeps}
use Rattle.promises.specs.Events.{removed}
use Rattle.promises.specs.PromiseLaws.{keeps-done}
use Rattle.promises.specs.StandingLaws.{There}

module _ {t : Tables} {z : ℕ} (h : There t z) where
  pub record-there : 4 * z + 4 ≤ length t.records.zones
  record-there = omega (arith, h.size.lengths.zones, h.zone)

  pub row-there : RowThere t.derived.rosters z (car_room t)
  row-there = row-in t h.size z h.zone

  standing : stands t z ≡ true
  unfolding meaning
  standing = sym (stands-known t z) ∙ (clear (means t (removing z)).checks refl h.none).1.1.0

  pub keys-there : {s : Shape} → s ≡ shape_of t → DropRoom s z t.derived.starts t.derived.entries
  keys-there e = rw e (record {
    shape = h.size.shape;
    zone = omega (arith, h.zone, h.size.room.zones-few);
    places = h.size.lengths.starts;
    few = omega (arith, h.size.lengths.entries, h.size.room.entries-few);
  })

  pub remove-kept : {s : Shape} {o : Rect} {many : ℕ} → s ≡ shape_of t → o ≡ rect_of t z → many ≡ car_room t → {w b e r n : List ℕ} → w ≡ without_zone t.records.zones z → Drops s o z (in_use t.derived.starts) t.derived.starts b t.derived.entries e → r ≡ row_cleared t.derived.rosters z many → n ≡ sets t.derived.tallies (z * tally) (replicate tally 0) → Keeps (both t (tables t.records.head w t.records.cars t.records.spots b e r n)) (removed z (Ok (tt {0})))
  unfolding meaning first
  remove-kept shape rect room {w} {b} {e} {r} {n} ew d er en = keeps-done t (removing z) _ _ (numbers []) h.none refl (λ any sound. (refl, (refl, rw (ew, er, en, room) (removed-is t sound z h.zone standing b e (rw (shape, rect) at d)))))
