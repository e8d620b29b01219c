-- What an open that is not barred has, and how it keeps the promise.
use Rattle.std.specs.Prelude.{ℕ, ◌≡◌, List, [], Float, length, replicate}
use Rattle.std.proofs.Math.Path.{refl}
use Rattle.std.specs.Float.{binary32}
use Rattle.std.specs.Float.Ieee.{of_bits}
use Rattle.squares.specs.Refusals.{first}
use Rattle.squares.specs.RefusalLaws.{clear}
use Rattle.std.specs.declared.result.Result.TheVariants.{Ok, Err}
use Rattle.squares.specs.declared.refusal.Refusal.{Refusal}
use Rattle.model.specs.Answers.{numbers}
use Rattle.model.specs.Model.{opening, meaning}
use Rattle.model.specs.declared.opening.Opening.{Opening}
use Rattle.tables.specs.Tables.{Tables, tables, head_of}
use Rattle.tables.specs.Sizes.{Long}
use Rattle.tables.specs.CheckLaws.{long→}
use Rattle.tables.specs.Derived.{free}
use Rattle.tables.specs.Lent.{both}
use Rattle.promises.specs.Promise.{means, bars, Keeps}
use Rattle.promises.specs.Events.{opened}
use Rattle.promises.specs.PromiseLaws.{keeps-done}

module _ (o : Opening) (t : Tables) (none : bars t (opening o) ≡ 0) where
  -- the tables have the lengths that the opening calls for
  pub open-long : Long o.shape o.zones o.cars o.entries t
  unfolding meaning
  open-long = long→ o.shape o.zones o.cars o.entries t (clear (means t (opening o)).checks refl none).1.1.0

  -- each table set to its one number
  pub open_kept : {h z c : List ℕ} {p : List Float} {a e r n : List ℕ}
      → h ≡ head_of o.shape o.zones o.cars o.entries
      → z ≡ replicate (length t.records.zones) 0 → c ≡ replicate (length t.records.cars) 0 → p ≡ replicate (length t.records.spots) (of_bits binary32 0) → a ≡ replicate (length t.derived.starts) 0 → e ≡ replicate (length t.derived.entries) free → r ≡ replicate (length t.derived.rosters) 0 → n ≡ replicate (length t.derived.tallies) 0
      → Keeps (both t (tables h z c p a e r n)) (opened o (Ok (tt {0})))
  unfolding meaning first
  open_kept {h} {z} {c} {p} {a} {e} {r} {n} eh ez ec ep ea ee er en =
      let l = open-long in
      keeps-done t (opening o) _ _ (numbers []) none refl
      (λ any trust. (refl, (refl, rw (eh, ez, ec, ep, ea, ee, er, en, l.zones, l.cars, l.spots, l.starts, l.entries, l.rosters, l.tallies))))
