-- What a report on its way asks, and how it keeps the promise.
use Rattle.std.specs.Prelude.{ℕ, ◌+◌, ◌*◌, ◌<◌, ◌≤◌, ◌≡◌, List, [], ◌∷◌, Float, length, take, set}
use Rattle.std.proofs.Math.Path.{refl}
use Rattle.std.proofs.Common.{arith}
use Rattle.std.specs.declared.result.Result.TheVariants.{Ok}
use Rattle.order.specs.BufferLaws.{front-shown}
use Rattle.squares.specs.declared.shape.Shape.{Shape}
use Rattle.squares.specs.Squares.{squares}
use Rattle.squares.specs.Leaves.{OnMap}
use Rattle.squares.specs.Refusals.{first}
use Rattle.position.specs.declared.Position.{Position}
use Rattle.model.specs.Answers.{numbers, reported_is}
use Rattle.model.specs.Model.{reporting, car_at, meaning}
use Rattle.tables.specs.Tables.{Tables, tables, shape_of, car_room, zone_holds, roster_has}
use Rattle.tables.specs.Sound.{Sound}
use Rattle.tables.specs.Steps.{with_spot, step}
use Rattle.tables.specs.Lent.{both}
use Rattle.promises.specs.Promise.{Keeps}
use Rattle.promises.specs.Events.{event}
use Rattle.promises.specs.PromiseLaws.{keeps-done}
use Rattle.rosters.specs.Rosters.{stamped}
use Rattle.tallies.specs.Counts.{moved}
use Rattle.edits.specs.StampLaws.{reported-is}
use Rattle.model.specs.declared.answers.Crossed.{Crossed}
use Rattle.lookup.specs.Looks.{Sees}
use Rattle.lookup.specs.SpotLaws.{look-asks}
use Rattle.cars.specs.Admits.{Reportable}
use Rattle.cars.specs.SeeLaws.{Moves, sees-sound}

module _ {t : Tables} {c g : ℕ} {p : Position} {x y : ℕ} {e l : List ℕ} (ok : Reportable t c g p x y e l) where
  -- the car's record and its position are there
  pub car-there : c < length t.records.cars
  car-there = omega (arith, ok.car, ok.size.lengths.cars)

  pub spot-there : 2 * c + 2 ≤ length t.records.spots
  spot-there = omega (arith, ok.car, ok.size.lengths.spots)

  module _ {s : Shape} (shape : s ≡ shape_of t) where
    pub see-asks : OnMap s x y × ((length t.derived.starts ≡ squares s + 1) × ((c < length t.records.cars) × (2 * c + 2 ≤ length t.records.spots)))
    see-asks = let at = look-asks t p ok.size in rw (shape, ← ok.column, ← ok.row) (at.0, (at.1, (car-there, spot-there)))

    module _ {e' l' : List ℕ} {r : Crossed} (h : Sees s t.records.zones t.records.cars t.records.spots t.derived.starts t.derived.entries c x y e e' l l' r) where
      moves : Sound t → Moves t c p e e' l l' r
      moves sound = sees-sound sound c p e l ok.room_in ok.room_out (rw (shape, ← ok.column, ← ok.row) at h)

      module _ {cars' rosters' rosters'' tallies' tallies'' : List ℕ} {spots' : List Float} {many : ℕ} (room : many ≡ car_room t) (came : rosters' ≡ stamped t.derived.rosters (take r.entered e') many c 1) (gone : rosters'' ≡ stamped rosters' (take r.left l') many c 0) (more : tallies' ≡ moved t.derived.tallies (take r.entered e') g 1) (fewer : tallies'' ≡ moved tallies' (take r.left l') g 4294967295) (spot : spots' ≡ with_spot t.records.spots c p) (car : cars' ≡ set t.records.cars c (g + 1)) where
        abbrev after : Tables
        after = tables t.records.head t.records.zones cars' spots' t.derived.starts t.derived.entries rosters'' tallies''

        steps : (sound : Sound t) → Moves t c p e e' l l' r → after ≡ step (car_at c (record { position = p; team = g })) t
        unfolding zone_holds roster_has
        steps sound k = rw (car, spot, gone, came, fewer, more, room) (reported-is t sound c ok.car (record { position = p; team = g }) ok.team (take r.entered e') (take r.left l') (front-shown k.came) (front-shown k.gone))

        pub report-kept : Keeps (both t after) (event (reporting c g p e l) (e' ∷ l' ∷ []) (reported_is (Ok (record { squares = r.squares; entered = r.entered; left = r.left }))))
        unfolding meaning first
        report-kept = keeps-done t (reporting c g p e l) _ after (numbers (r.squares ∷ r.entered ∷ r.left ∷ [])) ok.none refl
            (λ any sound.
            let k = moves sound in
            (refl, (rw (k.looks, k.came.count, k.came.written, k.gone.count, k.gone.written), steps sound k)))
