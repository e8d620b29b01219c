-- What a leave that is not barred has, and how it keeps the promise.
use Rattle.std.specs.Prelude.{ℕ, ◌+◌, ◌<◌, ◌≤◌, ◌≡◌, true, List, [], ◌∷◌, length, take, set}
use Rattle.std.proofs.Math.Path.{refl}
use Rattle.std.proofs.Common.{ap, sym, ◌∙◌, leb-true, ltb-true}
use Rattle.std.specs.declared.option.Option.{Option}
use Rattle.std.specs.declared.option.Option.TheVariants.{None, Some}
use Rattle.std.specs.declared.result.Result.TheVariants.{Ok}
use Rattle.order.specs.BufferLaws.{Front, front-shown}
use Rattle.order.specs.TestLaws.{true-not-false}
use Rattle.squares.specs.declared.shape.Shape.{Shape}
use Rattle.squares.specs.declared.shape.Cell.{Cell}
use Rattle.squares.specs.Squares.{squares}
use Rattle.squares.specs.Leaves.{OnMap}
use Rattle.squares.specs.Refusals.{first}
use Rattle.squares.specs.RefusalLaws.{clear, after as past-clear, enough}
use Rattle.position.specs.declared.Position.{Position}
use Rattle.position.specs.Answer.{on_town, column_of, row_of}
use Rattle.position.specs.Spots.{spot_on}
use Rattle.position.specs.Laws.{column-below, row_below}
use Rattle.model.specs.Answers.{numbers, left_is}
use Rattle.model.specs.Model.{leaving, ask_where, car_off, zones_of, meaning}
use Rattle.tables.specs.Tables.{Tables, tables, shape_of, zone_room, car_room, placed, spot_of, town_of, zone_holds, roster_has}
use Rattle.tables.specs.Sizes.{Sized}
use Rattle.tables.specs.CheckLaws.{sized→}
use Rattle.tables.specs.RecordLaws.{placed-known, car-in}
use Rattle.tables.specs.Slots.{slot_in}
use Rattle.tables.specs.Sound.{Sound}
use Rattle.tables.specs.Steps.{step}
use Rattle.tables.specs.Lent.{both}
use Rattle.promises.specs.Promise.{means, bars, Keeps}
use Rattle.promises.specs.Events.{event}
use Rattle.promises.specs.PromiseLaws.{keeps-done}
use Rattle.rosters.specs.Rosters.{stamped}
use Rattle.tallies.specs.Counts.{moved}
use Rattle.edits.specs.StampLaws.{departed-is}
use Rattle.model.specs.declared.answers.Looked.{Looked}
use Rattle.lookup.specs.Looks.{Looks}
use Rattle.lookup.specs.LookLaws.{looked-holds}
use Rattle.lookup.specs.SpotLaws.{spot-off, spot_on_lem, spot-asks}
use Rattle.cars.specs.SeeLaws.{front-is}

pub record Leavable (t : Tables) (c : ℕ) (b : List ℕ) : Type 0 where
  pub none : bars t (leaving c b) ≡ 0
  pub size : Sized t
  pub car : c < car_room t
  pub on-map : placed t c ≡ true
  pub enough : zone_room t ≤ length b

pub leavable : (t : Tables) (c : ℕ) (b : List ℕ) → bars t (leaving c b) ≡ 0 → Leavable t c b
unfolding meaning
leavable t c b none =
    let h = clear (means t (leaving c b)).checks refl none in
    record { none = none; size = sized→ t h.0; car = ltb-true c (car_room t) h.1.0; on-map = sym (placed-known t c) ∙ h.1.1.0; enough = leb-true (zone_room t) (length b) h.1.1.1.0 }

-- a car on the map, and room for the zones that it leaves
pub may-leave : (t : Tables) (c : ℕ) (b : List ℕ) {n : ℕ} → bars t (ask_where c) ≡ 0 → n ≡ zone_room t → n ≤ length b → Leavable t c b
unfolding meaning
may-leave t c b none many room = leavable t c b (sym (past-clear 1 (means t (ask_where c)).checks _ (clear (means t (ask_where c)).checks refl none) (enough many room, tt)))

module _ {t : Tables} {c : ℕ} {b : List ℕ} (ok : Leavable t c b) {s : Shape} {spot : Option Cell} {q : Position} (shape : s ≡ shape_of t) (stored : q ≡ spot_of t c) (at : spot ≡ spot_on s q) where
  where-is : spot ≡ spot_on s (spot_of t c)
  where-is = at ∙ ap (spot_on s) stored

  -- a placed car that is not on the map, which sound tables have not
  pub lost-kept : spot ≡ None → (t' : Tables) → Keeps (both t t') (event (leaving c b) (b ∷ []) (left_is (Ok (record { squares = 0; zones = 0 }))))
  unfolding meaning
  lost-kept e t' = keeps-done t (leaving c b) _ t' (numbers (0 ∷ 0 ∷ [])) ok.none refl
      (λ any sound. absurd (true-not-false _ (sound.cars c ok.on-map) (spot-off t (spot_of t c) ok.size shape where-is e)))

  module _ {cell : Cell} (e : spot ≡ Some cell) where
    stood : (on_town (shape_of t) (spot_of t c) ≡ true) × (column_of (shape_of t) (spot_of t c) ≡ cell.x) × (row_of (shape_of t) (spot_of t c) ≡ cell.y)
    stood = spot_on_lem t (spot_of t c) ok.size shape where-is cell e

    pub leave-asks : OnMap s cell.x cell.y × (length t.derived.starts ≡ squares s + 1)
    leave-asks = spot-asks t (spot_of t c) ok.size shape where-is cell e

    module _ {b' : List ℕ} {r : Looked} (h : Looks s cell.x cell.y t.derived.starts t.derived.entries b b' r) where
      found : Sound t → Front b b' r.zones (zones_of (town_of t) c)
      unfolding zone_holds
      found sound =
          let old = spot_of t c in
          let k = rw (shape, ← stood.1, ← stood.2) at h in
          rw (car-in t c ok.on-map) (front-is k.found (looked-holds sound (column_of (shape_of t) old) (row_of (shape_of t) old) (column-below (shape_of t) old ok.size.shape) (row_below (shape_of t) old ok.size.shape) (length b) ok.enough))

      module _ {cars' rosters' tallies' : List ℕ} {many : ℕ} (room : many ≡ car_room t) (car : cars' ≡ set t.records.cars c 0) (gone : rosters' ≡ stamped t.derived.rosters (take r.zones b') many c 0) {g : ℕ} (team : g ≡ slot_in t.records.cars c) (fewer : tallies' ≡ moved t.derived.tallies (take r.zones b') g 4294967295) where
        abbrev after : Tables
        after = tables t.records.head t.records.zones cars' t.records.spots t.derived.starts t.derived.entries rosters' tallies'

        steps : Sound t → after ≡ step (car_off c) t
        unfolding roster_has
        steps sound = rw (car, gone, fewer, room, team) (departed-is t sound c ok.car ok.on-map (take r.zones b') (front-shown (found sound)))

        pub leave-kept : Keeps (both t after) (event (leaving c b) (b' ∷ []) (left_is (Ok (record { squares = r.squares; zones = r.zones }))))
        unfolding meaning first
        leave-kept = keeps-done t (leaving c b) _ after (numbers (r.squares ∷ r.zones ∷ [])) ok.none refl
            (λ any sound. (refl, (rw (h.squares, shape, (found sound).count, (found sound).written), steps sound)))
