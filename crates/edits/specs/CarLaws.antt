-- A car placed, moved and taken off the map: sound tables stay sound, and which rosters change.
use Rattle.std.specs.Prelude.{ℕ, ◌+◌, ◌*◌, ◌<◌, ◌≡◌, refl, true, false, List, eqb, Float, length, get_or, set}
use Rattle.std.proofs.Math.Path.{ap, sym}
use Rattle.std.proofs.Common.{◌∙◌, ⊎_elim, arith, length-set, eq-eqb, ne_eqb}
use Rattle.std.proofs.Math.Dec.{leb}
use Rattle.order.specs.Sums.{bit}
use Rattle.order.specs.TestLaws.{true-not-false, same-or-other}
use Rattle.position.specs.Answer.{on_town, column_of, row_of}
use Rattle.model.specs.Teams.{last_team}
use Rattle.model.specs.Model.{Car, Town, holds_car, drives_for, car_at, car_off}
use Rattle.tables.specs.Tables.{Tables, shape_of, zone_room, car_room, stands, zone_holds, placed_in, placed, team_in, spot_in, spot_of, town_of, roster_has, rect_of}
use Rattle.tables.specs.Sizes.{Sized}
use Rattle.tables.specs.Derived.{on}
use Rattle.tables.specs.Sound.{Sound}
use Rattle.tables.specs.Steps.{fresh, parked, with_spot, step}
use Rattle.tables.specs.RecordLaws.{roster-has, starts-fresh, entries-fresh}
use Rattle.tables.specs.CheckLaws.{size_of}
use Rattle.tables.specs.RowLaws.{roster-byte}
use Rattle.edits.specs.SpotLaws.{length-with-spot, spot-with, spot-with-other, placed-without, placed-other, team-with, team-other}
use Rattle.edits.specs.TownLaws.{town-car-at, town-car-off}
use Rattle.squares.specs.ShapeLaws.{fits→}
use Rattle.edits.specs.StepLaws.{fresh-sound, used-room}

-- ---- other cars and positions, as many

sized-parked : (t : Tables) (cars : List ℕ) (spots : List Float) → Sized t → length cars ≡ length t.records.cars → length spots ≡ length t.records.spots → Sized (parked t cars spots)
sized-parked t cars spots h e f =
    let l = h.lengths in
    record { shape = h.shape; room = h.room; lengths = record { head = l.head; zones = l.zones; cars = e ∙ l.cars; spots = f ∙ l.spots; starts = l.starts; entries = l.entries; rosters = l.rosters; tallies = l.tallies } }

-- sound tables stay sound where the cars then placed are on the map, each in one of the teams
parked-sound : (t : Tables) (cars : List ℕ) (spots : List Float) → Sound t → length cars ≡ length t.records.cars → length spots ≡ length t.records.spots → ((d : ℕ) → placed_in cars d ≡ true → (on_town (shape_of t) (spot_in spots d) ≡ true) × (leb (team_in cars d) last_team ≡ true)) → Sound (fresh (parked t cars spots))
unfolding on stands placed
parked-sound t cars spots sound e f places = fresh-sound (parked t cars spots) (sized-parked t cars spots (size_of sound) e f) (used-room t sound) (λ z q. fits→ (shape_of t) (rect_of t z) (sound.zones z q)) (λ d q. (places d q).0) (λ d q. (places d q).1)

-- ---- sound stays sound

module _ (t : Tables) (sound : Sound t) (c : ℕ) where
  kept : (mark d : ℕ) → (d ≡ c → ⊥) → placed_in (set t.records.cars c mark) d ≡ true → (on_town (shape_of t) (spot_in t.records.spots d) ≡ true) × (leb (team_in (set t.records.cars c mark) d) last_team ≡ true)
  unfolding placed
  kept mark d f e = let on = sym (placed-other t.records.cars c mark d f) ∙ e in (sound.cars d on, ap (λ (g : ℕ). leb g last_team) (team-other t.records.cars c mark d f) ∙ sound.teams d on)

  pub report-sound : (a : Car) → c < car_room t → on_town (shape_of t) a.position ≡ true → leb a.team last_team ≡ true → Sound (step (car_at c a) t)
  report-sound a h o g =
      let p = a.position in
      let mark = a.team + 1 in
      parked-sound t (set t.records.cars c mark) (with_spot t.records.spots c p) sound (length-set t.records.cars c mark) (length-with-spot t.records.spots c p) (λ d e. ⊎_elim
      (λ (q : d ≡ c). rw q (ap (on_town (shape_of t)) (spot-with t.records.spots c p (omega (arith, (size_of sound).lengths.spots))) ∙ o, ap (λ (n : ℕ). leb n last_team) (team-with t.records.cars c a.team (omega (arith, (size_of sound).lengths.cars))) ∙ g))
      (λ (f : d ≡ c → ⊥). let k = kept mark d f e in (ap (on_town (shape_of t)) (spot-with-other t.records.spots c p d f) ∙ k.0, k.1))
      (same-or-other d c))

  pub leave-sound : Sound (step (car_off c) t)
  leave-sound = parked-sound t (set t.records.cars c 0) t.records.spots sound (length-set t.records.cars c 0) refl (λ d e. ⊎_elim
      (λ (q : d ≡ c). absurd (true-not-false _ e (ap (placed_in (set t.records.cars c 0)) q ∙ placed-without t.records.cars c)))
      (λ (f : d ≡ c → ⊥). kept 0 d f e)
      (same-or-other d c))

-- ---- what a report and a leave keep

-- zones and square lists are as they were, and so is what head says
pub record Untouched (t t' : Tables) : Type 0 where
  pub head : t'.records.head ≡ t.records.head
  pub zones : t'.records.zones ≡ t.records.zones
  pub starts : t'.derived.starts ≡ t.derived.starts
  pub entries : t'.derived.entries ≡ t.derived.entries

module _ (t : Tables) (sound : Sound t) (c : ℕ) where
  pub report-keeps : (a : Car) → Untouched t (step (car_at c a) t)
  unfolding on stands
  report-keeps a = record { head = refl; zones = refl; starts = sym (starts-fresh sound); entries = sym (entries-fresh sound) }

  pub leave-keeps : Untouched t (step (car_off c) t)
  unfolding on stands
  leave-keeps = record { head = refl; zones = refl; starts = sym (starts-fresh sound); entries = sym (entries-fresh sound) }

-- ---- which rosters change

pub roster-placed : (t : Tables) (z c : ℕ) → placed t c ≡ true → roster_has t z c ≡ zone_holds t z (column_of (shape_of t) (spot_of t c)) (row_of (shape_of t) (spot_of t c))
roster-placed t z c e = roster-has t z c ∙ rw e

module _ (t : Tables) (c z : ℕ) where
  pub leave-other : (d : ℕ) → (d ≡ c → ⊥) → roster_has (step (car_off c) t) z d ≡ roster_has t z d
  unfolding roster_has
  leave-other d f = ap (λ (m : Town). holds_car m z d) (town-car-off t c) ∙ rw (ne_eqb d c f)

  pub leave_own : roster_has (step (car_off c) t) z c ≡ false
  unfolding roster_has
  leave_own = ap (λ (m : Town). holds_car m z c) (town-car-off t c) ∙ rw (eq-eqb c c refl)

module _ (t : Tables) (c : ℕ) (a : Car) (z : ℕ) (sound : Sound t) (there : c < car_room t) where
  pub report-other : (d : ℕ) → (d ≡ c → ⊥) → roster_has (step (car_at c a) t) z d ≡ roster_has t z d
  unfolding roster_has
  report-other d f = ap (λ (m : Town). holds_car m z d) (town-car-at t (size_of sound) c there a) ∙ rw (ne_eqb d c f)

  -- the car is then on the rosters of the zones that hold the new cell
  pub report-own : roster_has (step (car_at c a) t) z c ≡ zone_holds t z (column_of (shape_of t) a.position) (row_of (shape_of t) a.position)
  unfolding roster_has zone_holds
  report-own = ap (λ (m : Town). holds_car m z c) (town-car-at t (size_of sound) c there a) ∙ rw (eq-eqb c c refl)

  -- a zone that has the car just if it holds the new cell keeps its roster
  pub report-same : roster_has t z c ≡ zone_holds t z (column_of (shape_of t) a.position) (row_of (shape_of t) a.position) → (d : ℕ) → roster_has (step (car_at c a) t) z d ≡ roster_has t z d
  report-same e d = ⊎_elim
      (λ (q : d ≡ c). ap (roster_has (step (car_at c a) t) z) q ∙ report-own ∙ sym e ∙ ap (roster_has t z) (sym q))
      (λ (f : d ≡ c → ⊥). report-other d f)
      (same-or-other d c)

  -- and so does a zone that holds both cells or neither
  pub report-rosters : placed t c ≡ true → zone_holds t z (column_of (shape_of t) (spot_of t c)) (row_of (shape_of t) (spot_of t c)) ≡ zone_holds t z (column_of (shape_of t) a.position) (row_of (shape_of t) a.position) → (d : ℕ) → roster_has (step (car_at c a) t) z d ≡ roster_has t z d
  report-rosters e f = report-same (roster-placed t z c e ∙ f)

  -- byte for byte
  pub report-bytes : on_town (shape_of t) a.position ≡ true → leb a.team last_team ≡ true → z < zone_room t → roster_has t z c ≡ zone_holds t z (column_of (shape_of t) a.position) (row_of (shape_of t) a.position) → (d : ℕ) → d < car_room t → get_or (step (car_at c a) t).derived.rosters (z * car_room t + d) 0 ≡ get_or t.derived.rosters (z * car_room t + d) 0
  report-bytes o g h e d l = roster-byte (step (car_at c a) t) (report-sound t sound c a there o g) z d h l ∙ ap bit (report-same e d) ∙ sym (roster-byte t sound z d h l)

-- ---- for which team each car drives then

module _ (t : Tables) (c : ℕ) where
  pub leave-drives : (g d : ℕ) → (d ≡ c → ⊥) → drives_for (town_of (step (car_off c) t)) g d ≡ drives_for (town_of t) g d
  leave-drives g d f = ap (λ (m : Town). drives_for m g d) (town-car-off t c) ∙ rw (ne_eqb d c f)

  module _ (a : Car) (sound : Sound t) (there : c < car_room t) where
    pub drives-other : (g d : ℕ) → (d ≡ c → ⊥) → drives_for (town_of (step (car_at c a) t)) g d ≡ drives_for (town_of t) g d
    drives-other g d f = ap (λ (m : Town). drives_for m g d) (town-car-at t (size_of sound) c there a) ∙ rw (ne_eqb d c f)

    -- the car itself for the team that it reports
    pub drives-own : (g : ℕ) → drives_for (town_of (step (car_at c a) t)) g c ≡ eqb a.team g
    drives-own g = ap (λ (m : Town). drives_for m g c) (town-car-at t (size_of sound) c there a) ∙ rw (eq-eqb c c refl)
