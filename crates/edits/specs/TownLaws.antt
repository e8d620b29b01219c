-- The town that the tables say after a step is the model's town after the change.
use Rattle.std.specs.Prelude.{ℕ, ◌+◌, ◌<◌, ◌≡◌, refl, Bool, cond, ltb, length, set}
use Rattle.std.proofs.Common.{ap, ap₂, sym, ◌∙◌, ⊎_elim, arith, lt-ltb, eq-eqb, ne_eqb}
use Rattle.std.proofs.Math.Path.{fun_ext}
use Rattle.std.proofs.Math.Option.{Option, none, some}
use Rattle.order.specs.TestLaws.{same-or-other}
use Rattle.squares.specs.declared.shape.Rect.{Rect}
use Rattle.position.specs.declared.Position.{Position}
use Rattle.model.specs.Model.{Car, Town, zone_on, zone_off, car_at, car_off, after, except}
use Rattle.tables.specs.Tables.{Tables, zone_room, car_room, rect_in, stands, placed_in, placed, team_in, spot_in, zone_in, car_in, town_of}
use Rattle.tables.specs.Sizes.{Sized}
use Rattle.tables.specs.Steps.{fresh, with_zone, without_zone, with_spot, step}
use Rattle.edits.specs.ZoneLaws.{rect-with, rect-with-other, rect-without-other, stands-without}
use Rattle.edits.specs.SpotLaws.{spot-with, spot-with-other, placed-with, placed-without, placed-other, team-with, team-other}

-- ---- the old value but for one number

pub except-own : {A : Type 0} (i : ℕ) (new : Option A) (old : ℕ → Option A) → except i new old i ≡ new
except-own i new old = rw (eq-eqb i i refl)

pub except-other : {A : Type 0} (i : ℕ) (new : Option A) (old : ℕ → Option A) (j : ℕ) → (j ≡ i → ⊥) → except i new old j ≡ old j
except-other i new old j f = rw (ne_eqb j i f)

at-or-not : {A : Type 0} (i : ℕ) (new : Option A) (old : ℕ → Option A) (j : ℕ) (v : Option A) → (j ≡ i → v ≡ new) → ((j ≡ i → ⊥) → v ≡ old j) → v ≡ except i new old j
at-or-not i new old j v own other = ⊎_elim
    (λ (q : j ≡ i). own q ∙ rw (eq-eqb j i q))
    (λ (f : j ≡ i → ⊥). other f ∙ sym (except-other i new old j f))
    (same-or-other j i)

-- a town by its zones and its cars
town-same : (m : Town) {zone : ℕ → Option Rect} {car : ℕ → Option Car} → ((y : ℕ) → zone y ≡ m.zone y) → ((d : ℕ) → car d ≡ m.car d) → ◌≡◌ {A = Town} (record { opening = m.opening; zone = zone; car = car }) m
town-same m f g = ap₂ (λ (zone : ℕ → Option Rect) (car : ℕ → Option Car). record { opening = m.opening; zone = zone; car = car }) (fun_ext f) (fun_ext g)

-- ---- a zone

-- by its record
abbrev zone_by : Rect → Option Rect
zone_by r = cond (ltb 0 r.w) (some r) none

pub town-zone-on : (t : Tables) → Sized t → (z : ℕ) → z < zone_room t → (r : Rect) → 0 < r.w → town_of (step (zone_on z r) t) ≡ after (zone_on z r) (town_of t)
unfolding zone_in car_in stands placed
town-zone-on t size z there r wide = town-same (after (zone_on z r) (town_of t))
    (λ y. at-or-not z (some r) (zone_in t) y _ own (λ f. ap zone_by (rect-with-other t.records.zones z r y f)))
    (λ d. refl)
  where
    own : {y : ℕ} → y ≡ z → zone_by (rect_in (with_zone t.records.zones z r) y) ≡ some r
    own {y} e = ap (λ (i : ℕ). zone_by (rect_in (with_zone t.records.zones z r) i)) e ∙ ap zone_by (rect-with t.records.zones z r (omega (arith, size.lengths.zones))) ∙ rw (lt-ltb 0 r.w wide)

pub town-zone-off : (t : Tables) (z : ℕ) → town_of (step (zone_off z) t) ≡ after (zone_off z) (town_of t)
unfolding zone_in car_in stands placed
town-zone-off t z = town-same (after (zone_off z) (town_of t))
    (λ y. at-or-not z none (zone_in t) y _ own (λ f. ap zone_by (rect-without-other t.records.zones z y f)))
    (λ d. refl)
  where
    own : {y : ℕ} → y ≡ z → zone_by (rect_in (without_zone t.records.zones z) y) ≡ none
    own {y} e = ap (λ (i : ℕ). zone_by (rect_in (without_zone t.records.zones z) i)) e ∙ ap (λ (b : Bool). cond b (some (rect_in (without_zone t.records.zones z) z)) none) (stands-without t.records.zones z)

-- ---- a car

-- by its mark, its position and its team
abbrev car_by : Bool → Position → ℕ → Option Car
car_by b p g = cond b (some (record { position = p; team = g })) none

car-same : {b b' : Bool} {p p' : Position} {g g' : ℕ} → b ≡ b' → p ≡ p' → g ≡ g' → car_by b p g ≡ car_by b' p' g'
car-same e f h = rw (e, f, h)

pub town-car-at : (t : Tables) → Sized t → (c : ℕ) → c < car_room t → (a : Car) → town_of (step (car_at c a) t) ≡ after (car_at c a) (town_of t)
unfolding zone_in car_in stands placed
town-car-at t size c there a = town-same (after (car_at c a) (town_of t))
    (λ y. refl)
    (λ d. at-or-not c (some a) (car_in t) d _ own (λ f. car-same (placed-other t.records.cars c (a.team + 1) d f) (spot-with-other t.records.spots c a.position d f) (team-other t.records.cars c (a.team + 1) d f)))
  where
    own : {d : ℕ} → d ≡ c → car_by (placed_in (set t.records.cars c (a.team + 1)) d) (spot_in (with_spot t.records.spots c a.position) d) (team_in (set t.records.cars c (a.team + 1)) d) ≡ some a
    own {d} e =
        let room : c < length t.records.cars = omega (arith, size.lengths.cars) in
        ap (λ (i : ℕ). car_by (placed_in (set t.records.cars c (a.team + 1)) i) (spot_in (with_spot t.records.spots c a.position) i) (team_in (set t.records.cars c (a.team + 1)) i)) e
        ∙ car-same (placed-with t.records.cars c a.team room) (spot-with t.records.spots c a.position (omega (arith, size.lengths.spots))) (team-with t.records.cars c a.team room)

pub town-car-off : (t : Tables) (c : ℕ) → town_of (step (car_off c) t) ≡ after (car_off c) (town_of t)
unfolding zone_in car_in stands placed
town-car-off t c = town-same (after (car_off c) (town_of t))
    (λ y. refl)
    (λ d. at-or-not c none (car_in t) d _ own (λ f. car-same (placed-other t.records.cars c 0 d f) refl (team-other t.records.cars c 0 d f)))
  where
    own : {d : ℕ} → d ≡ c → car_by (placed_in (set t.records.cars c 0) d) (spot_in t.records.spots d) (team_in (set t.records.cars c 0) d) ≡ none
    own {d} e = ap (λ (b : Bool). car_by b (spot_in t.records.spots d) (team_in (set t.records.cars c 0) d)) (ap (placed_in (set t.records.cars c 0)) e ∙ placed-without t.records.cars c)

-- ---- what is derived is no part of the town

pub town-fresh : (t : Tables) → town_of (fresh t) ≡ town_of t
unfolding zone_in car_in stands placed
town-fresh t = town-same (town_of t) (λ y. refl) (λ d. refl)
