-- Laws of the rosters of tables with other zones: only the changed zone's row differs.
use Rattle.std.specs.Prelude.{ℕ, ◌+◌, ◌*◌, ◌/◌, ◌%◌, ◌<◌, ◌≤◌, ◌≡◌, refl, ◌⊎◌, Bool, false, List, [], ◌∷◌, map, length, get_or, replicate}
use Rattle.std.proofs.Math.Path.{ap}
use Rattle.std.proofs.Common.{sym, ◌∙◌, inl, inr, ⊎_elim, arith, zero-add, mul-le-mul, suc-mul, div-add-mod', mod-lt, div-lt_iff_lt-mul, le_refl, ext_get_or}
use Rattle.std.proofs.Math.Option.{Option, none, some}
use Rattle.std.proofs.Math.Arith.{digits_lt, digits_div, digits_mod}
use Rattle.std.proofs.lemmas.List.{length-map}
use Rattle.std.proofs.lemmas.List.Edits.{sets}
use Rattle.std.proofs.Math.Seq.{length-sets}
use Rattle.order.specs.Order.{upto}
use Rattle.order.specs.Sums.{bit}
use Rattle.order.specs.TestLaws.{lt-or-eq-or-gt}
use Rattle.order.specs.KeepLaws.{length-span}
use Rattle.squares.specs.declared.shape.Rect.{Rect}
use Rattle.squares.specs.Shape.{holds}
use Rattle.position.specs.Answer.{column_of, row_of}
use Rattle.model.specs.Model.{Car, Town, there, holds_car, zone_on, zone_off, after}
use Rattle.tables.specs.Tables.{Tables, zone_room, car_room, zone_in, town_of, roster_has}
use Rattle.tables.specs.Sizes.{Sized}
use Rattle.tables.specs.Derived.{rosters_of}
use Rattle.tables.specs.Steps.{fresh, zoned, with_zone, without_zone}
use Rattle.rosters.specs.Rosters.{row_cleared}
use Rattle.tables.specs.RowLaws.{map-span}
use Rattle.edits.specs.ZoneLaws.{sets-apart, sets-there}
use Rattle.edits.specs.TownLaws.{except-own, except-other, town-fresh, town-zone-on, town-zone-off}

-- ---- who is on a roster

-- a roster goes by the town that the records say
has-town : (t : Tables) (m : Town) → town_of (fresh t) ≡ m → (z c : ℕ) → roster_has t z c ≡ holds_car m z c
unfolding roster_has
has-town t m e z c = ap (λ (n : Town). holds_car n z c) (sym (town-fresh t) ∙ e)

-- a car is in the zone with a rectangle, where there is one
abbrev has_by : Town → ℕ → Option Rect → Bool
has_by m c o = there (m.car c) (λ (a : Car). there o (λ (r : Rect). holds r (column_of m.opening.shape a.position) (row_of m.opening.shape a.position)))

has-none : (m : Town) (c : ℕ) → has_by m c none ≡ false
has-none m c = go (m.car c)
  where
    go : (o : Option Car) → there o (λ (a : Car). false) ≡ false
    go none = refl
    go (some a) = refl

module _ (t : Tables) (size : Sized t) (z : ℕ) (within : z < zone_room t) (r : Rect) (wide : 0 < r.w) where
  -- with a zone more
  pub has-with : (y c : ℕ) → roster_has (zoned t (with_zone t.records.zones z r)) y c ≡ holds_car (after (zone_on z r) (town_of t)) y c
  has-with = has-town (zoned t (with_zone t.records.zones z r)) (after (zone_on z r) (town_of t)) (town-zone-on t size z within r wide)

  pub has-with-other : (y c : ℕ) → (y ≡ z → ⊥) → roster_has (zoned t (with_zone t.records.zones z r)) y c ≡ roster_has t y c
  unfolding roster_has
  has-with-other y c f = has-with y c ∙ ap (has_by (town_of t) c) (except-other z (some r) (zone_in t) y f)

module _ (t : Tables) (z : ℕ) where
  -- with a zone less
  has-without : (y c : ℕ) → roster_has (zoned t (without_zone t.records.zones z)) y c ≡ holds_car (after (zone_off z) (town_of t)) y c
  has-without = has-town (zoned t (without_zone t.records.zones z)) (after (zone_off z) (town_of t)) (town-zone-off t z)

  pub has-without-other : (y c : ℕ) → (y ≡ z → ⊥) → roster_has (zoned t (without_zone t.records.zones z)) y c ≡ roster_has t y c
  unfolding roster_has
  has-without-other y c f = has-without y c ∙ ap (has_by (town_of t) c) (except-other z none (zone_in t) y f)

  pub has-without-own : (c : ℕ) → roster_has (zoned t (without_zone t.records.zones z)) z c ≡ false
  has-without-own c = has-without z c ∙ ap (has_by (town_of t) c) (except-own z none (zone_in t)) ∙ has-none (town_of t) c

-- ---- the rosters

-- zone z's row, as the records give it
abbrev pub roster_row : Tables → ℕ → List ℕ
roster_row t z = map (λ (c : ℕ). bit (roster_has t z c)) (upto (car_room t))

pub byte_at : (t : Tables) (z c : ℕ) → z < zone_room t → c < car_room t → get_or (rosters_of t) (z * car_room t + c) 0 ≡ bit (roster_has t z c)
byte_at t z c g l = map-span (λ (i : ℕ). bit (roster_has t (i / car_room t) (i % car_room t))) 0 0 (zone_room t * car_room t) (z * car_room t + c) (digits_lt g l) ∙ rw (zero-add (z * car_room t + c), digits_div z l, digits_mod z l)

pub length-rosters : (t : Tables) → length (rosters_of t) ≡ zone_room t * car_room t
length-rosters t = length-map (upto (zone_room t * car_room t)) (λ (i : ℕ). bit (roster_has t (i / car_room t) (i % car_room t))) ∙ length-span 0 (zone_room t * car_room t)

length-row : (t : Tables) (z : ℕ) → length (roster_row t z) ≡ car_room t
length-row t z = length-map (upto (car_room t)) (λ (c : ℕ). bit (roster_has t z c)) ∙ length-span 0 (car_room t)

-- other zones, of which only zone z differs
module _ (t : Tables) (size : Sized t) (zones : List ℕ) (z : ℕ) (there : z < zone_room t) (same : (y c : ℕ) → (y ≡ z → ⊥) → roster_has (zoned t zones) y c ≡ roster_has t y c) where
  within : z * car_room t + length (roster_row (zoned t zones) z) ≤ length (rosters_of t)
  within = omega (arith, length-row (zoned t zones) z, length-rosters t, suc-mul z (car_room t), mul-le-mul there (le_refl (car_room t)))

  own : (c : ℕ) → c < car_room t → get_or (rosters_of (zoned t zones)) (z * car_room t + c) 0 ≡ get_or (sets (rosters_of t) (z * car_room t) (roster_row (zoned t zones) z)) (z * car_room t + c) 0
  own c l =
      byte_at (zoned t zones) z c there l
      ∙ sym (sets-there (roster_row (zoned t zones) z) (rosters_of t) (z * car_room t) c (omega (arith, length-row (zoned t zones) z)) within ∙ map-span (λ (d : ℕ). bit (roster_has (zoned t zones) z d)) 0 0 (car_room t) c l ∙ ap (λ (d : ℕ). bit (roster_has (zoned t zones) z d)) (zero-add c))

  other : (y c : ℕ) → y < zone_room t → c < car_room t → (y ≡ z → ⊥) → (y * car_room t + c < z * car_room t) ⊎ (z * car_room t + length (roster_row (zoned t zones) z) ≤ y * car_room t + c) → get_or (rosters_of (zoned t zones)) (y * car_room t + c) 0 ≡ get_or (sets (rosters_of t) (z * car_room t) (roster_row (zoned t zones) z)) (y * car_room t + c) 0
  other y c g l f p = byte_at (zoned t zones) y c g l ∙ ap bit (same y c f) ∙ sym (byte_at t y c g l) ∙ sym (sets-apart (roster_row (zoned t zones) z) (rosters_of t) (z * car_room t) (y * car_room t + c) p)

  byte : (y c : ℕ) → y < zone_room t → c < car_room t → get_or (rosters_of (zoned t zones)) (y * car_room t + c) 0 ≡ get_or (sets (rosters_of t) (z * car_room t) (roster_row (zoned t zones) z)) (y * car_room t + c) 0
  byte y c g l = ⊎_elim
      (λ (h : y < z). other y c g l (λ (e : y ≡ z). omega arith) (inl (digits_lt h l)))
      (⊎_elim
      (λ (e : y ≡ z). rw e (own c l))
      (λ (h : z < y). other y c g l (λ (e : y ≡ z). omega arith) (inr (omega (arith, length-row (zoned t zones) z, suc-mul z (car_room t), mul-le-mul h (le_refl (car_room t)))))))
      (lt-or-eq-or-gt y z)

  -- the rosters differ only in zone z's row
  rosters-row : rosters_of (zoned t zones) ≡ sets (rosters_of t) (z * car_room t) (roster_row (zoned t zones) z)
  rosters-row = ext_get_or 0 (rosters_of (zoned t zones)) (sets (rosters_of t) (z * car_room t) (roster_row (zoned t zones) z))
      (length-rosters (zoned t zones) ∙ sym (length-sets (rosters_of t) (z * car_room t) (roster_row (zoned t zones) z) ∙ length-rosters t))
      (λ i h. rw (div-add-mod' i (car_room t)) at (byte (i / car_room t) (i % car_room t) ((div-lt_iff_lt-mul size.room.cars-some).1 (omega (arith, length-rosters (zoned t zones)))) (mod-lt i size.room.cars-some)))

-- a new zone's row is its cars
pub rosters-with : (t : Tables) → Sized t → (z : ℕ) → z < zone_room t → (r : Rect) → 0 < r.w → rosters_of (zoned t (with_zone t.records.zones z r)) ≡ sets (rosters_of t) (z * car_room t) (roster_row (zoned t (with_zone t.records.zones z r)) z)
rosters-with t size z h r g = rosters-row t size (with_zone t.records.zones z r) z h (has-with-other t size z h r g)

-- without zone z its row is 0
pub rosters-without : (t : Tables) → Sized t → (z : ℕ) → z < zone_room t → rosters_of (zoned t (without_zone t.records.zones z)) ≡ row_cleared (rosters_of t) z (car_room t)
rosters-without t size z h =
    rosters-row t size (without_zone t.records.zones z) z h (has-without-other t z)
    ∙ ap (sets (rosters_of t) (z * car_room t)) (no-car (upto (car_room t)) ∙ ap (λ (n : ℕ). replicate n 0) (length-span 0 (car_room t)))
  where
    no-car : (l : List ℕ) → map (λ (c : ℕ). bit (roster_has (zoned t (without_zone t.records.zones z)) z c)) l ≡ replicate (length l) 0
    no-car [] = refl
    no-car (c ∷ l) = rw (has-without-own t z c) (ap (λ (m : List ℕ). 0 ∷ m) (no-car l))
