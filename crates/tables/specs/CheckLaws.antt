-- Checks 2 and 3: the tests and what they say, and how long the tables can be.
use Rattle.std.specs.Prelude.{◌≡◌, ℕ, ◌+◌, ◌*◌, ◌≤◌, true, false, ◌&&◌, length, ◌==◌, nat_le, nat_lt}
use Rattle.std.proofs.Common.{mul-le-mul, arith, le-leb, lt-ltb, eq-eqb, leb-true, ltb-true, eqb-true}
use Rattle.order.specs.TestLaws.{and→, fails}
use Rattle.squares.specs.declared.shape.Shape.{Shape}
use Rattle.squares.specs.Shape.{allowed, most_zones, most_cars}
use Rattle.squares.specs.Bounds.{Allowed}
use Rattle.model.specs.Model.{roomy}
use Rattle.squares.specs.Squares.{squares}
use Rattle.squares.specs.ShapeLaws.{allowed→, →allowed, squares-few}
use Rattle.model.specs.declared.opening.Opening.{Opening}
use Rattle.tables.specs.Tables.{Tables, opening_in, shape_of, zone_room, car_room, entry_room}
use Rattle.tables.specs.Check.{long, sized}
use Rattle.tables.specs.Sound.{Sound}
use Rattle.tables.specs.Sizes.{Roomy, Long, Sized}

pub roomy→ : (Z C E : ℕ) → roomy Z C E ≡ true → Roomy Z C E
roomy→ Z C E e =
    let p = and→ (nat_lt 0 Z) _ e in
    let q = and→ (nat_le Z most_zones) _ p.1 in
    let r = and→ (nat_lt 0 C) _ q.1 in
    let s = and→ (nat_le C most_cars) _ r.1 in
    let t = and→ (nat_lt 0 E) _ s.1 in
    record { zones-some = ltb-true _ _ p.0; zones-few = leb-true _ _ q.0; cars-some = ltb-true _ _ r.0; cars-few = leb-true _ _ s.0; entries-some = ltb-true _ _ t.0; entries-few = leb-true _ _ t.1 }

pub →roomy : (Z C E : ℕ) → Roomy Z C E → roomy Z C E ≡ true
→roomy Z C E h = rw (lt-ltb _ _ h.zones-some, le-leb _ _ h.zones-few, lt-ltb _ _ h.cars-some, le-leb _ _ h.cars-few, lt-ltb _ _ h.entries-some, le-leb _ _ h.entries-few)

pub not-roomy : (Z C E : ℕ) → (Roomy Z C E → ⊥) → roomy Z C E ≡ false
not-roomy Z C E f = fails (roomy Z C E) (λ (e : roomy Z C E ≡ true). f (roomy→ Z C E e))

-- the same numbers pass the same tests
pub roomy-same : {Z Z' C C' E E' : ℕ} → Z ≡ Z' → C ≡ C' → E ≡ E' → roomy Z C E ≡ roomy Z' C' E'
roomy-same z c e = rw (z, c, e)

pub long_same : {s s' : Shape} {Z Z' C C' E E' : ℕ} (t : Tables) → s ≡ s' → Z ≡ Z' → C ≡ C' → E ≡ E' → long s Z C E t ≡ long s' Z' C' E' t
long_same t s z c e = rw (s, z, c, e)

module _ (s : Shape) (Z C E : ℕ) (t : Tables) where
  pub long→ : long s Z C E t ≡ true → Long s Z C E t
  long→ e =
      let a = and→ (length t.records.head == 6) _ e in
      let b = and→ (length t.records.zones == 4 * Z) _ a.1 in
      let c = and→ (length t.records.cars == C) _ b.1 in
      let d = and→ (length t.records.spots == 2 * C) _ c.1 in
      let f = and→ (length t.derived.starts == squares s + 1) _ d.1 in
      let g = and→ (length t.derived.entries == E) _ f.1 in
      let h = and→ (length t.derived.rosters == Z * C) _ g.1 in
      record { head = eqb-true _ _ a.0; zones = eqb-true _ _ b.0; cars = eqb-true _ _ c.0; spots = eqb-true _ _ d.0; starts = eqb-true _ _ f.0; entries = eqb-true _ _ g.0; rosters = eqb-true _ _ h.0; tallies = eqb-true _ _ h.1 }

  pub →long : Long s Z C E t → long s Z C E t ≡ true
  →long h = rw (eq-eqb _ _ h.head, eq-eqb _ _ h.zones, eq-eqb _ _ h.cars, eq-eqb _ _ h.spots, eq-eqb _ _ h.starts, eq-eqb _ _ h.entries, eq-eqb _ _ h.rosters, eq-eqb _ _ h.tallies)

  pub not-long : (Long s Z C E t → ⊥) → long s Z C E t ≡ false
  not-long f = fails (long s Z C E t) (λ (e : long s Z C E t ≡ true). f (long→ e))

module _ (t : Tables) where
  pub sized→ : sized t ≡ true → Sized t
  unfolding sized
  sized→ e =
      let a = and→ (allowed (shape_of t)) _ e in
      let b = and→ (roomy (zone_room t) (car_room t) (entry_room t)) _ a.1 in
      record { shape = allowed→ (shape_of t) a.0; room = roomy→ _ _ _ b.0; lengths = long→ _ _ _ _ t b.1 }

  pub →sized : Sized t → sized t ≡ true
  unfolding sized
  →sized h = rw (→allowed (shape_of t) h.shape, →roomy _ _ _ h.room, →long _ _ _ _ t h.lengths)

  pub not-sized : (Sized t → ⊥) → sized t ≡ false
  not-sized f = fails (sized t) (λ (e : sized t ≡ true). f (sized→ e))

  -- test by test
  pub sized-shape : allowed (shape_of t) ≡ false → sized t ≡ false
  unfolding sized
  sized-shape e = rw e

  pub sized-room : allowed (shape_of t) ≡ true → roomy (zone_room t) (car_room t) (entry_room t) ≡ false → sized t ≡ false
  unfolding sized
  sized-room e f = rw (e, f)

  pub sized-long : allowed (shape_of t) ≡ true → roomy (zone_room t) (car_room t) (entry_room t) ≡ true → sized t ≡ long (shape_of t) (zone_room t) (car_room t) (entry_room t) t
  unfolding sized
  sized-long e f = rw (e, f)

-- ---- how long the tables can be

-- no table has more than 4,194,304 elements
pub record Short (t : Tables) : Type 0 where
  pub head : length t.records.head ≤ 4194304
  pub zones : length t.records.zones ≤ 4194304
  pub cars : length t.records.cars ≤ 4194304
  pub spots : length t.records.spots ≤ 4194304
  pub starts : length t.derived.starts ≤ 4194304
  pub entries : length t.derived.entries ≤ 4194304
  pub rosters : length t.derived.rosters ≤ 4194304
  pub tallies : length t.derived.tallies ≤ 4194304

-- lengths that an allowed shape and capacities within the bounds call for are far shorter
pub lengths_short : (s : Shape) (Z C E : ℕ) (t : Tables) → Allowed s → Roomy Z C E → Long s Z C E t → Short t
lengths_short s Z C E t shape room h = omega (arith, squares-few s shape, mul-le-mul room.zones-few room.cars-few)

-- sound tables pass check 3
pub size_of : {t : Tables} → Sound t → Sized t
size_of {t} sound = sized→ t sound.size

-- check 3 by what head says
pub sized-by : (t : Tables) {o : Opening} → o ≡ opening_in t → (allowed o.shape && (roomy o.zones o.cars o.entries && long o.shape o.zones o.cars o.entries t)) ≡ sized t
unfolding sized
sized-by t e = rw e
