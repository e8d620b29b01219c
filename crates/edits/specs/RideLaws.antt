-- Laws of tables in which a zone has moved: they are sound, and they are what the functions over each table leave.
use Rattle.std.specs.Prelude.{ℕ, zero, suc, ◌+◌, ◌-◌, ◌*◌, ◌<◌, ◌≤◌, ◌≡◌, refl, Bool, true, false, not, ◌&&◌, List, [], ◌∷◌, ◌++◌, ℤ, pos, leb, ltb, length, get_or, replicate}
use Rattle.std.proofs.Math.Path.{ap}
use Rattle.std.proofs.Common.{ap₂, sym, ◌∙◌, inl, inr, ⊎_elim, arith, add-zero, get_or-set_other, ext_get_or}
use Rattle.std.proofs.Math.Option.{Option, none, some}
use Rattle.std.proofs.lemmas.List.Edits.{sets}
use Rattle.std.proofs.Math.Seq.{length-sets}
use borrow.Author.Tests.{le-leb, leb-true}
use Rattle.order.specs.Order.{upto, keep}
use Rattle.order.specs.Sums.{bit}
use Rattle.order.specs.TestLaws.{lt-or-le, both_ways}
use Rattle.order.specs.KeepLaws.{span→, keep-ext}
use Rattle.order.specs.RisingLaws.{rising-span, rising-keep}
use Rattle.order.specs.SumLaws.{sum_one}
use Rattle.order.specs.Buffer.{rank}
use Rattle.squares.specs.declared.shape.Rect.{Rect}
use Rattle.squares.specs.Bounds.{Fits}
use Rattle.squares.specs.Ride.{ridden}
use Rattle.squares.specs.Squares.{squares}
use Rattle.cuts.specs.Cut.{cut}
use Rattle.model.specs.Model.{Town, holds_car, cut_size, entries_used, cars_more, zone_on, zone_off, zone_moved, after, except, carried}
use Rattle.tables.specs.Tables.{Tables, Derived, tables, tally, shape_of, zone_room, car_room, entry_room, rect_in, rect_of, stands, placed, zone_in, car_in, opening_in, town_of, roster_has}
use Rattle.tables.specs.Derived.{on, keys_to, used, free, entries_of, starts_of}
use Rattle.tables.specs.Rows.{marked}
use Rattle.tables.specs.Sound.{Sound}
use Rattle.tables.specs.Steps.{fresh, zoned, with_zone, without_zone, step}
use Rattle.tables.specs.RowLaws.{roster-byte}
use Rattle.tables.specs.CheckLaws.{size_of}
use Rattle.tables.specs.CountLaws.{count-used}
use Rattle.starts.specs.Starts.{ranks}
use Rattle.starts.specs.RankLaws.{map_same, rank-start}
use Rattle.entries.specs.Drops.{others, in_use}
use Rattle.rides.specs.Changes.{KeysRidden}
use Rattle.rosters.specs.Inside.{car_within}
use Rattle.tallies.specs.Counts.{counted}
use Rattle.edits.specs.ZoneLaws.{sets-apart, sets-there, length-with, length_without, sized-zoned}
use Rattle.edits.specs.TownLaws.{except-own, except-other, town-fresh, town-zone-on}
use Rattle.edits.specs.DropLaws.{front, zone-listed}
use Rattle.edits.specs.PlacedLaws.{own-placed, others-placed, within, row_now, row-placed, tally-placed, standing}
use Rattle.edits.specs.StepLaws.{fresh-sound}

-- ---- how many entries

-- those of one zone are among them
count-own : (m : Town) (z : ℕ) → z < m.opening.zones → cut_size m.opening.shape (m.zone z) ≤ entries_used m
count-own m z there =
    let size : Option Rect → ℕ = cut_size m.opening.shape in
    omega (arith, sum_one (λ (y : ℕ). size (m.zone y)) (λ (y : ℕ). size (except z none m.zone y)) m.opening.zones z there (λ y f. ap size (sym (except-other z none m.zone y f))) (ap size (except-own z none m.zone)))

-- in a town with one zone's rectangle put in another's place: the standing entries, less those of the old cut, and those of the new
count-moved : (m : Town) (z : ℕ) (r : Rect) → z < m.opening.zones → entries_used (after (zone_on z r) m) ≡ entries_used m - cut_size m.opening.shape (m.zone z) + length (cut m.opening.shape r)
count-moved m z r there =
    let size : Option Rect → ℕ = cut_size m.opening.shape in
    let none-there : size (except z none m.zone z) ≡ 0 = ap size (except-own z none m.zone) in
    let new = sum_one (λ (y : ℕ). size (except z (some r) m.zone y)) (λ (y : ℕ). size (except z none m.zone y)) m.opening.zones z there (λ y f. ap size (except-other z (some r) m.zone y f ∙ sym (except-other z none m.zone y f))) none-there in
    let old = sum_one (λ (y : ℕ). size (m.zone y)) (λ (y : ℕ). size (except z none m.zone y)) m.opening.zones z there (λ y f. ap size (sym (except-other z none m.zone y f))) none-there in
    omega (arith, new, old, ap size (except-own z (some r) m.zone))

-- ---- a zone moved

module _ (t : Tables) (sound : Sound t) (z : ℕ) (there : z < zone_room t) (stand : stands t z ≡ true) (dx dy : ℤ) (fit : Fits (shape_of t) (ridden dx dy (rect_of t z))) where
  abbrev new : Rect
  new = ridden dx dy (rect_of t z)

  abbrev moved : Tables
  moved = zoned t (with_zone t.records.zones z new)

  pub zone-in : zone_in t z ≡ some (rect_of t z)
  unfolding zone_in
  zone-in = rw stand

  -- the town is that with the new rectangle
  pub moved_on : after (zone_moved z dx dy) (town_of t) ≡ after (zone_on z (ridden dx dy (rect_of t z))) (town_of t)
  moved_on = ap (λ (o : Option Rect). record { opening = opening_in t; zone = except z (carried dx dy o) (zone_in t); car = car_in t }) zone-in

  pub town-zone-moved : town_of (step (zone_moved z dx dy) t) ≡ after (zone_moved z dx dy) (town_of t)
  town-zone-moved = town-zone-on t (size_of sound) z there new fit.columns ∙ sym moved_on

  -- ---- the entries

  pub zone-now : (after (zone_moved z dx dy) (town_of t)).zone z ≡ some new
  zone-now = ap (λ (m : Town). m.zone z) moved_on ∙ except-own z (some new) (zone_in t)

  pub used-moved : length (used (zoned t (with_zone t.records.zones z (ridden dx dy (rect_of t z))))) ≡ entries_used (town_of t) - cut_size (shape_of t) (zone_in t z) + cut_size (shape_of t) ((after (zone_moved z dx dy) (town_of t)).zone z)
  used-moved =
      count-used moved (sized-zoned t (with_zone t.records.zones z new) (size_of sound) (length-with t.records.zones z new))
      ∙ ap entries_used (sym (town-fresh moved) ∙ town-zone-on t (size_of sound) z there new fit.columns)
      ∙ count-moved (town_of t) z new there
      ∙ ap (λ (o : Option Rect). entries_used (town_of t) - cut_size (shape_of t) (zone_in t z) + cut_size (shape_of t) o) (sym zone-now)

  -- they have room just if the new squares have it in the place of the old ones
  pub room_moved : leb (entries_used (town_of t) - cut_size (shape_of t) (zone_in t z) + cut_size (shape_of t) ((after (zone_moved z dx dy) (town_of t)).zone z)) (entry_room t) ≡ leb (entries_used (town_of t) + length (cut (shape_of t) (ridden dx dy (rect_of t z)))) (entry_room t + length (cut (shape_of t) (rect_of t z)))
  room_moved =
      let o = length (cut (shape_of t) (rect_of t z)) in
      let n = length (cut (shape_of t) new) in
      let u = entries_used (town_of t) in
      let own : o ≤ u = rw zone-in at (count-own (town_of t) z there) in
      ap₂ (λ (a b : Option Rect). leb (u - cut_size (shape_of t) a + cut_size (shape_of t) b) (entry_room t)) zone-in zone-now
      ∙ both_ways (leb (u - o + n) (entry_room t)) (leb (u + n) (entry_room t + o)) (λ e. le-leb (u + n) (entry_room t + o) (omega (arith, leb-true (u - o + n) (entry_room t) e))) (λ e. le-leb (u - o + n) (entry_room t) (omega (arith, leb-true (u + n) (entry_room t + o) e)))

  pub ride-sound : leb (entries_used (town_of t) - cut_size (shape_of t) (zone_in t z) + cut_size (shape_of t) ((after (zone_moved z dx dy) (town_of t)).zone z)) (entry_room t) ≡ true → Sound (step (zone_moved z dx dy) t)
  unfolding placed
  ride-sound h = fresh-sound moved (sized-zoned t (with_zone t.records.zones z new) (size_of sound) (length-with t.records.zones z new)) (omega (arith, used-moved, leb-true _ (entry_room t) h)) (standing t sound z there new fit) (λ c e. sound.cars c e) (λ c e. sound.teams c e)

  module _ {s e : List ℕ} {gone come : ℕ} (k : KeysRidden (shape_of t) (rect_of t z) new z (in_use t.derived.starts) t.derived.starts s t.derived.entries e gone come) where
    left : (e ≡ used moved ++ replicate (length t.derived.entries - length (used moved)) free) × (s ≡ ranks e (length t.derived.starts))
    left = k.left (zone-listed sound z stand) (used moved) (rising-keep (on moved) (upto (squares (shape_of t) * 256)) (rising-span 0 (squares (shape_of t) * 256))) (others-placed t sound z there new fit ∙ ap (others z) (sym (front sound z))) (own-placed t sound z there new fit)

    entries-moved : e ≡ entries_of moved
    entries-moved = left.0 ∙ ap (λ (n : ℕ). used moved ++ replicate (n - length (used moved)) free) (size_of sound).lengths.entries

    starts-moved : s ≡ starts_of moved
    starts-moved =
        left.1 ∙ ap₂ ranks entries-moved (size_of sound).lengths.starts
        ∙ map_same (λ (p : ℕ). rank (p * 256) (entries_of moved)) (λ (p : ℕ). length (keys_to moved p)) (upto (squares (shape_of t) + 1)) (λ p m. rank-start moved (sized-zoned t (with_zone t.records.zones z new) (size_of sound) (length-with t.records.zones z new)) p (omega (arith, span→ 0 (squares (shape_of t) + 1) p m)))

    -- ---- the step

    -- what the functions over each table leave
    pub ridden-is : tables t.records.head (with_zone t.records.zones z new) t.records.cars t.records.spots s e (row_now t sound z there new fit) (sets t.derived.tallies (z * tally) (counted t.records.cars (row_now t sound z there new fit) (z * car_room t) (car_room t))) ≡ step (zone_moved z dx dy) t
    ridden-is =
        let w = with_zone t.records.zones z new in
        ap₂ (λ (l m : List ℕ). tables t.records.head w t.records.cars t.records.spots l m (row_now t sound z there new fit) (sets t.derived.tallies (z * tally) (counted t.records.cars (row_now t sound z there new fit) (z * car_room t) (car_room t)))) starts-moved entries-moved
        ∙ ap₂ (λ (l m : List ℕ). tables t.records.head w t.records.cars t.records.spots (starts_of moved) (entries_of moved) l m) (row-placed t sound z there new fit) (tally-placed t sound z there new fit)

  -- ---- the cars

  test_bit : (b : Bool) → ltb 0 (bit b) ≡ b
  test_bit true = refl
  test_bit false = refl

  before : (c : ℕ) → c < car_room t → marked t.derived.rosters (z * car_room t) c ≡ holds_car (town_of t) z c
  unfolding roster_has
  before c h = ap (ltb 0) (roster-byte t sound z c there h) ∙ test_bit (roster_has t z c)

  now : (c : ℕ) → car_within (shape_of t) t.records.cars t.records.spots new c ≡ holds_car (after (zone_moved z dx dy) (town_of t)) z c
  now c = within t sound z there new fit c ∙ ap (λ (m : Town). holds_car m z c) (sym moved_on)

  pub cars-came : keep (λ (c : ℕ). car_within (shape_of t) t.records.cars t.records.spots new c && not (marked t.derived.rosters (z * car_room t) c)) (upto (car_room t)) ≡ cars_more (after (zone_moved z dx dy) (town_of t)) (town_of t) z
  cars-came = keep-ext _ _ (upto (car_room t)) (λ c m. ap₂ (λ (a b : Bool). a && not b) (now c) (before c (omega (arith, span→ 0 (car_room t) c m))))

  pub cars-went : keep (λ (c : ℕ). marked t.derived.rosters (z * car_room t) c && not (car_within (shape_of t) t.records.cars t.records.spots new c)) (upto (car_room t)) ≡ cars_more (town_of t) (after (zone_moved z dx dy) (town_of t)) z
  cars-went = keep-ext _ _ (upto (car_room t)) (λ c m. ap₂ (λ (a b : Bool). a && not b) (before c (omega (arith, span→ 0 (car_room t) c m))) (now c))

-- ---- removed and added again

-- a record that is written was cleared before or not
with-without : (zones : List ℕ) (z : ℕ) (r : Rect) → 4 * z + 4 ≤ length zones → with_zone (without_zone zones z) z r ≡ with_zone zones z r
with-without zones z r h =
    let l = r.a ∷ r.b ∷ r.w ∷ r.h ∷ [] in
    let same : length (without_zone zones z) ≡ length zones = length_without zones z in
    ext_get_or 0 (with_zone (without_zone zones z) z r) (with_zone zones z r)
    (length-sets (without_zone zones z) (4 * z) l ∙ same ∙ sym (length-sets zones (4 * z) l))
    (λ j g. ⊎_elim
    (λ (b : j < 4 * z). sets-apart l (without_zone zones z) (4 * z) j (inl b) ∙ get_or-set_other zones (4 * z + 2) j 0 0 (λ (e : j ≡ 4 * z + 2). omega arith) ∙ sym (sets-apart l zones (4 * z) j (inl b)))
    (λ (b : 4 * z ≤ j). ⊎_elim
    (λ (c : j < 4 * z + 4).
    let n = j - 4 * z in
    let e : 4 * z + n ≡ j = omega arith in
    rw e at (sets-there l (without_zone zones z) (4 * z) n (omega arith) (omega (arith, same)) ∙ sym (sets-there l zones (4 * z) n (omega arith) h)))
    (λ (c : 4 * z + 4 ≤ j). sets-apart l (without_zone zones z) (4 * z) j (inr c) ∙ get_or-set_other zones (4 * z + 2) j 0 0 (λ (e : j ≡ 4 * z + 2). omega arith) ∙ sym (sets-apart l zones (4 * z) j (inr c)))
    (lt-or-le j (4 * z + 4)))
    (lt-or-le j (4 * z)))

-- a ride is a remove and an add at the new place, to the byte
pub ride-again : (t : Tables) (z : ℕ) → 4 * z + 4 ≤ length t.records.zones → (dx dy : ℤ) → step (zone_on z (ridden dx dy (rect_of t z))) (step (zone_off z) t) ≡ step (zone_moved z dx dy) t
unfolding stands placed on roster_has zone_in car_in
ride-again t z h dx dy = ap (λ (l : List ℕ). fresh (zoned t l)) (with-without t.records.zones z (ridden dx dy (rect_of t z)) h)

-- ---- a ride of nothing

same-rect : (r : Rect) → ridden (pos 0) (pos 0) r ≡ r
same-rect r = rw (add-zero r.a, add-zero r.b)

-- a record that is written over itself
with-own : (zones : List ℕ) (z : ℕ) → 4 * z + 4 ≤ length zones → with_zone zones z (rect_in zones z) ≡ zones
with-own zones z h =
    let r = rect_in zones z in
    let l = r.a ∷ r.b ∷ r.w ∷ r.h ∷ [] in
    ext_get_or 0 (with_zone zones z r) zones (length-sets zones (4 * z) l) (λ j g. ⊎_elim
    (λ (b : j < 4 * z). sets-apart l zones (4 * z) j (inl b))
    (λ (b : 4 * z ≤ j). ⊎_elim
    (λ (c : j < 4 * z + 4).
    let n = j - 4 * z in
    let e : 4 * z + n ≡ j = omega arith in
    rw e at (sets-there l zones (4 * z) n (omega arith) h ∙ four n (omega arith)))
    (λ (c : 4 * z + 4 ≤ j). sets-apart l zones (4 * z) j (inr c))
    (lt-or-le j (4 * z + 4)))
    (lt-or-le j (4 * z)))
  where
    four : (n : ℕ) → n < 4 → get_or (get_or zones (4 * z) 0 ∷ get_or zones (4 * z + 1) 0 ∷ get_or zones (4 * z + 2) 0 ∷ get_or zones (4 * z + 3) 0 ∷ []) n 0 ≡ get_or zones (4 * z + n) 0
    four zero b = rw (add-zero (4 * z))
    four (suc zero) b = refl
    four (suc (suc zero)) b = refl
    four (suc (suc (suc zero))) b = refl
    four (suc (suc (suc (suc n)))) b = absurd (omega arith)

-- changes no byte of sound tables
pub ride-still : (t : Tables) → Sound t → (z : ℕ) → z < zone_room t → step (zone_moved z (pos 0) (pos 0)) t ≡ t
ride-still t sound z there =
    let h : 4 * z + 4 ≤ length t.records.zones = omega (arith, (size_of sound).lengths.zones) in
    ap (λ (r : Rect). fresh (zoned t (with_zone t.records.zones z r))) (same-rect (rect_of t z))
    ∙ ap (λ (l : List ℕ). fresh (zoned t l)) (with-own t.records.zones z h)
    ∙ ap (λ (d : Derived). record { records = t.records; derived = d }) (sym sound.derived)
