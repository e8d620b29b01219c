-- Laws of a car's bytes set in the rows of the zones it enters and leaves: the rosters are then what the records give.
-- With them and the rows of the tallies turned, the tables are those of the step.
use Rattle.std.specs.Prelude.{ℕ, ◌+◌, ◌*◌, ◌/◌, ◌%◌, ◌<◌, ◌≡◌, refl, Bool, ◌&&◌, Float, length, get_or}
use Rattle.std.proofs.Math.Path.{ap, ap₂, sym}
use Rattle.std.proofs.Common.{◌∙◌, ⊎_elim, arith, div-add-mod', mod-lt, div-lt_iff_lt-mul, length-set, get_or-set_same, get_or-set_other, ext_get_or}
use Rattle.std.proofs.Math.Bool.{true, false, not, and-true}
use mathlib.Core.List.Memᴰ
use mathlib.Core.List.{List, [], ◌∷◌, Memᴰ}
use Rattle.std.proofs.Math.Option.{Option, none, some}
use Rattle.std.proofs.Math.Dec.{eqb}
use Rattle.std.proofs.Math.Arith.{digits_lt, digits_div, digits_mod}
use Rattle.std.proofs.Math.ListN.{set}
use Rattle.order.specs.Order.{upto, keep}
use Rattle.order.specs.Sums.{bit}
use Rattle.order.specs.TestLaws.{true-or-false, true-not-false, same-or-other}
use Rattle.order.specs.KeepLaws.{keep-ext, keep-none}
use Rattle.position.specs.Answer.{column_of, row_of}
use Rattle.model.specs.TeamLaws.{teamed-few, teamed-own}
use Rattle.model.specs.Model.{Car, Town, there, holds_spot, holds_car, drives_for, teamed, car_at, car_off}
use Rattle.tables.specs.Tables.{Tables, tables, shape_of, zone_room, car_room, placed, car_in, town_of, zone_holds, roster_has}
use Rattle.tables.specs.Slots.{slot_in}
use Rattle.tables.specs.Sizes.{Sized}
use Rattle.tables.specs.Derived.{rosters_of, tallies_of}
use Rattle.tables.specs.Sound.{Sound}
use Rattle.tables.specs.Steps.{fresh, parked, with_spot, step}
use Rattle.tables.specs.CheckLaws.{size_of}
use Rattle.tables.specs.RecordLaws.{car-in, slot-team, rosters-fresh, tallies-fresh}
use Rattle.rosters.specs.Rosters.{stamped}
use Rattle.tallies.specs.Counts.{moved}
use Rattle.edits.specs.RosterLaws.{byte_at, length-rosters}
use Rattle.edits.specs.GainLaws.{gained, gained→, →gained}
use Rattle.edits.specs.SquadLaws.{tallies-moved}
use Rattle.edits.specs.TownLaws.{town-fresh}
use Rattle.edits.specs.CarLaws.{report-own, report-other, drives-own, drives-other, report-keeps, leave_own, leave-other, leave-drives, leave-keeps}

-- ---- what each byte is then

length-stamped : (b zs : List ℕ) (many c v : ℕ) → length (stamped b zs many c v) ≡ length b
unfolding stamped
length-stamped b [] many c v = refl
length-stamped b (z ∷ zs) many c v = length-stamped (set b (z * many + c) v) zs many c v ∙ length-set b (z * many + c) v

stamped-apart : (b zs : List ℕ) (many c v j : ℕ) → ((z : ℕ) → Memᴰ z zs → j ≡ z * many + c → ⊥) → get_or (stamped b zs many c v) j 0 ≡ get_or b j 0
unfolding stamped
stamped-apart b [] many c v j f = refl
stamped-apart b (z ∷ zs) many c v j f = stamped-apart (set b (z * many + c) v) zs many c v j (λ y m. f y (Memᴰ.tail m)) ∙ get_or-set_other b (z * many + c) j v 0 (f z (Memᴰ.head refl))

-- once set, a byte stays
stamped-stays : (b zs : List ℕ) (many c v j : ℕ) → get_or b j 0 ≡ v → j < length b → get_or (stamped b zs many c v) j 0 ≡ v
unfolding stamped
stamped-stays b [] many c v j e h = e
stamped-stays b (z ∷ zs) many c v j e h =
    let at = z * many + c in
    stamped-stays (set b at v) zs many c v j (⊎_elim
    (λ (q : j ≡ at). ap (λ (n : ℕ). get_or (set b at v) n 0) q ∙ get_or-set_same b at v 0 (omega arith))
    (λ (f : j ≡ at → ⊥). get_or-set_other b at j v 0 f ∙ e)
    (same-or-other j at)) (omega (arith, length-set b at v))

stamped-there : (b zs : List ℕ) (many c v z : ℕ) → Memᴰ z zs → z * many + c < length b → get_or (stamped b zs many c v) (z * many + c) 0 ≡ v
unfolding stamped
stamped-there b [] many c v z m h = absurd (Memᴰ.not-nil m)
stamped-there b (y ∷ zs) many c v z m h = ⊎_elim
    (λ (e : z ≡ y). rw e (stamped-stays (set b (y * many + c) v) zs many c v (y * many + c) (get_or-set_same b (y * many + c) v 0 (rw e at h)) (omega (arith, length-set b (y * many + c) v, rw e at h))))
    (λ (n : Memᴰ z zs). stamped-there (set b (y * many + c) v) zs many c v z n (omega (arith, length-set b (y * many + c) v)))
    (Memᴰ.cases_cons m)

-- ---- tables with other cars, where car c alone differs

module _ (t : Tables) (cars : List ℕ) (spots : List Float) (size : Sized t) (c : ℕ) (there : c < car_room t) (same : (z d : ℕ) → (d ≡ c → ⊥) → roster_has (parked t cars spots) z d ≡ roster_has t z d) where
  abbrev u : Tables
  u = parked t cars spots

  abbrev came : List ℕ
  came = stamped (rosters_of t) (gained t u c) (car_room t) c 1

  abbrev after : List ℕ
  after = stamped came (gained u t c) (car_room t) c 0

  length-came : length came ≡ zone_room t * car_room t
  length-came = length-stamped (rosters_of t) (gained t u c) (car_room t) c 1 ∙ length-rosters t

  -- a byte of another car
  byte-other : (z d : ℕ) → z < zone_room t → d < car_room t → (d ≡ c → ⊥) → get_or after (z * car_room t + d) 0 ≡ bit (roster_has u z d)
  byte-other z d g l f =
      stamped-apart came (gained u t c) (car_room t) c 0 (z * car_room t + d) (λ y m. miss y)
      ∙ stamped-apart (rosters_of t) (gained t u c) (car_room t) c 1 (z * car_room t + d) (λ y m. miss y)
      ∙ byte_at t z d g l
      ∙ ap bit (sym (same z d f))
    where
      miss : (y : ℕ) → z * car_room t + d ≡ y * car_room t + c → ⊥
      miss y e = f (sym (digits_mod z l) ∙ ap (λ (n : ℕ). n % car_room t) e ∙ digits_mod y there)

  module _ (z : ℕ) (g : z < zone_room t) where
    at-zone : (y : ℕ) → z * car_room t + c ≡ y * car_room t + c → y ≡ z
    at-zone y e = sym (digits_div y there) ∙ ap (λ (n : ℕ). n / car_room t) (sym e) ∙ digits_div z there

    within : z * car_room t + c < zone_room t * car_room t
    within = digits_lt g there

    unlisted : (v w : Tables) → (roster_has w z c ≡ true → roster_has v z c ≡ false → ⊥) → (y : ℕ) → Memᴰ y (gained v w c) → z * car_room t + c ≡ y * car_room t + c → ⊥
    unlisted v w f y m e =
        let a = gained→ v w c y m in
        let q = sym (at-zone y e) in
        f (ap (λ (x : ℕ). roster_has w x c) q ∙ a.0) (ap (λ (x : ℕ). roster_has v x c) q ∙ a.1)

    -- the car's own byte
    byte-own : get_or after (z * car_room t + c) 0 ≡ bit (roster_has u z c)
    byte-own = ⊎_elim
        (λ (e : roster_has u z c ≡ true).
        stamped-apart came (gained u t c) (car_room t) c 0 (z * car_room t + c) (unlisted u t (λ a b. true-not-false (roster_has u z c) e b))
        ∙ ⊎_elim
        (λ (f : roster_has t z c ≡ true). stamped-apart (rosters_of t) (gained t u c) (car_room t) c 1 (z * car_room t + c) (unlisted t u (λ a b. true-not-false (roster_has t z c) f b)) ∙ byte_at t z c g there ∙ ap bit (f ∙ sym e))
        (λ (f : roster_has t z c ≡ false). stamped-there (rosters_of t) (gained t u c) (car_room t) c 1 z (→gained t u c z g e f) (omega (arith, within, length-rosters t)) ∙ ap bit (sym e))
        (true-or-false (roster_has t z c)))
        (λ (e : roster_has u z c ≡ false). ⊎_elim
        (λ (f : roster_has t z c ≡ true). stamped-there came (gained u t c) (car_room t) c 0 z (→gained u t c z g f e) (omega (arith, within, length-came)) ∙ ap bit (sym e))
        (λ (f : roster_has t z c ≡ false).
        stamped-apart came (gained u t c) (car_room t) c 0 (z * car_room t + c) (unlisted u t (λ a b. true-not-false (roster_has t z c) a f))
        ∙ stamped-apart (rosters_of t) (gained t u c) (car_room t) c 1 (z * car_room t + c) (unlisted t u (λ a b. true-not-false (roster_has u z c) a e))
        ∙ byte_at t z c g there
        ∙ ap bit (f ∙ sym e))
        (true-or-false (roster_has t z c)))
        (true-or-false (roster_has u z c))

  byte : (z d : ℕ) → z < zone_room t → d < car_room t → get_or after (z * car_room t + d) 0 ≡ get_or (rosters_of u) (z * car_room t + d) 0
  byte z d g l = ⊎_elim (λ (e : d ≡ c). rw e (byte-own z g)) (byte-other z d g l) (same-or-other d c) ∙ sym (byte_at u z d g l)

  -- the bytes of the zones entered and left set, the rosters are what the records give
  rosters-stamped : after ≡ rosters_of u
  rosters-stamped = ext_get_or 0 after (rosters_of u)
      (length-stamped came (gained u t c) (car_room t) c 0 ∙ length-came ∙ sym (length-rosters u))
      (λ i h. rw (div-add-mod' i (car_room t)) at (byte (i / car_room t) (i % car_room t) ((div-lt_iff_lt-mul size.room.cars-some).1 (omega (arith, length-stamped came (gained u t c) (car_room t) c 0, length-came))) (mod-lt i size.room.cars-some)))

-- ---- the steps of the calls, table by table

-- what is derived does not matter to a roster
has-fresh : (u : Tables) (z d : ℕ) → roster_has (fresh u) z d ≡ roster_has u z d
unfolding roster_has
has-fresh u z d = ap (λ (m : Town). holds_car m z d) (town-fresh u)

-- a team that a car on the map may report is its own
team-own : (t : Tables) (c g : ℕ) → teamed (car_in t c) g ≡ true → (z h : ℕ) → roster_has t z c ≡ true → drives_for (town_of t) h c ≡ eqb g h
unfolding roster_has
team-own t c g = go (car_in t c)
  where
    go : (o : Option Car) → teamed o g ≡ true → (z h : ℕ) → there o (λ (a : Car). holds_spot (town_of t) z a.position) ≡ true → there o (λ (a : Car). eqb a.team h) ≡ eqb g h
    go none e z h f = absurd (true-not-false false f refl)
    go (some a) e z h f = ap (λ (n : ℕ). eqb n h) (sym (teamed-own a g e))

drives-fresh : (u : Tables) (g d : ℕ) → drives_for (town_of (fresh u)) g d ≡ drives_for (town_of u) g d
drives-fresh u g d = ap (λ (m : Town). drives_for m g d) (town-fresh u)

module _ (t : Tables) (sound : Sound t) (c : ℕ) (there : c < car_room t) where
  -- the zones that a report enters and leaves have their bytes set and their rows turned
  pub reported-is : (a : Car) → teamed (car_in t c) a.team ≡ true → (came gone : List ℕ) → came ≡ keep (λ (z : ℕ). zone_holds t z (column_of (shape_of t) a.position) (row_of (shape_of t) a.position) && not (roster_has t z c)) (upto (zone_room t)) → gone ≡ keep (λ (z : ℕ). roster_has t z c && not (zone_holds t z (column_of (shape_of t) a.position) (row_of (shape_of t) a.position))) (upto (zone_room t)) → tables t.records.head t.records.zones (set t.records.cars c (a.team + 1)) (with_spot t.records.spots c a.position) t.derived.starts t.derived.entries (stamped (stamped t.derived.rosters came (car_room t) c 1) gone (car_room t) c 0) (moved (moved t.derived.tallies came a.team 1) gone a.team 4294967295) ≡ step (car_at c a) t
  reported-is a fits came gone e f =
      let g = a.team in
      let cars = set t.records.cars c (g + 1) in
      let spots = with_spot t.records.spots c a.position in
      let u = parked t cars spots in
      let held : ℕ → Bool = λ z. zone_holds t z (column_of (shape_of t) a.position) (row_of (shape_of t) a.position) in
      let own : (z : ℕ) → roster_has u z c ≡ held z = λ (z : ℕ). sym (has-fresh u z c) ∙ report-own t c a z sound there in
      let e' : came ≡ gained t u c = e ∙ keep-ext _ (λ (z : ℕ). roster_has u z c && not (roster_has t z c)) (upto (zone_room t)) (λ z m. ap (λ (b : Bool). b && not (roster_has t z c)) (sym (own z))) in
      let f' : gone ≡ gained u t c = f ∙ keep-ext _ (λ (z : ℕ). roster_has t z c && not (roster_has u z c)) (upto (zone_room t)) (λ z m. ap (λ (b : Bool). roster_has t z c && not b) (sym (own z))) in
      let same : (z d : ℕ) → (d ≡ c → ⊥) → roster_has u z d ≡ roster_has t z d = λ z d o. sym (has-fresh u z d) ∙ report-other t c a z sound there d o in
      let drives : (h d : ℕ) → (d ≡ c → ⊥) → drives_for (town_of u) h d ≡ drives_for (town_of t) h d = λ h d o. sym (drives-fresh u h d) ∙ drives-other t c a sound there h d o in
      let new : (z h : ℕ) → roster_has u z c ≡ true → drives_for (town_of u) h c ≡ eqb g h = λ z h o. sym (drives-fresh u h c) ∙ drives-own t c a sound there h in
      let bytes = ap₂ (λ (a b : List ℕ). stamped (stamped t.derived.rosters a (car_room t) c 1) b (car_room t) c 0) e' f' ∙ ap (λ (b : List ℕ). stamped (stamped b (gained t u c) (car_room t) c 1) (gained u t c) (car_room t) c 0) (rosters-fresh sound) ∙ rosters-stamped t cars spots (size_of sound) c there same in
      let counts = ap₂ (λ (a b : List ℕ). moved (moved t.derived.tallies a g 1) b g 4294967295) e' f' ∙ ap (λ (b : List ℕ). moved (moved b (gained t u c) g 1) (gained u t c) g 4294967295) (tallies-fresh sound) ∙ tallies-moved t cars spots (size_of sound) c g there (teamed-few (car_in t c) g fits) same drives (λ z h. team-own t c g fits z h) new in
      let keeps = report-keeps t sound c a in
      ap₂ (λ (b n : List ℕ). tables t.records.head t.records.zones cars spots t.derived.starts t.derived.entries b n) bytes counts
      ∙ ap₂ (λ (a b : List ℕ). tables t.records.head t.records.zones cars spots a b (rosters_of u) (tallies_of u)) (sym keeps.starts) (sym keeps.entries)

  -- the zones that a leave takes the car from have their bytes cleared and their rows turned
  pub departed-is : placed t c ≡ true → (gone : List ℕ) → gone ≡ keep (λ (z : ℕ). roster_has t z c) (upto (zone_room t)) → tables t.records.head t.records.zones (set t.records.cars c 0) t.records.spots t.derived.starts t.derived.entries (stamped t.derived.rosters gone (car_room t) c 0) (moved t.derived.tallies gone (slot_in t.records.cars c) 4294967295) ≡ step (car_off c) t
  unfolding stamped moved
  departed-is on gone f =
      let g = slot_in t.records.cars c in
      let cars = set t.records.cars c 0 in
      let u = parked t cars t.records.spots in
      let own : (z : ℕ) → roster_has u z c ≡ false = λ (z : ℕ). sym (has-fresh u z c) ∙ leave_own t c z in
      let none : gained t u c ≡ [] = keep-none (λ (z : ℕ). roster_has u z c && not (roster_has t z c)) (upto (zone_room t)) (λ z m. ap (λ (b : Bool). b && not (roster_has t z c)) (own z)) in
      let f' : gone ≡ gained u t c = f ∙ keep-ext (λ (z : ℕ). roster_has t z c) (λ (z : ℕ). roster_has t z c && not (roster_has u z c)) (upto (zone_room t)) (λ z m. sym (ap (λ (b : Bool). roster_has t z c && not b) (own z) ∙ and-true (roster_has t z c))) in
      let same : (z d : ℕ) → (d ≡ c → ⊥) → roster_has u z d ≡ roster_has t z d = λ z d o. sym (has-fresh u z d) ∙ leave-other t c z d o in
      let drives : (h d : ℕ) → (d ≡ c → ⊥) → drives_for (town_of u) h d ≡ drives_for (town_of t) h d = λ h d o. sym (drives-fresh u h d) ∙ leave-drives t c h d o in
      let old : (z h : ℕ) → roster_has t z c ≡ true → drives_for (town_of t) h c ≡ eqb g h = λ z h o. rw (slot-team t c on (sound.teams c on), car-in t c on) in
      let new : (z h : ℕ) → roster_has u z c ≡ true → drives_for (town_of u) h c ≡ eqb g h = λ z h o. absurd (true-not-false (roster_has u z c) o (own z)) in
      let bytes = ap₂ (λ (a b : List ℕ). stamped a b (car_room t) c 0) (rosters-fresh sound) f' ∙ ap (λ (a : List ℕ). stamped (stamped (rosters_of t) a (car_room t) c 1) (gained u t c) (car_room t) c 0) (sym none) ∙ rosters-stamped t cars t.records.spots (size_of sound) c there same in
      let counts = ap₂ (λ (a b : List ℕ). moved a b g 4294967295) (tallies-fresh sound) f' ∙ ap (λ (a : List ℕ). moved (moved (tallies_of t) a g 1) (gained u t c) g 4294967295) (sym none) ∙ tallies-moved t cars t.records.spots (size_of sound) c g there (omega arith) same drives old new in
      let keeps = leave-keeps t sound c in
      ap₂ (λ (b n : List ℕ). tables t.records.head t.records.zones cars t.records.spots t.derived.starts t.derived.entries b n) bytes counts
      ∙ ap₂ (λ (a b : List ℕ). tables t.records.head t.records.zones cars t.records.spots a b (rosters_of u) (tallies_of u)) (sym keeps.starts) (sym keeps.entries)
