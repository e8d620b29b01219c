-- Laws of the tallies of tables of which one car differs: turned for the zones entered and left, they are what the records give.
use Rattle.std.specs.Prelude.{ℕ, ◌+◌, ◌*◌, ◌<◌, ◌≤◌, ◌≡◌, refl, Bool, true, false, List, ◌∷◌, eqb, Float}
use Rattle.std.proofs.Math.Path.{ap, sym, fun_ext}
use Rattle.std.proofs.Common.{ap₂, ◌∙◌, arith, eq-eqb, ne_eqb}
use Rattle.std.proofs.Math.Logic.{⊎_elim}
use Rattle.std.proofs.Math.Bool.{◌&&◌}
use Rattle.std.proofs.Math.ListN.{length}
use Rattle.order.specs.Order.{upto, keep}
use Rattle.order.specs.TestLaws.{true-or-false, true-not-false, same-or-other}
use Rattle.order.specs.KeepLaws.{keep-ext, keep-keep, length-keep, length-span}
use Rattle.order.specs.SumLaws.{count-one}
use Rattle.squares.specs.Shape.{most_cars}
use Rattle.model.specs.Teams.{last_team, ranked}
use Rattle.model.specs.Model.{holds_car, roster, drives_for, squad}
use Rattle.tables.specs.Tables.{Tables, tally, zone_room, car_room, town_of, roster_has}
use Rattle.tables.specs.Sizes.{Sized}
use Rattle.tables.specs.Slots.{tally_at}
use Rattle.tables.specs.Derived.{tally_of, tallies_of}
use Rattle.tables.specs.Steps.{parked}
use Rattle.tables.specs.TallyLaws.{length-tallies, counts-own, holder-own}
use Rattle.tallies.specs.Counts.{swung, moved}
use Rattle.tallies.specs.CountLaws.{counts-swung}
use Rattle.edits.specs.GainLaws.{gained, gained-rise, gained→, →gained}
use Rattle.edits.specs.TallyLaws.{row_of, rows_are, length_moved, moved_apart, moved-there}

abbrev count : Tables → ℕ → ℕ
count t z = length (roster (town_of t) z)

-- a car on a zone's roster that drives for a team
abbrev in_squad : Tables → ℕ → ℕ → ℕ → Bool
in_squad t z h d = roster_has t z d && drives_for (town_of t) h d

squad-is : (t : Tables) (z h : ℕ) → squad (town_of t) z h ≡ length (keep (in_squad t z h) (upto (car_room t)))
unfolding roster_has
squad-is t z h = ap length (keep-keep (drives_for (town_of t) h) (roster_has t z) (upto (car_room t)))

count-few : (t : Tables) (z : ℕ) → count t z ≤ car_room t
count-few t z = omega (arith, length-keep (holds_car (town_of t) z) (upto (car_room t)), length-span 0 (car_room t))

squad-few : (t : Tables) (z h : ℕ) → squad (town_of t) z h ≤ car_room t
squad-few t z h = omega (arith, length-keep (drives_for (town_of t) h) (roster (town_of t) z), count-few t z)

-- a zone's numbers by its count and its teams'
tally-by : {n n' : ℕ} {f f' : ℕ → ℕ} → n ≡ n' → ((h : ℕ) → f h ≡ f' h) → n ∷ ranked f ≡ n' ∷ ranked f'
tally-by e g = ap₂ (λ (n : ℕ) (f : ℕ → ℕ). n ∷ ranked f) e (fun_ext g)

-- ---- one car more in a zone

-- in the second tables zone z has car c, which drives for team g, and in the first it has not; the other cars are as they were
module _ (t u : Tables) (room : car_room u ≡ car_room t) (most : car_room t ≤ most_cars) (c g z : ℕ) (there : c < car_room t) (few : g ≤ last_team) (same : (d : ℕ) → (d ≡ c → ⊥) → roster_has u z d ≡ roster_has t z d) (drives : (h d : ℕ) → (d ≡ c → ⊥) → drives_for (town_of u) h d ≡ drives_for (town_of t) h d) (off : roster_has t z c ≡ false) (on : roster_has u z c ≡ true) (own : (h : ℕ) → drives_for (town_of u) h c ≡ eqb g h) where
  count-more : count u z ≡ count t z + 1
  unfolding roster_has
  count-more = ap (λ (n : ℕ). length (keep (roster_has u z) (upto n))) room ∙ count-one (roster_has u z) (roster_has t z) (car_room t) c there same on off

  squad-same : (h d : ℕ) → (d ≡ c → ⊥) → in_squad u z h d ≡ in_squad t z h d
  squad-same h d f = ap₂ ◌&&◌ (same d f) (drives h d f)

  team-more : squad (town_of u) z g ≡ squad (town_of t) z g + 1
  team-more =
      squad-is u z g
      ∙ ap (λ (n : ℕ). length (keep (in_squad u z g) (upto n))) room
      ∙ count-one (in_squad u z g) (in_squad t z g) (car_room t) c there (squad-same g) (rw (on, own g) (eq-eqb g g refl)) (rw off)
      ∙ ap (λ (n : ℕ). n + 1) (sym (squad-is t z g))

  team-kept : (h : ℕ) → (h ≡ g → ⊥) → squad (town_of u) z h ≡ squad (town_of t) z h
  team-kept h f =
      squad-is u z h
      ∙ ap (λ (n : ℕ). length (keep (in_squad u z h) (upto n))) room
      ∙ ap length (keep-ext (in_squad u z h) (in_squad t z h) (upto (car_room t)) (λ d m. ⊎_elim
      (λ (q : d ≡ c). rw (q, on, off, own h) (ne_eqb g h (λ (e : g ≡ h). f (sym e))))
      (λ (o : d ≡ c → ⊥). squad-same h d o)
      (same-or-other d c)))
      ∙ sym (squad-is t z h)

  -- the car counted, and counted no more
  tally-came : swung (tally_of t z) g 1 ≡ tally_of u z
  tally-came = counts-swung g 1 (counts-own (count t z) (squad (town_of t) z)) (holder-own (count t z) (squad (town_of t) z)) few (omega (arith, count-more, count-few t z)) (omega (arith, team-more, squad-few t z g)) (λ h f. sym (team-kept h f))

  tally-gone : swung (tally_of u z) g 4294967295 ≡ tally_of t z
  tally-gone = counts-swung g 4294967295 (counts-own (count u z) (squad (town_of u) z)) (holder-own (count u z) (squad (town_of u) z)) few (omega (arith, count-more, count-few t z)) (omega (arith, team-more, squad-few t z g)) team-kept

-- ---- tables with other cars, where car c alone differs, and drives for team g wherever it is

module _ (t : Tables) (cars : List ℕ) (spots : List Float) (size : Sized t) (c g : ℕ) (there : c < car_room t) (few : g ≤ last_team) (same : (z d : ℕ) → (d ≡ c → ⊥) → roster_has (parked t cars spots) z d ≡ roster_has t z d) (drives : (h d : ℕ) → (d ≡ c → ⊥) → drives_for (town_of (parked t cars spots)) h d ≡ drives_for (town_of t) h d) (old : (z h : ℕ) → roster_has t z c ≡ true → drives_for (town_of t) h c ≡ eqb g h) (new : (z h : ℕ) → roster_has (parked t cars spots) z c ≡ true → drives_for (town_of (parked t cars spots)) h c ≡ eqb g h) where
  abbrev u : Tables
  u = parked t cars spots

  abbrev came : List ℕ
  came = moved (tallies_of t) (gained t u c) g 1

  abbrev gone : List ℕ
  gone = moved came (gained u t c) g 4294967295

  length-came : length came ≡ zone_room t * tally
  length-came = length_moved (tallies_of t) (gained t u c) g 1 ∙ length-tallies t

  module _ (z : ℕ) (within : z < zone_room t) where
    room : z * tally + tally ≤ length (tallies_of t)
    room = omega (arith, length-tallies t)

    room-came : z * tally + tally ≤ length came
    room-came = omega (arith, length-came)

    stays : roster_has u z c ≡ roster_has t z c → tally_of t z ≡ tally_of u z
    unfolding roster_has
    stays e = tally-by
        (ap length (keep-ext (roster_has t z) (roster_has u z) (upto (car_room t)) (λ d m. ⊎_elim (λ (q : d ≡ c). rw q (sym e)) (λ (f : d ≡ c → ⊥). sym (same z d f)) (same-or-other d c))))
        (λ h. squad-is t z h ∙ ap length (keep-ext (in_squad t z h) (in_squad u z h) (upto (car_room t)) (λ d m. ⊎_elim (λ (q : d ≡ c). rw q (alike h)) (λ (f : d ≡ c → ⊥). sym (ap₂ ◌&&◌ (same z d f) (drives h d f))) (same-or-other d c))) ∙ sym (squad-is u z h))
      where
        alike : (h : ℕ) → in_squad t z h c ≡ in_squad u z h c
        alike h = ⊎_elim
            (λ (q : roster_has t z c ≡ true). rw (q, e ∙ q) (old z h q ∙ sym (new z h (e ∙ q))))
            (λ (q : roster_has t z c ≡ false). rw (q, e ∙ q))
            (true-or-false (roster_has t z c))

    -- zone z's row, if it is on the lists or not
    entered : roster_has u z c ≡ true → roster_has t z c ≡ false → tally_at came z ≡ tally_of u z
    entered e f =
        moved-there (tallies_of t) g 1 z (gained-rise t u c) (→gained t u c z within e f) room
        ∙ ap (λ (l : List ℕ). swung l g 1) (row_of t z within)
        ∙ tally-came t u refl size.room.cars-few c g z there few (same z) drives f e (λ h. new z h e)

    not_entered : (roster_has u z c ≡ true → roster_has t z c ≡ false → ⊥) → tally_at came z ≡ tally_of t z
    not_entered f = moved_apart (tallies_of t) (gained t u c) g 1 z room (λ m. let a = gained→ t u c z m in f a.0 a.1) ∙ row_of t z within

    left : roster_has u z c ≡ false → roster_has t z c ≡ true → tally_at gone z ≡ tally_of u z
    left e f =
        moved-there came g 4294967295 z (gained-rise u t c) (→gained u t c z within f e) room-came
        ∙ ap (λ (l : List ℕ). swung l g 4294967295) (not_entered (λ a b. true-not-false (roster_has u z c) a e))
        ∙ tally-gone u t refl size.room.cars-few c g z there few (λ d o. sym (same z d o)) (λ h d o. sym (drives h d o)) e f (λ h. old z h f)

    not_left : (roster_has t z c ≡ true → roster_has u z c ≡ false → ⊥) → tally_at gone z ≡ tally_at came z
    not_left f = moved_apart came (gained u t c) g 4294967295 z room-came (λ m. let a = gained→ u t c z m in f a.0 a.1)

    row_moved : tally_at gone z ≡ tally_of u z
    row_moved = ⊎_elim
        (λ (e : roster_has u z c ≡ true).
        not_left (λ a b. true-not-false (roster_has u z c) e b)
        ∙ ⊎_elim
        (λ (f : roster_has t z c ≡ true). not_entered (λ a b. true-not-false (roster_has t z c) f b) ∙ stays (e ∙ sym f))
        (λ (f : roster_has t z c ≡ false). entered e f)
        (true-or-false (roster_has t z c)))
        (λ (e : roster_has u z c ≡ false). ⊎_elim
        (λ (f : roster_has t z c ≡ true). left e f)
        (λ (f : roster_has t z c ≡ false). not_left (λ a b. true-not-false (roster_has t z c) a f) ∙ not_entered (λ a b. true-not-false (roster_has u z c) a e) ∙ stays (e ∙ sym f))
        (true-or-false (roster_has t z c)))
        (true-or-false (roster_has u z c))

  -- the rows of the zones entered and left turned, the tallies are what the records give
  pub tallies-moved : moved (moved (tallies_of t) (gained t (parked t cars spots) c) g 1) (gained (parked t cars spots) t c) g 4294967295 ≡ tallies_of (parked t cars spots)
  tallies-moved = rows_are u gone (length_moved came (gained u t c) g 4294967295 ∙ length-came) row_moved
