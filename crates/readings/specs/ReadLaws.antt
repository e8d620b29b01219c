-- What a roster, a count, a holder and a where that are not barred have, and how they keep the promise.
use Rattle.std.specs.Prelude.{ℕ, ◌*◌, ◌<◌, ◌≤◌, ◌≡◌, true, List, [], ◌∷◌, length, get_or}
use Rattle.std.proofs.Math.Path.{refl}
use Rattle.std.proofs.Common.{ap, sym, ◌∙◌, zero-add, arith, leb-true, ltb-true}
use Rattle.order.specs.Order.{upto, over}
use Rattle.order.specs.Order.{Wrote}
use Rattle.order.specs.BufferLaws.{wrote-over}
use Rattle.order.specs.KeepLaws.{length-keep, length-span}
use Rattle.std.specs.declared.result.Result.TheVariants.{Ok}
use Rattle.squares.specs.Refusals.{first, giving}
use Rattle.squares.specs.RefusalLaws.{clear}
use Rattle.model.specs.Answers.{numbers, spot, standing_is, count_is}
use Rattle.model.specs.Model.{ask_where, ask_roster, ask_count, ask_holder, holds_car, roster, meaning}
use Rattle.tables.specs.Tables.{Tables, tally, zone_room, car_room, placed, spot_of, town_of, roster_has}
use Rattle.tables.specs.Slots.{standing_in}
use Rattle.tables.specs.Sizes.{Sized}
use Rattle.tables.specs.CheckLaws.{sized→}
use Rattle.tables.specs.RecordLaws.{placed-known, car-in}
use Rattle.tables.specs.Sound.{Sound}
use Rattle.tables.specs.Rows.{row}
use Rattle.tables.specs.RowLaws.{sound-row}
use Rattle.tables.specs.TallyLaws.{count-sound, standing-sound}
use Rattle.tables.specs.Lent.{both}
use Rattle.promises.specs.Promise.{means, bars, Keeps}
use Rattle.promises.specs.Events.{event, count_told, holder_told, where_told}
use Rattle.promises.specs.PromiseLaws.{keeps-done}
use Rattle.promises.specs.StandingLaws.{There}

-- ---- where a car is

pub record Placed (t : Tables) (c : ℕ) : Type 0 where
  pub none : bars t (ask_where c) ≡ 0
  pub size : Sized t
  pub car : c < car_room t
  pub on-map : placed t c ≡ true

pub placed-there : (t : Tables) (c : ℕ) → bars t (ask_where c) ≡ 0 → Placed t c
unfolding meaning
placed-there t c none =
    let h = clear (means t (ask_where c)).checks refl none in
    record { none = none; size = sized→ t h.0; car = ltb-true c (car_room t) h.1.0; on-map = sym (placed-known t c) ∙ h.1.1.0 }

pub where-kept : {t : Tables} {c : ℕ} → Placed t c → Keeps (both t t) (where_told c (Ok (spot_of t c)))
unfolding meaning first
where-kept {t} {c} ok = keeps-done t (ask_where c) _ t (spot (spot_of t c)) ok.none refl (λ any trust. (refl, (rw (car-in t c ok.on-map), refl)))

-- ---- roster

pub record Standing (t : Tables) (z : ℕ) (b : List ℕ) : Type 0 where
  pub none : bars t (ask_roster z b) ≡ 0
  pub size : Sized t
  pub zone : z < zone_room t
  pub enough : car_room t ≤ length b

pub standing : (t : Tables) (z : ℕ) (b : List ℕ) → bars t (ask_roster z b) ≡ 0 → Standing t z b
unfolding meaning
standing t z b none =
    let h = clear (means t (ask_roster z b)).checks refl none in
    record { none = none; size = sized→ t h.0; zone = ltb-true z (zone_room t) h.1.0; enough = leb-true (car_room t) (length b) h.1.1.1.0 }

module _ {t : Tables} {z : ℕ} {b : List ℕ} (ok : Standing t z b) where
  -- the row is the roster, and it fits
  pub roster-kept : {b' : List ℕ} {n : ℕ} → Wrote b b' 0 n (row t.derived.rosters (z * car_room t) (car_room t)) → Keeps (both t t) (event (ask_roster z b) (b' ∷ []) (count_is (Ok n)))
  unfolding meaning first roster_has
  roster-kept {b'} {n} w = keeps-done t (ask_roster z b) _ t (numbers (n ∷ [])) ok.none refl (λ any sound. (refl, (rw (count sound, written sound), refl)))
    where
      whole : Sound t → Wrote b b' 0 n (roster (town_of t) z)
      whole sound = rw (sound-row t sound z ok.zone) at w

      count : Sound t → n ≡ length (roster (town_of t) z)
      count sound = (whole sound).next ∙ zero-add (length (roster (town_of t) z))

      written : Sound t → b' ≡ over (roster (town_of t) z) b
      written sound = wrote-over (whole sound) (omega (arith, length-keep (holds_car (town_of t) z) (upto (car_room t)), length-span 0 (car_room t), ok.enough))

-- ---- count

-- the stored number is the roster's length
pub count_kept : {t : Tables} {z : ℕ} → There t z → Keeps (both t t) (count_told z (Ok (get_or t.derived.tallies (z * tally) 0)))
unfolding meaning first
count_kept {t} {z} ok = keeps-done t (ask_count z) _ t (numbers (get_or t.derived.tallies (z * tally) 0 ∷ [])) ok.none refl (λ any sound. (refl, (rw (count-sound t sound z ok.zone), refl)))

-- ---- holder

-- the stored numbers are the teams' and the holder
pub holder-kept : {t : Tables} {z : ℕ} → There t z → Keeps (both t t) (holder_told z (Ok (standing_in t.derived.tallies z)))
unfolding meaning first
holder-kept {t} {z} ok = keeps-done t (ask_holder z) _ t (numbers (standing_is (standing_in t.derived.tallies z))) ok.none refl (λ any sound. (refl, (ap (λ (told : List ℕ). giving [] (numbers told)) (standing-sound t sound z ok.zone), refl)))
