-- A zone's numbers, counted by a right row of the rosters and by right records, are what the records give.
use Rattle.std.specs.Prelude.{◌≡◌, ℕ, ◌*◌, true, List, ◌∷◌, length, ◌==◌, nat_eq, nat_le}
use Rattle.std.proofs.Math.Path.{ap, fun_ext}
use Rattle.std.proofs.Common.{◌∙◌}
use mathlib.Core.List.{Memᴰ}
use Rattle.order.specs.Order.{upto, keep}
use Rattle.order.specs.TestLaws.{and→}
use Rattle.order.specs.KeepLaws.{keep→, keep-ext}
use Rattle.model.specs.Teams.{last_team, ranked}
use Rattle.model.specs.Model.{drives_for}
use Rattle.tables.specs.Tables.{Tables, car_room, placed, team_of, town_of, roster_has}
use Rattle.tables.specs.Slots.{slot_in}
use Rattle.tables.specs.Rows.{row}
use Rattle.tables.specs.Derived.{tally_of}
use Rattle.tables.specs.RecordLaws.{car-in, slot-team, roster-has}
use Rattle.tallies.specs.Counts.{counted}

module _ (t : Tables) (teams : (c : ℕ) → placed t c ≡ true → nat_le (team_of t c) last_team ≡ true) (rosters : List ℕ) (z : ℕ) (right : row rosters (z * car_room t) (car_room t) ≡ keep (roster_has t z) (upto (car_room t))) where
  abbrev inside : List ℕ
  inside = keep (roster_has t z) (upto (car_room t))

  -- a car's slot is its team
  slot-drives : (g c : ℕ) → Memᴰ c inside → (slot_in t.records.cars c == g) ≡ drives_for (town_of t) g c
  slot-drives g c m =
      let on = (and→ (placed t c) _ (rw (roster-has t z c) at (keep→ (roster_has t z) (upto (car_room t)) c m).1)).0 in
      rw (slot-team t c on (teams c on), car-in t c on)

  pub counted-right : counted t.records.cars rosters (z * car_room t) (car_room t) ≡ tally_of t z
  unfolding counted roster_has
  counted-right =
      ap (λ (l : List ℕ). length l ∷ ranked (λ (g : ℕ). length (keep (λ (c : ℕ). nat_eq (slot_in t.records.cars c) g) l))) right
      ∙ ap (λ (f : ℕ → ℕ). length inside ∷ ranked f) (fun_ext (λ g. ap length (keep-ext (λ (c : ℕ). nat_eq (slot_in t.records.cars c) g) (drives_for (town_of t) g) inside (slot-drives g))))
