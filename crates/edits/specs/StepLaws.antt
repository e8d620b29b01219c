-- What is derived afresh from sound records makes sound tables; so does a zone taken away.
use Rattle.std.specs.Prelude.{ℕ, ◌+◌, ◌-◌, ◌*◌, ◌<◌, ◌≤◌, ◌≡◌, refl, true, ◌&&◌, List, leb, replicate}
use Rattle.std.proofs.Math.Path.{ap}
use Rattle.std.proofs.Common.{ap₂, sym, ◌∙◌, arith}
use Rattle.std.proofs.Math.Logic.{⊎_elim}
use Rattle.std.proofs.Math.ListN.{length, length-append, length-map}
use Rattle.std.proofs.lemmas.List.{length-replicate}
use Rattle.std.proofs.lemmas.List.Edits.{sets}
use Rattle.order.specs.Order.{upto, keep}
use Rattle.order.specs.TestLaws.{true-not-false, same-or-other}
use Rattle.order.specs.KeepLaws.{length-span, length-keep, keep-ext, keep-keep}
use Rattle.squares.specs.Bounds.{Fits}
use Rattle.squares.specs.Squares.{squares}
use Rattle.position.specs.Answer.{on_town}
use Rattle.model.specs.Teams.{last_team}
use Rattle.model.specs.Model.{zone_off}
use Rattle.tables.specs.Tables.{Tables, tables, tally, shape_of, rect_in, stands_in, zone_room, car_room, entry_room, rect_of, stands, placed, team_of, spot_of, zone_in, car_in, roster_has}
use Rattle.tables.specs.Sizes.{Sized}
use Rattle.tables.specs.Derived.{on, keys_to, used, free, entries_of, starts_of}
use Rattle.tables.specs.Sound.{Sound}
use Rattle.tables.specs.Steps.{fresh, zoned, without_zone, step}
use Rattle.tables.specs.CheckLaws.{size_of, →sized}
use Rattle.tables.specs.RecordLaws.{entries-fresh, rosters-fresh, tallies-fresh}
use Rattle.tables.specs.TallyLaws.{length-tallies}
use Rattle.entries.specs.Drops.{of_other, in_use, Drops}
use Rattle.rosters.specs.Rosters.{row_cleared}
use Rattle.edits.specs.ZoneLaws.{length_without, stands-without, rect-without-other, stands-without-other, on-without, sized-zoned}
use Rattle.edits.specs.DropLaws.{zone-listed, entries-without, starts-without}
use Rattle.squares.specs.ShapeLaws.{fits→, →fits}
use Rattle.edits.specs.RosterLaws.{rosters-without}
use Rattle.edits.specs.TallyLaws.{tallies-without}

-- what is derived goes by the records alone, so working it out again gives the same
module _ (t : Tables) (size : Sized t) (room : length (used t) ≤ entry_room t) (rects : (z : ℕ) → stands t z ≡ true → Fits (shape_of t) (rect_of t z)) (places : (c : ℕ) → placed t c ≡ true → on_town (shape_of t) (spot_of t c) ≡ true) (teams : (c : ℕ) → placed t c ≡ true → leb (team_of t c) last_team ≡ true) where
  pub fresh-sound : Sound (fresh t)
  unfolding stands placed on roster_has zone_in car_in
  fresh-sound = record {
    size = →sized (fresh t) (record {
      shape = size.shape;
      room = size.room;
      lengths = record {
        head = size.lengths.head;
        zones = size.lengths.zones;
        cars = size.lengths.cars;
        spots = size.lengths.spots;
        starts = length-map (upto (squares (shape_of t) + 1)) (λ (p : ℕ). length (keys_to t p)) ∙ length-span 0 (squares (shape_of t) + 1);
        entries = length-append (used t) _ ∙ ap (λ (n : ℕ). length (used t) + n) (length-replicate (entry_room t - length (used t)) free) ∙ omega arith;
        rosters = length-map (upto (zone_room t * car_room t)) _ ∙ length-span 0 (zone_room t * car_room t);
        tallies = length-tallies t;
      };
    });
    zones = λ z e. →fits (shape_of t) (rect_of t z) (rects z e);
    cars = places;
    teams = teams;
    derived = refl;
  }

-- the entries in use have room
pub used-room : (t : Tables) → Sound t → length (used t) ≤ entry_room t
used-room t h = omega (arith, (size_of h).lengths.entries, ap length (entries-fresh h), length-append (used t) (replicate (entry_room t - length (used t)) free))

-- ---- a zone taken away

module _ (t : Tables) (sound : Sound t) (z : ℕ) where
  removed-room : length (used (zoned t (without_zone t.records.zones z))) ≤ length (used t)
  removed-room =
      let l = upto (squares (shape_of t) * 256) in
      rw (keep-ext (on (zoned t (without_zone t.records.zones z))) (λ (key : ℕ). on t key && of_other z key) l (λ key m. on-without t z key), ← keep-keep (of_other z) (on t) l) (length-keep (of_other z) (keep (on t) l))

  -- the zones that still stand are as they were
  standing : (y : ℕ) → stands (zoned t (without_zone t.records.zones z)) y ≡ true → Fits (shape_of t) (rect_in (without_zone t.records.zones z) y)
  unfolding stands
  standing y e = ⊎_elim
      (λ (q : y ≡ z). absurd (true-not-false _ e (ap (stands_in (without_zone t.records.zones z)) q ∙ stands-without t.records.zones z)))
      (λ (f : y ≡ z → ⊥). rw (rect-without-other t.records.zones z y f) (fits→ (shape_of t) (rect_in t.records.zones y) (sound.zones y (sym (stands-without-other t.records.zones z y f) ∙ e))))
      (same-or-other y z)

  pub remove-sound : Sound (step (zone_off z) t)
  unfolding placed
  remove-sound = fresh-sound (zoned t (without_zone t.records.zones z)) (sized-zoned t (without_zone t.records.zones z) (size_of sound) (length_without t.records.zones z)) (omega (arith, removed-room, used-room t sound)) standing (λ c e. sound.cars c e) (λ c e. sound.teams c e)

  -- what the functions over each table leave is the step
  pub removed-is : z < zone_room t → stands t z ≡ true → (s e : List ℕ) → Drops (shape_of t) (rect_of t z) z (in_use t.derived.starts) t.derived.starts s t.derived.entries e → tables t.records.head (without_zone t.records.zones z) t.records.cars t.records.spots s e (row_cleared t.derived.rosters z (car_room t)) (sets t.derived.tallies (z * tally) (replicate tally 0)) ≡ step (zone_off z) t
  removed-is h stand s e drops =
      let d = drops (zone-listed sound z stand) in
      let w = without_zone t.records.zones z in
      let u = zoned t w in
      let rosters = ap (λ (l : List ℕ). row_cleared l z (car_room t)) (rosters-fresh sound) ∙ sym (rosters-without t (size_of sound) z h) in
      let tallies = ap (λ (l : List ℕ). sets l (z * tally) (replicate tally 0)) (tallies-fresh sound) ∙ tallies-without t z h in
      ap₂ (λ (l m : List ℕ). tables t.records.head w t.records.cars t.records.spots l m (row_cleared t.derived.rosters z (car_room t)) (sets t.derived.tallies (z * tally) (replicate tally 0))) (starts-without sound z d) (entries-without sound z d)
      ∙ ap₂ (λ (l m : List ℕ). tables t.records.head w t.records.cars t.records.spots (starts_of u) (entries_of u) l m) rosters tallies
