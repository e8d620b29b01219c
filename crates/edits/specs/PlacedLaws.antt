-- Laws of tables in which a zone's record is a rectangle, whether it stood before or not.
use Rattle.std.specs.Prelude.{ℕ, ◌+◌, ◌*◌, ◌%◌, ◌<◌, ◌≤◌, ◌≡◌, Bool, true, false, ◌&&◌, length}
use Rattle.std.proofs.Math.Path.{refl, ap}
use Rattle.std.proofs.Common.{ap₂, sym, ◌∙◌, arith}
use Rattle.std.proofs.Math.Logic.{⊎_elim}
use Rattle.std.proofs.Math.Bool.{and-false}
use mathlib.Core.List.{List, Memᴰ}
use Rattle.std.proofs.Math.Seq.{sets}
use borrow.Author.Tests.{eq-eqb, eqb-true}
use Rattle.order.specs.Order.{upto, keep}
use Rattle.order.specs.Sums.{bit}
use Rattle.order.specs.TestLaws.{true-or-false, and→, same-or-other}
use Rattle.order.specs.KeepLaws.{keep-ext, keep-keep}
use Rattle.order.specs.RisingLaws.{rising-is-keep}
use Rattle.squares.specs.declared.shape.Rect.{Rect}
use Rattle.squares.specs.Bounds.{Fits}
use Rattle.squares.specs.Squares.{squares}
use Rattle.squares.specs.ShapeLaws.{fits→}
use Rattle.model.specs.Model.{holds_car, zone_on, after}
use Rattle.tables.specs.Tables.{Tables, tally, shape_of, zone_room, car_room, rect_in, stands, placed, zone_in, car_in, town_of, roster_has}
use Rattle.tables.specs.Derived.{on, used, rosters_of, tallies_of}
use Rattle.tables.specs.Sound.{Sound}
use Rattle.tables.specs.Steps.{fresh, zoned, with_zone}
use Rattle.tables.specs.RecordLaws.{car-in, car-out, rosters-fresh, tallies-fresh}
use Rattle.tables.specs.RowLaws.{right-row}
use Rattle.tables.specs.CheckLaws.{size_of}
use Rattle.starts.specs.RankLaws.{map_same}
use Rattle.entries.specs.Keys.{zone_keys}
use Rattle.entries.specs.KeyLaws.{keys-rise, keys→, →keys}
use Rattle.entries.specs.Drops.{of_zone, of_other, own, others}
use Rattle.rosters.specs.Inside.{car_within, row_in}
use Rattle.tallies.specs.Counts.{counted}
use Rattle.tallies.specs.RightLaws.{counted-right}
use Rattle.edits.specs.ZoneLaws.{rect-with, rect-with-other, stands-with-other, on-with, on-with-other}
use Rattle.edits.specs.RosterLaws.{has-with, has-with-other, rosters-with}
use Rattle.edits.specs.TallyLaws.{tallies-row}

module _ (t : Tables) (sound : Sound t) (z : ℕ) (there : z < zone_room t) (r : Rect) (fit : Fits (shape_of t) r) where
  abbrev with_it : Tables
  with_it = zoned t (with_zone t.records.zones z r)

  abbrev keys : List ℕ
  keys = zone_keys (shape_of t) r z

  pub record-there : 4 * z + 4 ≤ length t.records.zones
  record-there = omega (arith, (size_of sound).lengths.zones)

  pub few : z < 256
  few = omega (arith, (size_of sound).room.zones-few)

  -- ---- the entries in use

  -- the keys of the rectangle are those of zone z
  pub keys_on : keys ≡ keep (λ (x : ℕ). on with_it x && of_zone z x) (upto (squares (shape_of t) * 256))
  keys_on = rising-is-keep (λ (x : ℕ). on with_it x && of_zone z x) (squares (shape_of t) * 256) keys (keys-rise (shape_of t) r (size_of sound).shape z) from to
    where
      from : (x : ℕ) → Memᴰ x keys → (x < squares (shape_of t) * 256) × ((on with_it x && of_zone z x) ≡ true)
      from x m = let k = keys→ (shape_of t) r (size_of sound).shape z few x m in (omega (arith, k.0), rw (eq-eqb (x % 256) z k.1.0, on-with t z x r record-there fit.columns k.1.0, k.1.1))

      to : (x : ℕ) → x < squares (shape_of t) * 256 → (on with_it x && of_zone z x) ≡ true → Memᴰ x keys
      to x h e = let k = and→ (on with_it x) (of_zone z x) e in let q : x % 256 ≡ z = eqb-true (x % 256) z k.1 in →keys (shape_of t) r (size_of sound).shape z x (omega arith) q (sym (on-with t z x r record-there fit.columns q) ∙ k.0)

  -- of the entries in use they are zone z's, and those of other zones are as they were
  pub own-placed : own z (used (zoned t (with_zone t.records.zones z r))) ≡ zone_keys (shape_of t) r z
  own-placed = keep-keep (of_zone z) (on with_it) (upto (squares (shape_of t) * 256)) ∙ sym keys_on

  pub others-placed : others z (used (zoned t (with_zone t.records.zones z r))) ≡ others z (used t)
  others-placed =
      let all = upto (squares (shape_of t) * 256) in
      keep-keep (of_other z) (on with_it) all ∙ keep-ext (λ (x : ℕ). on with_it x && of_other z x) (λ (x : ℕ). on t x && of_other z x) all (λ x m. same x) ∙ sym (keep-keep (of_other z) (on t) all)
    where
      same : (x : ℕ) → (on with_it x && of_other z x) ≡ (on t x && of_other z x)
      same x = ⊎_elim
          (λ (q : x % 256 ≡ z). rw (eq-eqb (x % 256) z q) (and-false (on with_it x) ∙ sym (and-false (on t x))))
          (λ (f : x % 256 ≡ z → ⊥). ap (λ (b : Bool). b && of_other z x) (on-with-other t z x r f))
          (same-or-other (x % 256) z)

  -- ---- the zone's row and its numbers

  pub within : (c : ℕ) → car_within (shape_of t) t.records.cars t.records.spots r c ≡ holds_car (after (zone_on z r) (town_of t)) z c
  unfolding car_within placed
  within c = ⊎_elim
      (λ (e : placed t c ≡ true). rw (e, sound.cars c e, car-in t c e, eq-eqb z z refl))
      (λ (e : placed t c ≡ false). rw (e, car-out t c e))
      (true-or-false (placed t c))

  pub row-placed : sets t.derived.rosters (z * car_room t) (row_in (shape_of t) t.records.cars t.records.spots r (car_room t)) ≡ rosters_of with_it
  row-placed =
      ap₂ (λ (l m : List ℕ). sets l (z * car_room t) m) (rosters-fresh sound) (map_same (λ (c : ℕ). bit (car_within (shape_of t) t.records.cars t.records.spots r c)) (λ (c : ℕ). bit (roster_has with_it z c)) (upto (car_room t)) (λ c m. ap bit (within c ∙ sym (has-with t (size_of sound) z there r fit.columns z c))))
      ∙ sym (rosters-with t (size_of sound) z there r fit.columns)

  -- its numbers are counted by its row
  abbrev pub row_now : List ℕ
  row_now = sets t.derived.rosters (z * car_room t) (row_in (shape_of t) t.records.cars t.records.spots r (car_room t))

  pub tally-placed : sets t.derived.tallies (z * tally) (counted t.records.cars row_now (z * car_room t) (car_room t)) ≡ tallies_of with_it
  unfolding placed stands zone_in car_in roster_has
  tally-placed =
      ap (λ (l : List ℕ). sets l (z * tally) (counted t.records.cars row_now (z * car_room t) (car_room t))) (tallies-fresh sound)
      ∙ tallies-row t (with_zone t.records.zones z r) z there (has-with-other t (size_of sound) z there r fit.columns) (counted t.records.cars row_now (z * car_room t) (car_room t)) (counted-right with_it (λ c e. sound.teams c e) row_now z (rw row-placed (right-row (fresh with_it) refl z there)))

  -- ---- the zones

  -- the zones that stand fit
  pub standing : (y : ℕ) → stands with_it y ≡ true → Fits (shape_of t) (rect_in (with_zone t.records.zones z r) y)
  unfolding stands
  standing y e = ⊎_elim
      (λ (q : y ≡ z). rw (q, rect-with t.records.zones z r record-there) fit)
      (λ (f : y ≡ z → ⊥). rw (rect-with-other t.records.zones z r y f) (fits→ (shape_of t) (rect_in t.records.zones y) (sound.zones y (sym (stands-with-other t.records.zones z r y f) ∙ e))))
      (same-or-other y z)
