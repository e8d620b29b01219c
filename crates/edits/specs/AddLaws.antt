-- Laws of tables with a zone more: they are sound, and they are what the functions over each table leave.
use Rattle.std.specs.Prelude.{ℕ, zero, suc, ◌+◌, ◌-◌, ◌*◌, ◌/◌, ◌%◌, ◌<◌, ◌≤◌, ◌≡◌, refl, true, false, ◌&&◌, leb, get_or, take, drop, replicate}
use Rattle.std.proofs.Common.{ap, ap₂, sym, ◌∙◌, ⊎_elim, arith, mod-eq_of_lt, length-append, take-append-drop, take_at, get_or-append-add}
use Rattle.std.proofs.Math.Bool.{and-true, and-false}
use mathlib.Core.List.{List, ◌++◌, Memᴰ}
use Rattle.std.proofs.Math.Option.{Option, none, some}
use Rattle.std.proofs.Math.ListN.{length, get_or-append}
use Rattle.std.proofs.lemmas.List.Edits.{sets}
use Rattle.std.proofs.Math.Seq.{drop-append-add}
use borrow.Author.Tests.{leb-true, eq-eqb, ne_eqb}
use Rattle.order.specs.Order.{span, upto, keep}
use Rattle.order.specs.Buffer.{rank}
use Rattle.order.specs.RankLaws.{rank-keep}
use Rattle.order.specs.TestLaws.{lt-or-le, true-or-false, true-not-false, and→, same-or-other}
use Rattle.order.specs.KeepLaws.{span→, →span, keep→, →keep, keep-ext, keep-keep, length-keep, length-span}
use Rattle.order.specs.RisingLaws.{rising-span, rising-keep, rising-is-keep, member-at}
use Rattle.squares.specs.declared.shape.Rect.{Rect}
use Rattle.squares.specs.Bounds.{Fits}
use Rattle.squares.specs.Squares.{squares}
use Rattle.squares.specs.ShapeLaws.{squares-few}
use Rattle.cuts.specs.Cut.{in_cut, cut}
use Rattle.model.specs.Model.{Town, holds_car, roster, cut_size, entries_used, zone_on, after, except}
use Rattle.tables.specs.Tables.{Tables, tables, tally, shape_of, zone_room, car_room, entry_room, rect_of, stands, placed, town_of}
use Rattle.tables.specs.Derived.{on, level_at, number_at, keys_to, used, free, entries_of, starts_of, rosters_of, tallies_of}
use Rattle.tables.specs.Sound.{Sound}
use Rattle.tables.specs.Steps.{zoned, with_zone, step}
use Rattle.tables.specs.RecordLaws.{zone-out, entries-fresh}
use Rattle.tables.specs.RowLaws.{mapped}
use Rattle.tables.specs.RunLaws.{keys_from, keys-add, start-at}
use Rattle.tables.specs.CheckLaws.{size_of}
use Rattle.tables.specs.CountLaws.{count-used}
use Rattle.entries.specs.Merge.{Apart, Union, Guided, Merged}
use Rattle.entries.specs.Keys.{zone_keys, KeysAdded}
use Rattle.rosters.specs.Inside.{car_within, row_in, count_in}
use Rattle.tallies.specs.Counts.{counted}
use Rattle.entries.specs.Drops.{of_zone, of_other}
use Rattle.edits.specs.ZoneLaws.{length-with, on-with, on-with-other, sized-zoned}
use Rattle.edits.specs.TownLaws.{except-own, except-other, town-fresh, town-zone-on}
use Rattle.order.specs.SumLaws.{sum_one}
use Rattle.starts.specs.RankLaws.{rank-start}
use Rattle.entries.specs.KeyLaws.{keys-rise, keys→, →keys, length-keys}
use Rattle.edits.specs.DropLaws.{length-parts}
use Rattle.edits.specs.PlacedLaws.{record-there, few, keys_on as keys-placed, within, row_now, row-placed, tally-placed, standing}
use Rattle.edits.specs.StepLaws.{fresh-sound}

-- ---- free marks

drop-marks : (n m : ℕ) → drop n (replicate m free) ≡ replicate (m - n) free
drop-marks zero m = let e : m ≡ m - 0 = omega arith in ap (λ (k : ℕ). replicate k free) e
drop-marks (suc n) zero = let e : 0 ≡ 0 - suc n = omega arith in ap (λ (k : ℕ). replicate k free) e
drop-marks (suc n) (suc m) = let e : m - n ≡ suc m - suc n = omega arith in drop-marks n m ∙ ap (λ (k : ℕ). replicate k free) e

-- ---- the starts of sound tables

-- of the entries in use those from a place's start on are keys of that place or of later ones
starts-guide : {t : Tables} → Sound t → (n : ℕ) → Guided t.derived.starts n (length (used t)) t.derived.entries
starts-guide {t} sound n p low h i from within =
    let d = squares (shape_of t) - p in
    let e : squares (shape_of t) ≡ p + d = omega (arith, (size_of sound).lengths.starts) in
    let parts : used t ≡ keys_to t p ++ keys_from t p d = ap (keys_to t) e ∙ keys-add t p d in
    let m = i - length (keys_to t p) in
    let k : i ≡ length (keys_to t p) + m = omega (arith, start-at sound p (omega arith)) in
    let x = get_or (keys_from t p d) m 0 in
    let there : m < length (keys_from t p d) = omega (arith, ap length parts, length-append (keys_to t p) (keys_from t p d)) in
    let old : get_or t.derived.entries i 0 ≡ get_or (used t) i 0 = ap (λ (l : List ℕ). get_or l i 0) (entries-fresh sound) ∙ get_or-append (used t) (replicate (entry_room t - length (used t)) free) 0 i within in
    let is_x : get_or (used t) i 0 ≡ x = ap₂ (λ (l : List ℕ) (v : ℕ). get_or l v 0) parts k ∙ get_or-append-add (keys_to t p) (keys_from t p d) m 0 in
    rw (old, is_x) (span→ (p * 256) (d * 256) x (keep→ (on t) (span (p * 256) (d * 256)) x (member-at (keys_from t p d) m there)).0).0

-- ---- a zone added

-- a town with a zone more has as many entries more in use as the new cut has squares
count-more : (m : Town) (z : ℕ) (r : Rect) → z < m.opening.zones → m.zone z ≡ none → entries_used (after (zone_on z r) m) ≡ entries_used m + length (cut m.opening.shape r)
count-more m z r there down =
    let size : Option Rect → ℕ = cut_size m.opening.shape in
    sum_one (λ (y : ℕ). size (except z (some r) m.zone y)) (λ (y : ℕ). size (m.zone y)) m.opening.zones z there (λ y f. ap size (except-other z (some r) m.zone y f)) (ap size down)
    ∙ ap (λ (o : Option Rect). entries_used m + size o) (except-own z (some r) m.zone)

-- a key that is on is of a zone that stands
on-stands : (t : Tables) (key : ℕ) → on t key ≡ true → stands t (key % 256) ≡ true
unfolding on
on-stands t key e = (and→ (stands t (key % 256)) (in_cut (shape_of t) (rect_of t (key % 256)) (level_at (shape_of t) (key / 256)) (number_at (shape_of t) (key / 256))) e).0

module _ (t : Tables) (sound : Sound t) (z : ℕ) (there : z < zone_room t) (down : stands t z ≡ false) (r : Rect) (fit : Fits (shape_of t) r) where
  abbrev added : Tables
  added = zoned t (with_zone t.records.zones z r)

  abbrev keys : List ℕ
  keys = zone_keys (shape_of t) r z

  -- as many entries more as the new cut has squares
  pub count-added : length (used (zoned t (with_zone t.records.zones z r))) ≡ length (used t) + length (cut (shape_of t) r)
  count-added =
      count-used added (sized-zoned t (with_zone t.records.zones z r) (size_of sound) (length-with t.records.zones z r))
      ∙ ap entries_used (sym (town-fresh added) ∙ town-zone-on t (size_of sound) z there r fit.columns)
      ∙ count-more (town_of t) z r there (zone-out t z down)
      ∙ ap (λ (n : ℕ). n + length (cut (shape_of t) r)) (sym (count-used t (size_of sound)))

  not_new : (key : ℕ) → on t key ≡ true → key % 256 ≡ z → ⊥
  not_new key e q = true-not-false (stands t z) (ap (stands t) (sym q) ∙ on-stands t key e) down

  -- the entries in use and the new keys have none in common
  old-new : Apart (used t) keys
  old-new = record {
    left = rising-keep (on t) (upto (squares (shape_of t) * 256)) (rising-span 0 (squares (shape_of t) * 256));
    right = keys-rise (shape_of t) r (size_of sound).shape z;
    none = λ x m n. not_new x (keep→ (on t) (upto (squares (shape_of t) * 256)) x m).1 (keys→ (shape_of t) r (size_of sound).shape z (few t sound z there r fit) x n).1.0;
  }

  -- merged they are the entries in use with the new zone
  used-added : (c : List ℕ) → Union (used t) keys c → c ≡ used added
  used-added c u = rising-is-keep (on added) (squares (shape_of t) * 256) c u.rising (λ x m. ⊎_elim (old x) (new x) (u.from x m)) (λ x h e. ⊎_elim (λ (q : x % 256 ≡ z). u.right x (→new x h e q)) (λ (f : x % 256 ≡ z → ⊥). u.left x (→old x h e f)) (same-or-other (x % 256) z))
    where
      old : (x : ℕ) → Memᴰ x (used t) → (x < squares (shape_of t) * 256) × (on added x ≡ true)
      old x m = let k = keep→ (on t) (upto (squares (shape_of t) * 256)) x m in (omega (arith, span→ 0 (squares (shape_of t) * 256) x k.0), on-with-other t z x r (not_new x k.1) ∙ k.1)

      new : (x : ℕ) → Memᴰ x keys → (x < squares (shape_of t) * 256) × (on added x ≡ true)
      new x m = let k = keys→ (shape_of t) r (size_of sound).shape z (few t sound z there r fit) x m in (omega (arith, k.0), on-with t z x r (record-there t sound z there r fit) fit.columns k.1.0 ∙ k.1.1)

      →old : (x : ℕ) → x < squares (shape_of t) * 256 → on added x ≡ true → (x % 256 ≡ z → ⊥) → Memᴰ x (used t)
      →old x h e f = →keep (on t) (upto (squares (shape_of t) * 256)) x (→span 0 (squares (shape_of t) * 256) x (omega arith) (omega arith)) (sym (on-with-other t z x r f) ∙ e)

      →new : (x : ℕ) → x < squares (shape_of t) * 256 → on added x ≡ true → x % 256 ≡ z → Memᴰ x keys
      →new x h e q = →keys (shape_of t) r (size_of sound).shape z x (omega arith) q (sym (on-with t z x r (record-there t sound z there r fit) fit.columns q) ∙ e)

  -- the new keys merged into the entries in use
  entries-added : (e : List ℕ) → Merged t.derived.starts t.derived.entries e (length (used t)) keys → e ≡ entries_of added
  entries-added e m =
      let u = length (used t) in
      let n = length keys in
      let marks = replicate (entry_room t - u) free in
      let more : length (used added) ≡ u + n = count-added ∙ ap (λ (k : ℕ). u + k) (sym (length-keys (shape_of t) r (size_of sound).shape z)) in
      let first : take u t.derived.entries ≡ used t = ap (take u) (entries-fresh sound) ∙ take_at (used t) marks u refl in
      let front : take (u + n) e ≡ used added = used-added (take (u + n) e) (rw first at (m.front (starts-guide sound n) (rw first old-new))) in
      let left : entry_room t - u - n ≡ entry_room t - length (used added) = omega arith in
      let rest : drop (u + n) e ≡ replicate (entry_room t - length (used added)) free = m.rest ∙ ap (drop (u + n)) (entries-fresh sound) ∙ drop-append-add (used t) marks n ∙ drop-marks n (entry_room t - u) ∙ ap (λ (k : ℕ). replicate k free) left in
      sym (take-append-drop (u + n) e) ∙ ap₂ ◌++◌ front rest

  -- ---- the starts

  -- the new keys are those of zone z
  keys_on : keys ≡ keep (λ (x : ℕ). on added x && of_zone z x) (upto (squares (shape_of t) * 256))
  keys_on = keys-placed t sound z there r fit

  -- without the new keys the keys are as before
  on-other : (x : ℕ) → (on added x && of_other z x) ≡ on t x
  on-other x = ⊎_elim
      (λ (q : x % 256 ≡ z). rw (eq-eqb (x % 256) z q) (and-false (on added x) ∙ ⊎_elim (λ (e : on t x ≡ true). absurd (not_new x e q)) (λ (e : on t x ≡ false). sym e) (true-or-false (on t x))))
      (λ (f : x % 256 ≡ z → ⊥). rw (ne_eqb (x % 256) z f) (and-true (on added x) ∙ on-with-other t z x r f))
      (same-or-other (x % 256) z)

  -- before each place lie the old keys and the new ones
  count-to : (p : ℕ) → p ≤ squares (shape_of t) → length (keys_to added p) ≡ length (keys_to t p) + rank (p * 256) keys
  count-to p h =
      let own_keys = keep-keep (of_zone z) (on added) (upto (p * 256)) in
      let old-keys = keep-keep (of_other z) (on added) (upto (p * 256)) ∙ keep-ext (λ (x : ℕ). on added x && of_other z x) (on t) (upto (p * 256)) (λ x m. on-other x) in
      length-parts z (keys_to added p)
      ∙ ap₂ ◌+◌ (ap length old-keys) (ap length own_keys ∙ sym (rank-keep (λ (x : ℕ). on added x && of_zone z x) (p * 256) (squares (shape_of t) * 256) (omega arith)) ∙ ap (rank (p * 256)) (sym keys_on))

  starts-added : (s e : List ℕ) → KeysAdded (shape_of t) r z (length (used t)) t.derived.starts s t.derived.entries e → s ≡ starts_of added
  starts-added s e k =
      mapped s (λ (p : ℕ). length (keys_to added p)) (squares (shape_of t) + 1) (k.long ∙ (size_of sound).lengths.starts) (λ p h. ⊎_elim
      (λ (l : p < length keys). k.counted p l ∙ ap (rank (p * 256)) (entries-added e k.merged) ∙ rank-start added (sized-zoned t (with_zone t.records.zones z r) (size_of sound) (length-with t.records.zones z r)) p (omega arith))
      (λ (l : length keys ≤ p). k.raised p l (omega (arith, (size_of sound).lengths.starts)) ∙ rw (start-at sound p (omega arith)) (mod-eq_of_lt (omega (arith, few-to p (omega arith), count-to p (omega arith))) ∙ sym (count-to p (omega arith))))
      (lt-or-le p (length keys)))
    where
      few-to : (p : ℕ) → p ≤ squares (shape_of t) → length (keys_to added p) ≤ 22369792
      few-to p h = omega (arith, length-keep (on added) (upto (p * 256)), length-span 0 (p * 256), squares-few (shape_of t) (size_of sound).shape)

  -- ---- the new zone's roster

  -- its cars are those in the rectangle
  pub cars-added : count_in (shape_of t) t.records.cars t.records.spots r (car_room t) ≡ length (roster (after (zone_on z r) (town_of t)) z)
  cars-added = ap length (keep-ext (car_within (shape_of t) t.records.cars t.records.spots r) (holds_car (after (zone_on z r) (town_of t)) z) (upto (car_room t)) (λ c m. within t sound z there r fit c))

  -- its row, and its numbers counted by its row
  row-added : sets t.derived.rosters (z * car_room t) (row_in (shape_of t) t.records.cars t.records.spots r (car_room t)) ≡ rosters_of added
  row-added = row-placed t sound z there r fit

  tally-added : sets t.derived.tallies (z * tally) (counted t.records.cars (row_now t sound z there r fit) (z * car_room t) (car_room t)) ≡ tallies_of added
  tally-added = tally-placed t sound z there r fit

  -- ---- the step

  pub add-sound : leb (entries_used (town_of t) + length (cut (shape_of t) r)) (entry_room t) ≡ true → Sound (step (zone_on z r) t)
  unfolding placed
  add-sound h = fresh-sound added (sized-zoned t (with_zone t.records.zones z r) (size_of sound) (length-with t.records.zones z r)) (omega (arith, count-added, count-used t (size_of sound), leb-true (entries_used (town_of t) + length (cut (shape_of t) r)) (entry_room t) h)) (standing t sound z there r fit) (λ c e. sound.cars c e) (λ c e. sound.teams c e)

  -- what the functions over each table leave is the step
  pub added_is : (s e : List ℕ) → KeysAdded (shape_of t) r z (length (used t)) t.derived.starts s t.derived.entries e → tables t.records.head (with_zone t.records.zones z r) t.records.cars t.records.spots s e (sets t.derived.rosters (z * car_room t) (row_in (shape_of t) t.records.cars t.records.spots r (car_room t))) (sets t.derived.tallies (z * tally) (counted t.records.cars (row_now t sound z there r fit) (z * car_room t) (car_room t))) ≡ step (zone_on z r) t
  added_is s e k =
      let w = with_zone t.records.zones z r in
      let entries = entries-added e k.merged in
      let starts = starts-added s e k in
      ap (λ (l : List ℕ). tables t.records.head w t.records.cars t.records.spots l e (sets t.derived.rosters (z * car_room t) (row_in (shape_of t) t.records.cars t.records.spots r (car_room t))) (sets t.derived.tallies (z * tally) (counted t.records.cars (row_now t sound z there r fit) (z * car_room t) (car_room t)))) starts
      ∙ ap₂ (λ (l m : List ℕ). tables t.records.head w t.records.cars t.records.spots (starts_of added) l m (sets t.derived.tallies (z * tally) (counted t.records.cars (row_now t sound z there r fit) (z * car_room t) (car_room t)))) entries row-added
      ∙ ap (λ (l : List ℕ). tables t.records.head w t.records.cars t.records.spots (starts_of added) (entries_of added) (rosters_of added) l) tally-added
