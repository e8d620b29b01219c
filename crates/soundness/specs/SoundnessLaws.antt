-- The tests of soundness pass exactly on sound tables.
use Rattle.std.specs.Prelude.{ℕ, suc, ◌+◌, ◌-◌, ◌*◌, ◌/◌, ◌%◌, ◌<◌, ◌≤◌, ◌≡◌, Bool, ◌&&◌, leb, ltb, eqb, Float, drop, replicate}
use Rattle.std.proofs.Math.Path.{refl, ap, sym}
use Rattle.std.proofs.Common.{ap₂, ◌∙◌, arith, add-one, length-append, length-drop, take-append-drop, take_at, drop_at, ext_get_or}
use Rattle.std.proofs.Math.Logic.{⊎_elim}
use Rattle.std.proofs.Math.Bool.{true, false, cond}
use mathlib.Core.List.{List, ◌++◌, Memᴰ}
use Rattle.std.proofs.Math.ListN.{length, get_or, take, length-replicate, get_or-replicate, get_or-eq_default}
use Rattle.std.proofs.Math.Seq.{length-take-le, get_or-take}
use borrow.Author.Tests.{le-leb, lt-ltb, eq-eqb, leb-true, ltb-true, eqb-true}
use Rattle.order.specs.Order.{upto}
use Rattle.order.specs.Rising.{Rising}
use Rattle.order.specs.Sums.{sum, bit}
use Rattle.order.specs.Buffer.{rank}
use Rattle.order.specs.RankLaws.{rank-keep}
use Rattle.order.specs.TestLaws.{lt-or-le, and→, true-not-false}
use Rattle.order.specs.KeepLaws.{span→, keep→}
use Rattle.order.specs.RisingLaws.{rising-keep, rising-span, member-at, index_of, rising-next, →rising, full-count}
use Rattle.squares.specs.declared.shape.Shape.{Shape}
use Rattle.squares.specs.Shape.{fits}
use Rattle.squares.specs.Bounds.{Fits}
use Rattle.squares.specs.Squares.{squares}
use Rattle.squares.specs.ShapeLaws.{fits→, →fits}
use Rattle.position.specs.Answer.{on_town}
use Rattle.model.specs.Teams.{last_team}
use Rattle.tables.specs.Tables.{Tables, tally, shape_of, zone_room, car_room, entry_room, rect_in, stands_in, stands, placed, placed_in, team_in, team_of, spot_in, zone_in, car_in, roster_has, rect_of}
use Rattle.tables.specs.Sizes.{Sized}
use Rattle.tables.specs.Derived.{on, keys_to, used, free, entries_of, starts_of, rosters_of, tally_of, tallies_of, derived_of}
use Rattle.tables.specs.Sound.{Sound}
use Rattle.tables.specs.RecordLaws.{starts-fresh, entries-fresh, rosters-fresh, tallies-fresh}
use Rattle.tables.specs.CountLaws.{past-zones, count-used}
use Rattle.soundness.specs.Tests.{every, zone_fits, car_fits, key_right, right_at, rises_at, free_at, size_at, start_right, has, byte_right, number_right, tally_right, in_use, records_right, entries_right, sound}
use Rattle.soundness.specs.EveryLaws.{every→, →every}
use Rattle.soundness.specs.StartLaws.{parts-rank, rank-parts}
use Rattle.tables.specs.CheckLaws.{→sized}
use Rattle.tables.specs.RowLaws.{mapped, mapped_at, right-row}
use Rattle.tables.specs.TallyLaws.{tally-at, tallies-by}
use Rattle.tallies.specs.Counts.{counted}
use Rattle.tallies.specs.RightLaws.{counted-right}

-- ---- zones and cars

-- a test where it is asked for
asked : (a b : Bool) → a ≡ true → cond a b true ≡ true → b ≡ true
asked true b e f = f
asked false b e f = absurd (true-not-false false e refl)

module _ (s : Shape) (zones : List ℕ) (Z : ℕ) where
  pub zones→ : length zones ≡ 4 * Z → every (zone_fits s zones) Z ≡ true → (z : ℕ) → stands_in zones z ≡ true → Fits s (rect_in zones z)
  unfolding zone_fits
  zones→ l e z h = ⊎_elim
      (λ (g : z < Z). fits→ s (rect_in zones z) (asked (stands_in zones z) _ h (every→ (zone_fits s zones) Z e z g)))
      (λ (g : Z ≤ z). absurd (true-not-false _ h (past-zones zones Z l z g)))
      (lt-or-le z Z)

  →zones : ((z : ℕ) → stands_in zones z ≡ true → Fits s (rect_in zones z)) → every (zone_fits s zones) Z ≡ true
  unfolding zone_fits
  →zones f = →every (zone_fits s zones) Z (λ z g. go z (stands_in zones z) (λ e. →fits s (rect_in zones z) (f z e)))
    where
      go : (z : ℕ) (b : Bool) → (b ≡ true → fits s (rect_in zones z) ≡ true) → cond b (fits s (rect_in zones z)) true ≡ true
      go z true h = h refl
      go z false h = refl

module _ (s : Shape) (cars : List ℕ) (spots : List Float) (C : ℕ) where
  abbrev fit : ℕ → Bool
  fit c = leb (team_in cars c) last_team && on_town s (spot_in spots c)

  pub cars→ : length cars ≡ C → every (car_fits s cars spots) C ≡ true → (c : ℕ) → placed_in cars c ≡ true → (leb (team_in cars c) last_team ≡ true) × (on_town s (spot_in spots c) ≡ true)
  unfolding car_fits
  cars→ l e c h = ⊎_elim
      (λ (g : c < C). and→ (leb (team_in cars c) last_team) _ (asked (placed_in cars c) (fit c) h (every→ (car_fits s cars spots) C e c g)))
      (λ (g : C ≤ c). absurd (true-not-false _ h (rw (get_or-eq_default cars 0 {n = c} (omega arith)))))
      (lt-or-le c C)

  →cars : ((c : ℕ) → placed_in cars c ≡ true → leb (team_in cars c) last_team ≡ true) → ((c : ℕ) → placed_in cars c ≡ true → on_town s (spot_in spots c) ≡ true) → every (car_fits s cars spots) C ≡ true
  unfolding car_fits
  →cars teams f = →every (car_fits s cars spots) C (λ c g. go c (placed_in cars c) (λ e. rw (teams c e, f c e)))
    where
      go : (c : ℕ) (b : Bool) → (b ≡ true → fit c ≡ true) → cond b (fit c) true ≡ true
      go c true h = h refl
      go c false h = refl

-- ---- entries

-- the entries in use are at the front, and the rest is free
record Whole (t : Tables) : Type 0 where
  few : in_use t ≤ length t.derived.entries
  front : take (in_use t) t.derived.entries ≡ used t
  rest : drop (in_use t) t.derived.entries ≡ replicate (entry_room t - in_use t) free

-- what is free from u on is so many free marks
all-free : (entries : List ℕ) (u E : ℕ) → length entries ≡ E → every (free_at (drop u entries)) (length (drop u entries)) ≡ true → drop u entries ≡ replicate (E - u) free
all-free entries u E l e =
    let many : length (drop u entries) ≡ E - u = omega (arith, length-drop u entries) in
    ext_get_or 0 (drop u entries) (replicate (E - u) free) (many ∙ sym (length-replicate (E - u) free)) (λ i h. eqb-true _ _ (every→ (free_at (drop u entries)) (length (drop u entries)) e i h) ∙ sym (get_or-replicate (E - u) i free 0 (omega arith)))

key_right_lem : (t : Tables) (key : ℕ) → key_right (shape_of t) t.records.zones key ≡ (ltb (key / 256) (squares (shape_of t)) && on t key)
unfolding key_right on stands
key_right_lem t key = refl

-- as many as the tests add up are in use
count-sizes : (t : Tables) → Sized t → length (used t) ≡ sum (size_at (shape_of t) t.records.zones) (zone_room t)
unfolding zone_in stands
count-sizes t size = count-used t size

abbrev right : Tables → Bool
right t = entries_right (shape_of t) (zone_room t) t.records.zones t.derived.entries (in_use t)

module _ (t : Tables) (size : Sized t) where
  entries→ : right t ≡ true → Whole t
  unfolding entries_right
  entries→ e =
      let s = shape_of t in
      let S = squares s in
      let u = in_use t in
      let list = t.derived.entries in
      let front = take u list in
      let a = and→ (leb u (length list)) _ e in
      let b = and→ (every (rises_at list) (u - 1)) _ a.1 in
      let c = and→ (every (right_at s t.records.zones list) u) _ b.1 in
      let d = and→ (eqb u (sum (size_at s t.records.zones) (zone_room t))) _ c.1 in
      let few : u ≤ length list = leb-true u (length list) a.0 in
      let many : length front ≡ u = length-take-le u list few in
      let rises : Rising front = →rising front (λ i h. rw (get_or-take u list i 0 (omega arith), get_or-take u list (suc i) 0 (omega arith)) (ltb-true _ _ (rw (add-one i) at (every→ (rises_at list) (u - 1) b.0 i (omega arith))))) in
      let members : (x : ℕ) → Memᴰ x front → (x < S * 256) × (on t x ≡ true) = λ x m. member x (right-member few c.0 x m) in
      let all : length front ≡ length (used t) = many ∙ eqb-true u _ d.0 ∙ sym (count-sizes t size) in
      record {
        few = few;
        front = full-count (on t) (S * 256) front rises members all;
        rest = all-free list u (entry_room t) size.lengths.entries d.1;
      }
    where
      right-member : in_use t ≤ length t.derived.entries → every (right_at (shape_of t) t.records.zones t.derived.entries) (in_use t) ≡ true → (x : ℕ) → Memᴰ x (take (in_use t) t.derived.entries) → key_right (shape_of t) t.records.zones x ≡ true
      right-member few e x m =
          let a = index_of (take (in_use t) t.derived.entries) x m in
          let i = a.0 in
          let below : i < in_use t = omega (arith, a.1, length-take-le (in_use t) t.derived.entries few) in
          ap (key_right (shape_of t) t.records.zones) (sym a.2 ∙ get_or-take (in_use t) t.derived.entries i 0 below) ∙ every→ (right_at (shape_of t) t.records.zones t.derived.entries) (in_use t) e i below

      member : (x : ℕ) → key_right (shape_of t) t.records.zones x ≡ true → (x < squares (shape_of t) * 256) × (on t x ≡ true)
      member x e = let a = and→ (ltb (x / 256) (squares (shape_of t))) (on t x) (sym (key_right_lem t x) ∙ e) in (omega (arith, ltb-true (x / 256) (squares (shape_of t)) a.0), a.1)

  →entries : Whole t → right t ≡ true
  unfolding entries_right
  →entries w =
      let s = shape_of t in
      let S = squares s in
      let u = in_use t in
      let list = t.derived.entries in
      let many : length (used t) ≡ u = sym (ap length w.front) ∙ length-take-le u list w.few in
      let at : (i : ℕ) → i < u → get_or list i 0 ≡ get_or (used t) i 0 = λ i h. sym (get_or-take u list i 0 h) ∙ ap (λ (l : List ℕ). get_or l i 0) w.front in
      let rises = →every (rises_at list) (u - 1) (λ i h. lt-ltb (get_or list i 0) (get_or list (i + 1) 0) (rw (add-one i, at i (omega arith), at (suc i) (omega arith)) (rising-next (rising-keep (on t) (upto (S * 256)) (rising-span 0 (S * 256))) i (omega arith)))) in
      let rights = →every (right_at s t.records.zones list) u (λ i h. ap (key_right s t.records.zones) (at i h) ∙ key_right_lem t (get_or (used t) i 0) ∙ member (get_or (used t) i 0) (member-at (used t) i (omega arith))) in
      let frees = →every (free_at (drop u list)) (length (drop u list)) (λ i h. eq-eqb _ _ (ap (λ (l : List ℕ). get_or l i 0) w.rest ∙ get_or-replicate (entry_room t - u) i free 0 (omega (arith, ap length w.rest, length-replicate (entry_room t - u) free)))) in
      rw (le-leb u (length list) w.few, rises, rights, eq-eqb u _ (sym many ∙ count-sizes t size), frees)
    where
      member : (x : ℕ) → Memᴰ x (used t) → (ltb (x / 256) (squares (shape_of t)) && on t x) ≡ true
      member x m =
          let a = keep→ (on t) (upto (squares (shape_of t) * 256)) x m in
          let b = span→ 0 (squares (shape_of t) * 256) x a.0 in
          rw (lt-ltb (x / 256) (squares (shape_of t)) (omega arith), a.1)

  whole-entries : Whole t → t.derived.entries ≡ entries_of t
  whole-entries w =
      let many : length (used t) ≡ in_use t = sym (ap length w.front) ∙ length-take-le (in_use t) t.derived.entries w.few in
      sym (take-append-drop (in_use t) t.derived.entries) ∙ ap₂ ◌++◌ w.front (w.rest ∙ ap (λ (n : ℕ). replicate (entry_room t - n) free) (sym many))

  entries-whole : in_use t ≡ length (used t) → t.derived.entries ≡ entries_of t → Whole t
  entries-whole i e =
      let rest = replicate (entry_room t - length (used t)) free in
      record {
        few = omega (arith, i, ap length e, length-append (used t) rest);
        front = ap (take (in_use t)) e ∙ take_at (used t) rest (in_use t) (sym i);
        rest = ap (drop (in_use t)) e ∙ drop_at (used t) rest (in_use t) (sym i) ∙ ap (λ (n : ℕ). replicate (entry_room t - n) free) (sym i);
      }

  -- ---- starts

  abbrev starting : Bool
  starting = every (start_right t.derived.starts t.derived.entries (in_use t)) (squares (shape_of t) + 1)

  starts→ : Whole t → starting ≡ true → t.derived.starts ≡ starts_of t
  starts→ w e =
      let S = squares (shape_of t) in
      let rises : Rising (take (in_use t) t.derived.entries) = rw w.front (rising-keep (on t) (upto (S * 256)) (rising-span 0 (S * 256))) in
      mapped t.derived.starts (λ (p : ℕ). length (keys_to t p)) (S + 1) size.lengths.starts (λ p h. parts-rank t.derived.entries (in_use t) (p * 256) (get_or t.derived.starts p 0) w.few rises (every→ (start_right t.derived.starts t.derived.entries (in_use t)) (S + 1) e p h) ∙ ap (rank (p * 256)) w.front ∙ rank-keep (on t) (p * 256) (S * 256) (omega arith))

  →starts : Whole t → t.derived.starts ≡ starts_of t → starting ≡ true
  →starts w e =
      let S = squares (shape_of t) in
      →every (start_right t.derived.starts t.derived.entries (in_use t)) (S + 1) (λ p h. rank-parts t.derived.entries (in_use t) (p * 256) (get_or t.derived.starts p 0) w.few (mapped_at t.derived.starts (λ (q : ℕ). length (keys_to t q)) (S + 1) p e h ∙ sym (rank-keep (on t) (p * 256) (S * 256) (omega arith)) ∙ ap (rank (p * 256)) (sym w.front)))

  in_use_lem : t.derived.starts ≡ starts_of t → in_use t ≡ length (used t)
  in_use_lem e = let S = squares (shape_of t) in mapped_at t.derived.starts (λ (q : ℕ). length (keys_to t q)) (S + 1) S e (omega arith)

  -- ---- rosters

  has-is : (z c : ℕ) → has (shape_of t) t.records.zones t.records.cars t.records.spots z c ≡ roster_has t z c
  unfolding has roster_has car_in zone_in placed stands
  has-is z c = refl

  abbrev listed : Bool
  listed = every (byte_right (shape_of t) t.records.zones t.records.cars t.records.spots t.derived.rosters (car_room t)) (zone_room t * car_room t)

  rosters→ : listed ≡ true → t.derived.rosters ≡ rosters_of t
  unfolding byte_right
  rosters→ e = mapped t.derived.rosters (λ (i : ℕ). bit (roster_has t (i / car_room t) (i % car_room t))) (zone_room t * car_room t) size.lengths.rosters (λ i h. eqb-true _ _ (every→ (byte_right (shape_of t) t.records.zones t.records.cars t.records.spots t.derived.rosters (car_room t)) (zone_room t * car_room t) e i h) ∙ ap bit (has-is (i / car_room t) (i % car_room t)))

  →rosters : t.derived.rosters ≡ rosters_of t → listed ≡ true
  unfolding byte_right
  →rosters e = →every (byte_right (shape_of t) t.records.zones t.records.cars t.records.spots t.derived.rosters (car_room t)) (zone_room t * car_room t) (λ i h. eq-eqb _ _ (mapped_at t.derived.rosters (λ (j : ℕ). bit (roster_has t (j / car_room t) (j % car_room t))) (zone_room t * car_room t) i e h ∙ ap bit (sym (has-is (i / car_room t) (i % car_room t)))))

  -- ---- tallies

  abbrev tallied : Bool
  tallied = every (tally_right t.records.cars t.derived.rosters t.derived.tallies (car_room t)) (zone_room t)

  module _ (teams : (c : ℕ) → placed t c ≡ true → leb (team_of t c) last_team ≡ true) (rosters : t.derived.rosters ≡ rosters_of t) where
    row_is : (z : ℕ) → z < zone_room t → counted t.records.cars t.derived.rosters (z * car_room t) (car_room t) ≡ tally_of t z
    row_is z g = counted-right t teams t.derived.rosters z (right-row t rosters z g)

    tallies→ : tallied ≡ true → t.derived.tallies ≡ tallies_of t
    unfolding tally_right
    tallies→ e = tallies-by t t.derived.tallies size.lengths.tallies (λ z j g l. eqb-true _ _ (every→ (number_right t.derived.tallies z (counted t.records.cars t.derived.rosters (z * car_room t) (car_room t))) tally (every→ (tally_right t.records.cars t.derived.rosters t.derived.tallies (car_room t)) (zone_room t) e z g) j l) ∙ ap (λ (row : List ℕ). get_or row j 0) (row_is z g))

    →tallies : t.derived.tallies ≡ tallies_of t → tallied ≡ true
    unfolding tally_right
    →tallies e = →every (tally_right t.records.cars t.derived.rosters t.derived.tallies (car_room t)) (zone_room t) (λ z g. →every (number_right t.derived.tallies z (counted t.records.cars t.derived.rosters (z * car_room t) (car_room t))) tally (λ j l. eq-eqb _ _ (ap (λ (n : List ℕ). get_or n (z * tally + j) 0) e ∙ tally-at t z j g l ∙ sym (ap (λ (row : List ℕ). get_or row j 0) (row_is z g)))))

  -- ---- all of them

  same-derived : t.derived.starts ≡ starts_of t → t.derived.entries ≡ entries_of t → t.derived.rosters ≡ rosters_of t → t.derived.tallies ≡ tallies_of t → t.derived ≡ derived_of t
  same-derived a b c d = rw (← a, ← b, ← c, ← d)

  pub sound→ : sound t ≡ true → Sound t
  unfolding sound stands placed
  sound→ e =
      let s = shape_of t in
      let a = and→ (records_right t) _ e in
      let records = and→ (every (zone_fits s t.records.zones) (zone_room t)) _ a.0 in
      let b = and→ (right t) _ a.1 in
      let c = and→ starting _ b.1 in
      let d = and→ listed _ c.1 in
      let w = entries→ b.0 in
      let rosters = rosters→ d.0 in
      let cars = cars→ s t.records.cars t.records.spots (car_room t) size.lengths.cars records.1 in
      record {
        size = →sized t size;
        zones = λ z q. →fits s (rect_of t z) (zones→ s t.records.zones (zone_room t) size.lengths.zones records.0 z q);
        cars = λ c q. (cars c q).1;
        teams = λ c q. (cars c q).0;
        derived = same-derived (starts→ w c.0) (whole-entries w) rosters (tallies→ (λ c q. (cars c q).0) rosters d.1);
      }

  pub →sound : Sound t → sound t ≡ true
  unfolding sound stands placed
  →sound h =
      let s = shape_of t in
      let w = entries-whole (in_use_lem (starts-fresh h)) (entries-fresh h) in
      rw (→zones s t.records.zones (zone_room t) (λ z q. fits→ s (rect_of t z) (h.zones z q)), →cars s t.records.cars t.records.spots (car_room t) h.teams h.cars, →entries w, →starts w (starts-fresh h), →rosters (rosters-fresh h), →tallies h.teams (rosters-fresh h) (tallies-fresh h))
