-- Laws of a square's run of entries: where it starts, what stands in it, and which levels of a cell have a zone.
use Rattle.std.specs.Prelude.{◌≡◌, ℕ, ◌+◌, ◌-◌, ◌*◌, ◌%◌, ◌<◌, ◌≤◌, Bool, true, ◌&&◌, List, ◌++◌, length, take, drop, replicate, nat_lt, slice_index, refl}
use Rattle.std.proofs.Common.{ap, ap₂, sym, ◌∙◌, ⊎_elim, append_assoc, arith, zero-add, add-mul, take_at, drop_at}
use Rattle.std.proofs.Math.Arith.{digits_div, digits_mod}
use Rattle.std.proofs.Math.ListN.{length-append, get_or-eq_default}
use borrow.Author.Tests.{le-ltb, lt-ltb, ltb-true}
use Rattle.order.specs.Order.{span, upto, keep}
use Rattle.order.specs.TestLaws.{lt-or-le, true-not-false, and→, both_ways}
use Rattle.order.specs.KeepLaws.{span-add, span→, →span, keep_append, keep_some, some-kept}
use Rattle.squares.specs.declared.shape.Rect.{Rect}
use Rattle.squares.specs.Shape.{width, height, holds}
use Rattle.squares.specs.Squares.{squares, squares_on, number}
use Rattle.cuts.specs.Cut.{in_cut}
use Rattle.model.specs.Model.{there, filled}
use Rattle.squares.specs.SquareLaws.{number-below}
use Rattle.cuts.specs.CutLaws.{one-level, level_holds}
use Rattle.tables.specs.Tables.{Tables, shape_of, zone_room, entry_room, rect_of, stands, zone_in, zone_holds}
use Rattle.tables.specs.Sizes.{Sized}
use Rattle.tables.specs.Derived.{place, on, keys_to, used, free}
use Rattle.tables.specs.Sound.{Sound}
use Rattle.tables.specs.PlaceLaws.{place-below, level-place, number-place}
use Rattle.tables.specs.RecordLaws.{starts-fresh, entries-fresh, zone-there, zone-holds}
use Rattle.tables.specs.RowLaws.{mapped_at}
use Rattle.tables.specs.CheckLaws.{size_of}
use Rattle.tables.specs.Runs.{listed_at}

-- the keys of the square at place p
abbrev pub keys_at : Tables → ℕ → List ℕ
keys_at t p = keep (on t) (span (p * 256) 256)

-- the keys of the d squares from place p on
abbrev pub keys_from : Tables → ℕ → ℕ → List ℕ
keys_from t p d = keep (on t) (span (p * 256) (d * 256))

pub keys-add : (t : Tables) (p d : ℕ) → keys_to t (p + d) ≡ keys_to t p ++ keys_from t p d
keys-add t p d = ap (λ (n : ℕ). keep (on t) (upto n)) (add-mul p d 256) ∙ rw (span-add 0 (p * 256) (d * 256), zero-add (p * 256)) (keep_append (on t) (upto (p * 256)) (span (p * 256) (d * 256)))

keys-more : (t : Tables) (p : ℕ) → keys_to t (p + 1) ≡ keys_to t p ++ keys_at t p
keys-more t p = keys-add t p 1

module _ {t : Tables} (sound : Sound t) where
  pub start-at : (p : ℕ) → p ≤ squares (shape_of t) → slice_index t.derived.starts p ≡ length (keys_to t p)
  start-at p h = mapped_at t.derived.starts (λ (q : ℕ). length (keys_to t q)) (squares (shape_of t) + 1) p (starts-fresh sound) (omega arith)

  -- the entries are the keys before a place, its own, and others
  split : (p : ℕ) → p < squares (shape_of t) → (rest : List ℕ) × (t.derived.entries ≡ keys_to t p ++ (keys_at t p ++ rest))
  split p h =
      let d = squares (shape_of t) - (p + 1) in
      let e : squares (shape_of t) ≡ p + 1 + d = omega arith in
      let r = replicate (entry_room t - length (used t)) free in
      (keys_from t (p + 1) d ++ r, entries-fresh sound ∙ ap (λ (l : List ℕ). l ++ r) (ap (keys_to t) e ∙ keys-add t (p + 1) d ∙ ap (λ (l : List ℕ). l ++ keys_from t (p + 1) d) (keys-more t p)) ∙ simp append_assoc)

  -- all starts lie within the entries
  pub start-within : (p : ℕ) → p ≤ squares (shape_of t) → length (keys_to t p) ≤ length t.derived.entries
  start-within p h =
      let d = squares (shape_of t) - p in
      let e : squares (shape_of t) ≡ p + d = omega arith in
      let u = ap length (ap (keys_to t) e ∙ keys-add t p d) in
      omega (arith, ap length (entries-fresh sound), length-append (used t) (replicate (entry_room t - length (used t)) free), u, length-append (keys_to t p) (keys_from t p d))

  -- the run of a place is its square's keys
  pub run-keys : (p : ℕ) → p < squares (shape_of t) → take (slice_index t.derived.starts (p + 1) - slice_index t.derived.starts p) (drop (slice_index t.derived.starts p) t.derived.entries) ≡ keys_at t p
  run-keys p h =
      let s = split p h in
      let n : length (keys_to t (p + 1)) - length (keys_to t p) ≡ length (keys_at t p) = rw (keys-more t p, length-append (keys_to t p) (keys_at t p)) (omega arith) in
      let d = ap (drop (length (keys_to t p))) s.1 ∙ drop_at (keys_to t p) (keys_at t p ++ s.0) (length (keys_to t p)) refl in
      rw (start-at p (omega arith), start-at (p + 1) (omega arith), n, d) (take_at (keys_at t p) s.0 (length (keys_at t p)) refl)

-- ---- a square's key for a zone

-- a key is on when its zone stands and its square is in the cut of the zone
on-place : (t : Tables) (i n z : ℕ) → z < 256 → i ≤ (shape_of t).k → n < squares_on (shape_of t) i → on t (place (shape_of t) i n * 256 + z) ≡ (stands t z && in_cut (shape_of t) (rect_of t z) i n)
unfolding on
on-place t i n z b h g = rw (digits_div (place (shape_of t) i n) b, digits_mod (place (shape_of t) i n) b, number-place (shape_of t) i n h g, level-place (shape_of t) i n h g)

-- the key of a zone on the square of a cell on level i is on
abbrev pub on_cell : Tables → ℕ → ℕ → ℕ → ℕ → Bool
on_cell t x y i z = on t (place (shape_of t) i (number (shape_of t) i x y) * 256 + z)

-- a zone holds a cell exactly when it is on the list of one of the cell's squares
module _ (t : Tables) (x y z : ℕ) (column : x < width (shape_of t)) (row : y < height (shape_of t)) (few : z < 256) where
  on-cell : (i : ℕ) → i ≤ (shape_of t).k → on_cell t x y i z ≡ (stands t z && in_cut (shape_of t) (rect_of t z) i (number (shape_of t) i x y))
  on-cell i h = on-place t i (number (shape_of t) i x y) z few h (number-below (shape_of t) i x y h column row)

  pub holds→level : zone_holds t z x y ≡ true → (i : ℕ) × (i ≤ (shape_of t).k) × (on_cell t x y i z ≡ true)
  holds→level e =
      let a = and→ (stands t z) (holds (rect_of t z) x y) (sym (zone-holds t z x y) ∙ e) in
      let l = one-level (shape_of t) (rect_of t z) x y column a.1 in
      (l.level, l.there, on-cell l.level l.there ∙ ap₂ ◌&&◌ a.0 l.taken)

  pub level→holds : (i : ℕ) → i ≤ (shape_of t).k → on_cell t x y i z ≡ true → zone_holds t z x y ≡ true
  level→holds i h e =
      let a = and→ (stands t z) (in_cut (shape_of t) (rect_of t z) i (number (shape_of t) i x y)) (sym (on-cell i h) ∙ e) in
      rw (zone-holds t z x y, a.0) (level_holds (shape_of t) (rect_of t z) i x y h column a.1)

-- a standing zone's number is below the capacity
pub stands-below : (t : Tables) (z : ℕ) → Sized t → stands t z ≡ true → z < zone_room t
unfolding stands
stands-below t z h e = ⊎_elim (λ (l : z < zone_room t). l) (λ (l : zone_room t ≤ z). absurd (true-not-false _ e (le-ltb 0 (rect_of t z).w (omega (arith, get_or-eq_default t.records.zones 0 {n = 4 * z + 2} (omega (arith, h.lengths.zones))))))) (lt-or-le z (zone_room t))

-- so is the zone of a key that is on
pub zone-below : (t : Tables) (key : ℕ) → Sized t → on t key ≡ true → key % 256 < zone_room t
unfolding on
zone-below t key h e = stands-below t (key % 256) h (and→ (stands t (key % 256)) _ e).0

-- ---- whether a square has a zone on its list

module _ {t : Tables} (sound : Sound t) where
  listed-keys : (p : ℕ) → p < squares (shape_of t) → listed_at t.derived.starts p ≡ filled (keys_at t p)
  unfolding listed_at
  listed-keys p h = rw (start-at sound p (omega arith), start-at sound (p + 1) (omega arith), keys-more t p, length-append (keys_to t p) (keys_at t p)) (more (length (keys_to t p)) (length (keys_at t p)))
    where
      more : (a b : ℕ) → nat_lt a (a + b) ≡ nat_lt 0 b
      more a b = both_ways (nat_lt a (a + b)) (nat_lt 0 b) (λ e. lt-ltb 0 b (omega (arith, ltb-true a (a + b) e))) (λ e. lt-ltb a (a + b) (omega (arith, ltb-true 0 b e)))

  -- its list has one exactly where it is in the cut of a standing zone
  module _ (i n : ℕ) (level : i ≤ (shape_of t).k) (below : n < squares_on (shape_of t) i) where
    abbrev p : ℕ
    p = place (shape_of t) i n

    abbrev taken : Rect → Bool
    taken r = in_cut (shape_of t) r i n

    on-taken : (z : ℕ) → z < 256 → on t (p * 256 + z) ≡ there (zone_in t z) taken
    on-taken z h = on-place t i n z h level below ∙ sym (zone-there t z taken)

    pub listed-cut : listed_at t.derived.starts p ≡ filled (keep (λ (z : ℕ). there (zone_in t z) taken) (upto (zone_room t)))
    listed-cut = listed-keys p (place-below (shape_of t) i n level below) ∙ both_ways (filled (keys_at t p)) (filled (keep (λ (z : ℕ). there (zone_in t z) taken) (upto (zone_room t))))
        (λ (e : filled (keys_at t p) ≡ true).
        let a = some-kept (on t) (span (p * 256) 256) (ltb-true 0 _ e) in
        let h = span→ (p * 256) 256 a.0 a.1 in
        let z = a.0 - p * 256 in
        let k : a.0 ≡ p * 256 + z = omega (arith, h.0) in
        let few : z < 256 = omega (arith, h.0, h.1) in
        let q = ap (on t) (sym k) ∙ a.2 in
        let room = rw (digits_mod p few) at (zone-below t (p * 256 + z) (size_of sound) q) in
        lt-ltb 0 _ (keep_some (λ (v : ℕ). there (zone_in t v) taken) (upto (zone_room t)) z (→span 0 (zone_room t) z (omega arith) (omega (arith, room))) (sym (on-taken z few) ∙ q)))
        (λ (e : filled (keep (λ (z : ℕ). there (zone_in t z) taken) (upto (zone_room t))) ≡ true).
        let a = some-kept (λ (z : ℕ). there (zone_in t z) taken) (upto (zone_room t)) (ltb-true 0 _ e) in
        let few : a.0 < 256 = omega (arith, span→ 0 (zone_room t) a.0 a.1, (size_of sound).room.zones-few) in
        lt-ltb 0 _ (keep_some (on t) (span (p * 256) 256) (p * 256 + a.0) (→span (p * 256) 256 (p * 256 + a.0) (omega arith) (omega arith)) (on-taken a.0 few ∙ a.2)))
