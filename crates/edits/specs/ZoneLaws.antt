-- Laws of a zone's record written and cleared, and of the keys that are then on.
use Rattle.std.specs.Prelude.{ℕ, zero, suc, ◌+◌, ◌*◌, ◌/◌, ◌%◌, ◌<◌, ◌≤◌, ◌≡◌, refl, ◌⊎◌, Bool, true, false, ◌&&◌, List, [], ◌∷◌, ltb, eqb, length, get_or, set}
use Rattle.std.proofs.Common.{ap, sym, ◌∙◌, inl, inr, ⊎_elim, arith, add-zero, add-suc, suc-add, length-set, get_or-set_same, get_or-set_other, lt-ltb, eq-eqb, eqb-true}
use Rattle.std.proofs.Math.Bool.{and-true, and-false}
use Rattle.std.proofs.Math.ListN.{get_or-eq_default}
use Rattle.std.proofs.lemmas.List.Edits.{sets}
use Rattle.std.proofs.Math.Seq.{length-sets}
use Rattle.order.specs.TestLaws.{lt-or-le, true-or-false, true-not-false}
use Rattle.squares.specs.declared.shape.Shape.{Shape}
use Rattle.squares.specs.declared.shape.Rect.{Rect}
use Rattle.cuts.specs.Cut.{in_cut}
use Rattle.tables.specs.Tables.{Tables, shape_of, rect_in, rect_of, stands_in, stands}
use Rattle.tables.specs.Sizes.{Sized}
use Rattle.tables.specs.Derived.{level_at, number_at, on}
use Rattle.entries.specs.Drops.{of_other}
use Rattle.tables.specs.Steps.{zoned, with_zone, without_zone}

rect-same : {a a' b b' w w' h h' : ℕ} → a ≡ a' → b ≡ b' → w ≡ w' → h ≡ h' → ◌≡◌ {A = Rect} (record { a = a; b = b; w = w; h = h }) (record { a = a'; b = b'; w = w'; h = h' })
rect-same p q s t = rw (p, q, s, t)

-- ---- numbers stored from i on

-- what stands elsewhere stays
pub sets-apart : (vs l : List ℕ) (i j : ℕ) → (j < i) ⊎ (i + length vs ≤ j) → get_or (sets l i vs) j 0 ≡ get_or l j 0
sets-apart [] l i j h = refl
sets-apart (v ∷ vs) l i j h =
    sets-apart vs (set l i v) (suc i) j (⊎_elim (λ (g : j < i). inl (omega arith)) (λ (g : i + suc (length vs) ≤ j). inr (omega arith)) h)
    ∙ get_or-set_other l i j v 0 (λ (e : j ≡ i). ⊎_elim (λ (g : j < i). omega arith) (λ (g : i + suc (length vs) ≤ j). omega arith) h)

pub sets-there : (vs l : List ℕ) (i n : ℕ) → n < length vs → i + length vs ≤ length l → get_or (sets l i vs) (i + n) 0 ≡ get_or vs n 0
sets-there [] l i n h g = absurd (omega arith)
sets-there (v ∷ vs) l i zero h g = rw (add-zero i) (sets-apart vs (set l i v) (suc i) i (inl (omega arith)) ∙ get_or-set_same l i v 0 (omega arith))
sets-there (v ∷ vs) l i (suc n) h g = rw (add-suc i n, ← suc-add i n) (sets-there vs (set l i v) (suc i) n (omega arith) (omega (arith, length-set l i v)))

-- ---- a zone written

module _ (zones : List ℕ) (z : ℕ) (r : Rect) where
  abbrev numbers : List ℕ
  numbers = r.a ∷ r.b ∷ r.w ∷ r.h ∷ []

  -- its four numbers stored one by one
  pub zone-stored : set (set (set (set zones (4 * z) r.a) (4 * z + 1) r.b) (4 * z + 2) r.w) (4 * z + 3) r.h ≡ with_zone zones z r
  zone-stored =
      let one : 4 * z + 1 ≡ suc (4 * z) = omega arith in
      let two : 4 * z + 2 ≡ suc (suc (4 * z)) = omega arith in
      let three : 4 * z + 3 ≡ suc (suc (suc (4 * z))) = omega arith in
      rw (one, two, three)

  pub length-with : length (with_zone zones z r) ≡ length zones
  length-with = length-sets zones (4 * z) numbers

  -- its record is the rectangle
  pub rect-with : 4 * z + 4 ≤ length zones → rect_in (with_zone zones z r) z ≡ r
  rect-with h = rect-same (rw (add-zero (4 * z)) at (sets-there numbers zones (4 * z) 0 (omega arith) h)) (sets-there numbers zones (4 * z) 1 (omega arith) h) (sets-there numbers zones (4 * z) 2 (omega arith) h) (sets-there numbers zones (4 * z) 3 (omega arith) h)

  -- the others' stay
  module _ (y : ℕ) (other : y ≡ z → ⊥) where
    apart : (n : ℕ) → n < 4 → get_or (with_zone zones z r) (4 * y + n) 0 ≡ get_or zones (4 * y + n) 0
    apart n h = sets-apart numbers zones (4 * z) (4 * y + n) (⊎_elim (λ (g : y < z). inl (omega arith)) (λ (g : z ≤ y). inr (omega arith)) (lt-or-le y z))

    pub rect-with-other : rect_in (with_zone zones z r) y ≡ rect_in zones y
    rect-with-other = rect-same (rw (add-zero (4 * y)) at (apart 0 (omega arith))) (apart 1 (omega arith)) (apart 2 (omega arith)) (apart 3 (omega arith))

    pub stands-with-other : stands_in (with_zone zones z r) y ≡ stands_in zones y
    stands-with-other = ap (ltb 0) (apart 2 (omega arith))

-- ---- a zone cleared

module _ (zones : List ℕ) (z : ℕ) where
  pub length_without : length (without_zone zones z) ≡ length zones
  length_without = length-set zones (4 * z + 2) 0

  no-width : (rect_in (without_zone zones z) z).w ≡ 0
  no-width = ⊎_elim
      (λ (h : 4 * z + 2 < length zones). get_or-set_same zones (4 * z + 2) 0 0 h)
      (λ (h : length zones ≤ 4 * z + 2). get_or-eq_default (without_zone zones z) 0 {n = 4 * z + 2} (omega (arith, length_without)))
      (lt-or-le (4 * z + 2) (length zones))

  pub stands-without : stands_in (without_zone zones z) z ≡ false
  stands-without = ap (ltb 0) no-width

  module _ (y : ℕ) (other : y ≡ z → ⊥) where
    kept : (n : ℕ) → n < 4 → get_or (without_zone zones z) (4 * y + n) 0 ≡ get_or zones (4 * y + n) 0
    kept n h = get_or-set_other zones (4 * z + 2) (4 * y + n) 0 0 (λ (e : 4 * y + n ≡ 4 * z + 2). other (omega arith))

    pub rect-without-other : rect_in (without_zone zones z) y ≡ rect_in zones y
    rect-without-other = rect-same (rw (add-zero (4 * y)) at (kept 0 (omega arith))) (kept 1 (omega arith)) (kept 2 (omega arith)) (kept 3 (omega arith))

    pub stands-without-other : stands_in (without_zone zones z) y ≡ stands_in zones y
    stands-without-other = ap (ltb 0) (kept 2 (omega arith))

-- ---- the keys that are on

-- a key is on, by its zone's rectangle
abbrev on_by : Shape → ℕ → Rect → Bool
on_by s key r = ltb 0 r.w && in_cut s r (level_at s (key / 256)) (number_at s (key / 256))

on-by : (t : Tables) (key : ℕ) → on t key ≡ on_by (shape_of t) key (rect_of t (key % 256))
unfolding on stands
on-by t key = refl

module _ (t : Tables) (z : ℕ) (key : ℕ) where
  pub on-with-other : (r : Rect) → (key % 256 ≡ z → ⊥) → on (zoned t (with_zone t.records.zones z r)) key ≡ on t key
  on-with-other r f = on-by (zoned t (with_zone t.records.zones z r)) key ∙ ap (on_by (shape_of t) key) (rect-with-other t.records.zones z r (key % 256) f) ∙ sym (on-by t key)

  pub on-with : (r : Rect) → 4 * z + 4 ≤ length t.records.zones → 0 < r.w → key % 256 ≡ z → on (zoned t (with_zone t.records.zones z r)) key ≡ in_cut (shape_of t) r (level_at (shape_of t) (key / 256)) (number_at (shape_of t) (key / 256))
  on-with r h g e =
      on-by (zoned t (with_zone t.records.zones z r)) key
      ∙ ap (on_by (shape_of t) key) (ap (rect_in (with_zone t.records.zones z r)) e ∙ rect-with t.records.zones z r h)
      ∙ ap (λ (b : Bool). b && in_cut (shape_of t) r (level_at (shape_of t) (key / 256)) (number_at (shape_of t) (key / 256))) (lt-ltb 0 r.w g)

  on-without-other : (key % 256 ≡ z → ⊥) → on (zoned t (without_zone t.records.zones z)) key ≡ on t key
  on-without-other f = on-by (zoned t (without_zone t.records.zones z)) key ∙ ap (on_by (shape_of t) key) (rect-without-other t.records.zones z (key % 256) f) ∙ sym (on-by t key)

  on-without-own : key % 256 ≡ z → on (zoned t (without_zone t.records.zones z)) key ≡ false
  on-without-own e =
      on-by (zoned t (without_zone t.records.zones z)) key
      ∙ ap (λ (b : Bool). b && in_cut (shape_of t) (rect_in (without_zone t.records.zones z) (key % 256)) (level_at (shape_of t) (key / 256)) (number_at (shape_of t) (key / 256))) (ap (stands_in (without_zone t.records.zones z)) e ∙ stands-without t.records.zones z)

  pub on-without : on (zoned t (without_zone t.records.zones z)) key ≡ (on t key && of_other z key)
  on-without = ⊎_elim
      (λ (e : eqb (key % 256) z ≡ true). on-without-own (eqb-true (key % 256) z e) ∙ rw e (sym (and-false (on t key))))
      (λ (e : eqb (key % 256) z ≡ false). on-without-other (λ (f : key % 256 ≡ z). true-not-false _ (eq-eqb (key % 256) z f) e) ∙ rw e (sym (and-true (on t key))))
      (true-or-false (eqb (key % 256) z))

-- ---- other zones, as many

pub sized-zoned : (t : Tables) (zones : List ℕ) → Sized t → length zones ≡ length t.records.zones → Sized (zoned t zones)
sized-zoned t zones h e =
    let l = h.lengths in
    record { shape = h.shape; room = h.room; lengths = record { head = l.head; zones = e ∙ l.zones; cars = l.cars; spots = l.spots; starts = l.starts; entries = l.entries; rosters = l.rosters; tallies = l.tallies } }
