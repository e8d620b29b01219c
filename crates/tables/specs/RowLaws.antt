-- Laws of a row of the rosters, of tables set to one number, and of what a sound roster says.
use Rattle.std.specs.Prelude.{◌≡◌, ℕ, zero, suc, ◌+◌, ◌-◌, ◌*◌, ◌/◌, ◌%◌, ◌<◌, ◌≤◌, Bool, true, false, ltb, List, [], ◌∷◌, ◌++◌, map, length, take, drop, set, replicate, ◌≢◌, nat_lt, slice_index, slice_index_or, slice_set, refl}
use Rattle.std.proofs.Common.{ap, sym, ◌∙◌, append-nil, append_assoc, arith, add-zero, zero-add, mul-le-mul, mul-le-mul_right, suc-mul, add-one, drop_of_length-le, drop-drop, drop-cons, ext_get_or, lt-ltb, le-ltb}
use Rattle.std.proofs.Math.Arith.{digits_lt, digits_div, digits_mod}
use Rattle.std.proofs.lemmas.List.{length-replicate, length-map, set_at}
use Rattle.std.proofs.lemmas.List.Edits.{sets, sets-eq}
use Rattle.std.proofs.Math.Seq.{append_snoc}
use borrow.Rule.Slice.PartMut.{put_mid}
use Rattle.order.specs.Order.{span, upto, keep}
use Rattle.order.specs.Sums.{bit}
use Rattle.order.specs.Order.{Wrote}
use Rattle.order.specs.BufferLaws.{wrote_none, wrote-more}
use Rattle.order.specs.KeepLaws.{span-add, keep_append, keep-ext, span→, length-span}
use Rattle.tables.specs.Tables.{Tables, zone_room, car_room, roster_has}
use Rattle.tables.specs.Sizes.{Sized}
use Rattle.tables.specs.Derived.{rosters_of}
use Rattle.tables.specs.Sound.{Sound}
use Rattle.tables.specs.RecordLaws.{rosters-fresh}
use Rattle.tables.specs.Rows.{marked, row, Adds, RowThere}

-- ---- a part lent and written

-- a part from a to b comes back as what was stored from a on
pub part-stored : (l ys : List ℕ) (a b : ℕ) → a ≤ b → b ≤ length l → length ys ≡ b - a → put_mid a (b - a) l ys ≡ sets l a ys
part-stored l ys a b h g e =
    let k : a + (b - a) ≡ a + length ys = omega arith in
    ap (λ (m : List ℕ). take a l ++ (ys ++ m)) (drop-drop (b - a) a l ∙ ap (λ (n : ℕ). drop n l) k)
    ∙ sym (append_assoc (take a l) ys (drop (a + length ys) l))
    ∙ sym (sets-eq ys l a (omega arith))

-- ---- a list filled from the front

module _ {A : Type 0} (v : A) where
  replicate-snoc : (n : ℕ) → replicate n v ++ (v ∷ []) ≡ replicate (suc n) v
  replicate-snoc zero = refl
  replicate-snoc (suc n) = ap (λ (l : List A). v ∷ l) (replicate-snoc n)

  fill_more : (d : List A) (n : ℕ) → n < length d → slice_set (replicate n v ++ drop n d) n v ≡ replicate (n + 1) v ++ drop (n + 1) d
  fill_more d n h = rw (add-one n, drop-cons d n v h, set_at (replicate n v) (slice_index_or d n v) (drop (suc n) d) v n (length-replicate n v)) (sym (append_snoc (replicate n v) v (drop (suc n) d)) ∙ ap (λ (l : List A). l ++ drop (suc n) d) (replicate-snoc n))

  fill_end : (d : List A) (n : ℕ) → n ≤ length d → length d ≤ n → replicate n v ++ drop n d ≡ replicate (length d) v
  fill_end d n h g = let e : n ≡ length d = omega arith in rw (e, drop_of_length-le d {i = length d} (omega arith)) (append-nil (replicate (length d) v))

  pub fill-turn : (d l : List A) (n : ℕ) → l ≡ replicate n v ++ drop n d → n < length d → slice_set l n v ≡ replicate (n + 1) v ++ drop (n + 1) d
  fill-turn d l n e h = ap (λ (m : List A). set m n v) e ∙ fill_more d n h

  pub fill_done : (d l : List A) (n : ℕ) → l ≡ replicate n v ++ drop n d → n ≤ length d → length d ≤ n → l ≡ replicate (length d) v
  fill_done d l n e h g = e ∙ fill_end d n h g

-- ---- one car more

module _ (rosters : List ℕ) (from : ℕ) where
  pub row-start : (b : List ℕ) → Wrote b b 0 0 (row rosters from 0)
  unfolding span keep
  row-start b = wrote_none b 0

  pub row_more : (c : ℕ) → row rosters from (c + 1) ≡ row rosters from c ++ keep (marked rosters from) (c ∷ [])
  unfolding span
  row_more c = rw (span-add 0 c 1, keep_append) (ap (λ (n : ℕ). row rosters from c ++ keep (marked rosters from) (n ∷ [])) (omega arith))

  pub row-turn : (c : ℕ) {b b' b'' : List ℕ} {t t' : ℕ} → Wrote b b' 0 t (row rosters from c) → Adds (slice_index rosters (from + c)) c b' b'' t t' → Wrote b b'' 0 t' (row rosters from (c + 1))
  unfolding keep
  row-turn c w a = rw (row_more c) (wrote-more w a.wrote)

pub adds_none : (byte c : ℕ) (b : List ℕ) (at : ℕ) → byte ≡ 0 → Adds byte c b b at at
adds_none byte c b at e = record { wrote = rw (le-ltb 0 byte (omega arith)) (wrote_none b at); most = omega arith }

pub adds_one : (byte c : ℕ) (b b' : List ℕ) (at : ℕ) → (byte ≢ 0) → b' ≡ slice_set b at c → Adds byte c b b' at (at + 1)
adds_one byte c b b' at f e = record { wrote = rw (lt-ltb 0 byte (omega arith)) (record { stored = e; next = refl }); most = omega arith }

-- a zone's row is in the table
pub row-in : (t : Tables) → Sized t → (z : ℕ) → z < zone_room t → RowThere t.derived.rosters z (car_room t)
row-in t h z g =
    let most = mul-le-mul_right (car_room t) g in
    record {
      there = omega (arith, h.lengths.rosters, most, suc-mul z (car_room t));
      early = omega (arith, mul-le-mul h.room.zones-few h.room.cars-few, most, suc-mul z (car_room t));
      few = h.room.cars-few;
    }

-- ---- sound rosters

-- what stands in a mapped row of numbers
pub map-span : {A : Type 0} (f : ℕ → A) (d : A) (lo n i : ℕ) → i < n → slice_index_or (map f (span lo n)) i d ≡ f (lo + i)
unfolding span
map-span f d lo zero i h = absurd (omega arith)
map-span f d lo (suc n) zero h = ap f (sym (add-zero lo))
map-span f d lo (suc n) (suc i) h = map-span f d (suc lo) n i (omega arith) ∙ ap f (omega arith)

-- a list is a mapped row by its numbers
pub mapped : (l : List ℕ) (f : ℕ → ℕ) (n : ℕ) → length l ≡ n → ((i : ℕ) → i < n → slice_index l i ≡ f i) → l ≡ map f (upto n)
mapped l f n e h = ext_get_or 0 l (map f (upto n)) (e ∙ sym (length-map (upto n) f ∙ length-span 0 n)) (λ i g. h i (omega arith) ∙ ap f (sym (zero-add i)) ∙ sym (map-span f 0 0 n i (omega arith)))

pub mapped_at : (l : List ℕ) (f : ℕ → ℕ) (n i : ℕ) → l ≡ map f (upto n) → i < n → slice_index l i ≡ f i
mapped_at l f n i e h = ap (λ (m : List ℕ). slice_index m i) e ∙ map-span f 0 0 n i h ∙ ap f (zero-add i)

marked-bit : (b : Bool) → nat_lt 0 (bit b) ≡ b
marked-bit true = refl
marked-bit false = refl

-- rosters that are what the records give
module _ (t : Tables) (right : t.derived.rosters ≡ rosters_of t) (z : ℕ) (there : z < zone_room t) where
  right-byte : (c : ℕ) → c < car_room t → slice_index t.derived.rosters (z * car_room t + c) ≡ bit (roster_has t z c)
  right-byte c l = mapped_at t.derived.rosters (λ (i : ℕ). bit (roster_has t (i / car_room t) (i % car_room t))) (zone_room t * car_room t) (z * car_room t + c) right (digits_lt there l) ∙ rw (digits_div z l, digits_mod z l)

  pub right-row : row t.derived.rosters (z * car_room t) (car_room t) ≡ keep (roster_has t z) (upto (car_room t))
  right-row = keep-ext (marked t.derived.rosters (z * car_room t)) (roster_has t z) (upto (car_room t)) (λ c m. ap (ltb 0) (right-byte c (omega (arith, span→ 0 (car_room t) c m))) ∙ marked-bit (roster_has t z c))

module _ (t : Tables) (h : Sound t) where
  pub roster-byte : (z c : ℕ) → z < zone_room t → c < car_room t → slice_index t.derived.rosters (z * car_room t + c) ≡ bit (roster_has t z c)
  roster-byte z c g l = right-byte t (rosters-fresh h) z g c l

  pub sound-row : (z : ℕ) → z < zone_room t → row t.derived.rosters (z * car_room t) (car_room t) ≡ keep (roster_has t z) (upto (car_room t))
  sound-row z g = right-row t (rosters-fresh h) z g
