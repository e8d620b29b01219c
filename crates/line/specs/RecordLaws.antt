-- Laws of the record that a line means.
use Prim.Native.Nat.{ℕ, zero, suc, ◌+◌, ◌-◌, ◌<◌, ◌≤◌}
use Rattle.std.specs.Prelude.{◌≡◌, refl, length, take, drop, set, replicate, Option, Some, None}
use Rattle.std.proofs.Math.Path.{ap, sym}
use Rattle.std.proofs.Common.{◌∙◌, ⊎_elim, arith, add-one, length-set, length-drop, drop_of_length-le, drop-cons, drop-drop, drop-set-lt, take-suc-set, get_or-take, get_or-drop, length-take-le}
use mathlib.Core.List.{List, [], ◌∷◌, ◌++◌, append-nil}
use Rattle.std.proofs.Math.Nat.{sub-zero}
use Rattle.std.proofs.Math.ListN.{get_or, get_or-eq_default}
use Rattle.std.proofs.Math.Seq.{append_snoc}
use borrow.Author.Tests.{lt-ltb, le-ltb, ne_eqb}
use Rattle.order.specs.TestLaws.{lt-or-le}
use Rattle.line.specs.declared.records.Record.TheVariants.{Bad}
use Rattle.line.specs.Grammar.{value, form, record_of, with, values, recorded, read, meaning}
use Rattle.line.specs.Fields.{front, field_end, field_ends, rest}
use Rattle.line.specs.Leaves.{Formed}
use Rattle.line.specs.NumberLaws.{value-small}
use Rattle.line.specs.SplitLaws.{front-le, rest-none, rest_more}

-- ---- letters

module _ (c : ℕ) (m : c ≡ 77 → ⊥) (a : c ≡ 65 → ⊥) (d : c ≡ 68 → ⊥) (p : c ≡ 80 → ⊥) (l : c ≡ 76 → ⊥) (s : c ≡ 83 → ⊥) (r : c ≡ 82 → ⊥) where
  pub form-none : [] ≡ form c
  unfolding form
  form-none = rw (ne_eqb c 77 m, ne_eqb c 65 a, ne_eqb c 68 d, ne_eqb c 80 p, ne_eqb c 76 l, ne_eqb c 83 s, ne_eqb c 82 r)

  pub record-none : (v : List ℕ) → Bad ≡ record_of c v
  unfolding record_of
  record-none v = rw (ne_eqb c 77 m, ne_eqb c 65 a, ne_eqb c 68 d, ne_eqb c 80 p, ne_eqb c 76 l, ne_eqb c 83 s, ne_eqb c 82 r)

-- ---- the field at a place

pub field-there : (l : List ℕ) (at : ℕ) → at ≤ length l → field_end l at ≡ at + length (front 9 (drop at l))
unfolding field_end
field-there l at h = rw (le-ltb (length l) at h)

pub field-missing : (l : List ℕ) (at : ℕ) → length l < at → field_end l at ≡ length l
unfolding field_end
field-missing l at h = rw (lt-ltb (length l) at h)

pub field-within : (l : List ℕ) (at : ℕ) → field_end l at ≤ length l
field-within l at = ⊎_elim
    (λ (h : length l < at). omega (arith, field-missing l at h))
    (λ (h : at ≤ length l). let w = front-le 9 (drop at l) in omega (arith, field-there l at h, length-drop at l))
    (lt-or-le (length l) at)

-- what a field that was found says
pub record Found (l : List ℕ) (at e : ℕ) : Type 0 where
  pub there : at ≤ length l
  pub is : e ≡ at + length (front 9 (drop at l))
  pub within : e ≤ length l

pub field_found : (l : List ℕ) (at e : ℕ) → e ≡ field_end l at → at ≤ e → Found l at e
field_found l at e q h =
    let w = field-within l at in
    let k : at ≤ length l = omega arith in
    record { there = k; is = q ∙ field-there l at k; within = omega arith }

pub field-none : (l : List ℕ) (at e : ℕ) → e ≡ field_end l at → e < at → length l < at
field-none l at e q h = ⊎_elim
    (λ (k : length l < at). k)
    (λ (k : at ≤ length l). absurd (omega (arith, field-there l at k)))
    (lt-or-le (length l) at)

-- ---- the values of the fields

-- values read before others
abbrev after : List ℕ → Option (List ℕ) → Option (List ℕ)
after p None = None
after p (Some m) = Some (p ++ m)

after_none : (x : Option (List ℕ)) → x ≡ after [] x
after_none None = refl
after_none (Some m) = refl

after-with : (p : List ℕ) (n : ℕ) (x : Option (List ℕ)) → after p (with (Some n) x) ≡ after (p ++ (n ∷ [])) x
after-with p n None = refl
after-with p n (Some m) = ap Some (sym (append_snoc p n m))

values-step : (b : ℕ) (f : List ℕ) {n : ℕ} (bs : List ℕ) (fs : List (List ℕ)) → value b f ≡ Some n → values (b ∷ bs) (f ∷ fs) ≡ with (Some n) (values bs fs)
unfolding values
values-step b f bs fs e = ap (λ (x : Option ℕ). with x (values bs fs)) e

values-wrong : (b : ℕ) (f : List ℕ) (bs : List ℕ) (fs : List (List ℕ)) → value b f ≡ None → values (b ∷ bs) (f ∷ fs) ≡ None
unfolding values
values-wrong b f bs fs e = ap (λ (x : Option ℕ). with x (values bs fs)) e

refused : (c : ℕ) {x y : Option (List ℕ)} (p : List ℕ) → x ≡ after p y → y ≡ None → Bad ≡ recorded c x
refused c p e q = sym (ap (recorded c) (e ∙ ap (after p) q))

-- i values of the line's fields are read, and the next field starts at `at`
pub record Gets (letter count : ℕ) (bases l ends v : List ℕ) (at i : ℕ) : Type 0 where
  pub formed : Formed letter count bases
  pub left : drop (i + 1) ends ≡ field_ends (6 - i) l at
  pub same : values (form letter) (rest l 2) ≡ after (take i v) (values (drop i (form letter)) (rest l at))
  pub zeros : drop i v ≡ replicate (5 - i) 0
  pub room : length v ≡ 5
  pub within : i ≤ count

pub gets-begin : (letter count : ℕ) (bases l ends : List ℕ) → Formed letter count bases → ends ≡ 1 ∷ field_ends 6 l 2 → Gets letter count bases l ends (0 ∷ 0 ∷ 0 ∷ 0 ∷ 0 ∷ []) 2 0
gets-begin letter count bases l ends f h = record { formed = f; left = ap (drop 1) h; same = after_none (values (form letter) (rest l 2)); zeros = refl; room = refl; within = omega arith }

module _ {letter count : ℕ} {bases l ends v : List ℕ} {at i : ℕ} (g : Gets letter count bases l ends v at i) where
  -- where the next field ends
  abbrev end : ℕ
  end = get_or ends (i + 1) 0

  pub gets-most : i < 6
  gets-most = omega (arith, g.within, g.formed.most)

  ends-left : drop (i + 1) ends ≡ field_end l at ∷ field_ends (5 - i) l (field_end l at + 1)
  unfolding field_ends
  ends-left = let k : 6 - i ≡ suc (5 - i) = omega (arith, gets-most) in g.left ∙ ap (λ (n : ℕ). field_ends n l at) k

  is-end : end ≡ field_end l at
  is-end = let k : i + 1 + 0 ≡ i + 1 = omega arith in ap (λ (n : ℕ). get_or ends n 0) (sym k) ∙ sym (get_or-drop (i + 1) ends 0 0) ∙ ap (λ (es : List ℕ). get_or es 0 0) ends-left

  pub gets-found : at ≤ end → Found l at end
  gets-found k = field_found l at end is-end k

  size : length (form letter) ≡ count
  size = sym (ap length g.formed.is) ∙ length-take-le count bases (omega (arith, g.formed.most, g.formed.room))

  -- the base of the next field
  next : i < count → drop i (form letter) ≡ get_or bases i 0 ∷ drop (suc i) (form letter)
  next h = drop-cons (form letter) i 0 (omega (arith, size)) ∙ ap (λ (b : ℕ). b ∷ drop (suc i) (form letter)) (ap (λ (t : List ℕ). get_or t i 0) (sym g.formed.is) ∙ get_or-take count bases i 0 h)

  pub gets-few : i < count → i < 5
  gets-few h = omega (arith, g.formed.most)

  -- the bases and the fields that are left
  more : i < count → at ≤ end → values (drop i (form letter)) (rest l at) ≡ values (get_or bases i 0 ∷ drop (suc i) (form letter)) (take (end - at) (drop at l) ∷ rest l (end + 1))
  more h k = let f = gets-found k in rw (next h, rest_more l at end f.there f.is)

  pub gets-missing : i < count → end < at → Bad ≡ recorded letter (values (form letter) (rest l 2))
  unfolding values
  gets-missing h k = let w : values (drop i (form letter)) (rest l at) ≡ None = rw (next h, rest-none l at (field-none l at end is-end k)) in refused letter (take i v) g.same w

  pub gets-wrong : i < count → at ≤ end → value (get_or bases i 0) (take (end - at) (drop at l)) ≡ None → Bad ≡ recorded letter (values (form letter) (rest l 2))
  gets-wrong h k w = refused letter (take i v) g.same (more h k ∙ values-wrong (get_or bases i 0) (take (end - at) (drop at l)) (drop (suc i) (form letter)) (rest l (end + 1)) w)

  pub gets-small : (n : ℕ) → value (get_or bases i 0) (take (end - at) (drop at l)) ≡ Some n → n < 4294967296
  gets-small n w = value-small (get_or bases i 0) (take (end - at) (drop at l)) n w

  pub gets-turn : (n : ℕ) → i < count → at ≤ end → value (get_or bases i 0) (take (end - at) (drop at l)) ≡ Some n → Gets letter count bases l ends (set v i n) (end + 1) (i + 1)
  gets-turn n h k w =
      let j : i < length v = omega (arith, gets-few h, g.room) in
      let m : 5 - i ≡ suc (5 - suc i) = omega (arith, g.formed.most) in
      let z : drop (suc i) v ≡ replicate (5 - suc i) 0 = ap (λ (x : ℕ). drop x v) (sym (add-one i)) ∙ sym (drop-drop 1 i v) ∙ ap (drop 1) (g.zeros ∙ ap (λ (x : ℕ). replicate x 0) m) in
      let b : drop (suc i) (form letter) ≡ drop (i + 1) (form letter) = ap (λ (x : ℕ). drop x (form letter)) (sym (add-one i)) in
      let c : 6 - (i + 1) ≡ 5 - i = omega arith in
      let t : take i v ++ (n ∷ []) ≡ take (i + 1) (set v i n) = sym (rw (add-one i) (take-suc-set v i n j)) in
      record {
        formed = g.formed;
        left = rw c (sym (drop-drop 1 (i + 1) ends) ∙ ap (drop 1) ends-left ∙ ap (λ (e : ℕ). field_ends (5 - i) l (e + 1)) (sym is-end));
        same = g.same ∙ ap (after (take i v)) (more h k ∙ values-step (get_or bases i 0) (take (end - at) (drop at l)) (drop (suc i) (form letter)) (rest l (end + 1)) w) ∙ after-with (take i v) n (values (drop (suc i) (form letter)) (rest l (end + 1))) ∙ rw (b, t);
        zeros = rw (add-one i) (drop-set-lt (suc i) v i n (omega arith) ∙ z);
        room = length-set v i n ∙ g.room;
        within = omega arith;
      }

  -- all values are read
  done : count ≤ i → drop i (form letter) ≡ []
  done h = let k : length (form letter) ≤ i = omega (arith, size) in drop_of_length-le (form letter) k

  pub gets_more : count ≤ i → at ≤ end → Bad ≡ recorded letter (values (form letter) (rest l 2))
  unfolding values
  gets_more h k =
      let f = gets-found k in
      let w : values (drop i (form letter)) (rest l at) ≡ None = rw (done h, rest_more l at end f.there f.is) in
      refused letter (take i v) g.same w

  past : {j : ℕ} → i ≤ j → length (take i v) ≤ j
  past h = omega (arith, length-take-le i v (omega (arith, g.within, g.formed.most, g.room)))

  shown : (j : ℕ) → get_or v j 0 ≡ get_or (take i v) j 0
  shown j = ⊎_elim
      (λ (h : j < i). sym (get_or-take i v j 0 h))
      (λ (h : i ≤ j).
      let q : i + (j - i) ≡ j = omega arith in
      ap (λ (x : ℕ). get_or v x 0) (sym q) ∙ sym (get_or-drop i v (j - i) 0) ∙ ap (λ (t : List ℕ). get_or t (j - i) 0) g.zeros ∙ zero-at (5 - i) (j - i) ∙ sym (get_or-eq_default (take i v) 0 (past h)))
      (lt-or-le j i)
    where
      zero-at : (n k : ℕ) → ◌≡◌ {A = ℕ} (get_or (replicate n 0) k 0) 0
      zero-at zero k = refl
      zero-at (suc n) zero = refl
      zero-at (suc n) (suc k) = zero-at n k

  pub gets-end : count ≤ i → end < at → record_of letter v ≡ recorded letter (values (form letter) (rest l 2))
  unfolding values record_of
  gets-end h k =
      let w : values (form letter) (rest l 2) ≡ Some (take i v) = g.same ∙ rw (done h, rest-none l at (field-none l at end is-end k)) (ap Some (append-nil (take i v))) in
      let r : record_of letter v ≡ record_of letter (take i v) = rw (shown 0, shown 1, shown 2, shown 3, shown 4) in
      r ∙ sym (ap (recorded letter) w)

-- ---- the line

pub meaning-long : (l : List ℕ) → 80 < length l → Bad ≡ meaning l
unfolding meaning
meaning-long l h = rw (lt-ltb 80 (length l) h)

meaning-short : (l : List ℕ) → length l ≤ 80 → meaning l ≡ read (rest l 0)
unfolding meaning rest
meaning-short l h = rw (le-ltb 80 (length l) h, le-ltb (length l) 0 (omega arith))

-- the first field is the line up to the first of the ends
module _ (l : List ℕ) {ends : List ℕ} (handed : ends ≡ field_ends 7 l 0) where
  abbrev first : ℕ
  first = get_or ends 0 0

  is-first : first ≡ field_end l 0
  unfolding field_ends
  is-first = ap (λ (es : List ℕ). get_or es 0 0) handed

  found : Found l 0 first
  found = field_found l 0 first is-first (omega arith)

  rest-first : rest l 0 ≡ take first l ∷ rest l (first + 1)
  rest-first = rest_more l 0 first found.there found.is ∙ rw (sub-zero first)

  -- it is no letter
  pub meaning-wrong : length l ≤ 80 → (first ≡ 1 → ⊥) → Bad ≡ meaning l
  meaning-wrong h n = sym (meaning-short l h ∙ rw rest-first (other (take first l) (rest l (first + 1)) (λ (z : length (take first l) ≡ 1). n (sym (length-take-le first l found.within) ∙ z))))
    where
      other : (f : List ℕ) (fs : List (List ℕ)) → (length f ≡ 1 → ⊥) → read (f ∷ fs) ≡ Bad
      other [] fs g = refl
      other (c ∷ []) fs g = absurd (g refl)
      other (c ∷ d ∷ f) fs g = refl

  -- it is one
  module _ (n : first ≡ 1) where
    pub letter-there : 0 < length l
    letter-there = omega (arith, found.within)

    pub ends-after : ends ≡ 1 ∷ field_ends 6 l 2
    unfolding field_ends
    ends-after = handed ∙ ap (λ (e : ℕ). e ∷ field_ends 6 l (e + 1)) (sym is-first ∙ n)

    pub meaning-read : length l ≤ 80 → recorded (get_or l 0 0) (values (form (get_or l 0 0)) (rest l 2)) ≡ meaning l
    meaning-read h = sym (meaning-short l h ∙ rw (rest-first, n) (one l letter-there))
      where
        one : (m : List ℕ) → 0 < length m → read (take 1 m ∷ rest l 2) ≡ recorded (get_or m 0 0) (values (form (get_or m 0 0)) (rest l 2))
        one [] g = absurd (omega arith)
        one (c ∷ m) g = refl
