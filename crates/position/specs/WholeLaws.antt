-- A small whole number's float compared with any float. A number is ±v / d, with v its m * up e and d its down e. Assumes nothing.
use Rattle.std.specs.Prelude.{ℕ, ◌*◌, ◌<◌, ◌≤◌, ◌≡◌, refl, Bool, true, false, not, ◌&&◌, ◌||◌, ltb, leb, eqb, ℤ, Float}
use Rattle.std.proofs.Common.{sym, ap, ◌∙◌, ⊎_elim, mul-one, zero-add, zero-mul, le_of_lt, le_of_eq, mul_right_comm, mul-le-mul_right, mul-lt-mul_of_pos_right, le_of_mul-le-mul_right, lt_of_mul-lt-mul_right, arith, eq-eqb, ne_eqb, lt-ltb, le-ltb, le-leb, leb-true, ltb-true, eqb-true}
use Rattle.std.proofs.Math.Bool.{and-true, or-true, or-false}
use Rattle.std.proofs.Math.Nat.{eq_of_mul-eq-mul_right}
use Rattle.std.proofs.lemmas.Bool.{lt-leb}
use Rattle.std.specs.Float.Ieee.{nan, up, down, below, level, le, lt, eq, of_int}
use Rattle.std.specs.Float.{inf, fin, binary32}
use Rattle.std.specs.Float.Ieee.Exact.{HasValue}
use Rattle.std.specs.Float.Ieee.Fits.{down_pos}
use Rattle.std.specs.Float.Ieee.Back.{round_whole}
use Rattle.order.specs.TestLaws.{lt-or-eq-or-gt, and→, both_ways}
use Rattle.position.specs.Band.{float}

-- ---- the same tests of two numbers and of as many times both

module _ (x y k : ℕ) (kp : 0 < k) where
  leb-scaled : leb (x * k) (y * k) ≡ leb x y
  leb-scaled = both_ways _ _
      (λ (e : leb (x * k) (y * k) ≡ true). le-leb x y (le_of_mul-le-mul_right (leb-true _ _ e) kp))
      (λ (e : leb x y ≡ true). le-leb _ _ (mul-le-mul_right k (leb-true x y e)))

  ltb-scaled : ltb (x * k) (y * k) ≡ ltb x y
  ltb-scaled = both_ways _ _
      (λ (e : ltb (x * k) (y * k) ≡ true). lt-ltb x y (lt_of_mul-lt-mul_right k (ltb-true _ _ e)))
      (λ (e : ltb x y ≡ true). lt-ltb _ _ (mul-lt-mul_of_pos_right (ltb-true x y e) kp))

  eqb-scaled : eqb (x * k) (y * k) ≡ eqb x y
  eqb-scaled = both_ways _ _
      (λ (e : eqb (x * k) (y * k) ≡ true). eq-eqb x y (eq_of_mul-eq-mul_right k kp x y (eqb-true _ _ e)))
      (λ (e : eqb x y ≡ true). eq-eqb _ _ (ap (λ (n : ℕ). n * k) (eqb-true x y e)))

-- ---- 0 and more compared with ±b

-- ±b is at least 0
abbrev pub plus : Bool → ℕ → Bool
plus s b = not s || eqb b 0

le-number : (s : Bool) (a b : ℕ) → (below false a s b || level false a s b) ≡ (plus s b && leb a b)
le-number false a b = ⊎_elim
    (λ (h : a < b). rw (lt-ltb a b h, le-leb a b (le_of_lt h)))
    (⊎_elim (λ (h : a ≡ b). rw (eq-eqb a b h, or-true, le-leb a b (le_of_eq h))) (λ (h : b < a). rw (le-ltb a b (le_of_lt h), ne_eqb a b (λ (e : a ≡ b). omega arith), lt-leb a b h)))
    (lt-or-eq-or-gt a b)
le-number true a b = both_ways _ _
    (λ (e : (eqb a b && eqb a 0) ≡ true).
    let p = and→ (eqb a b) (eqb a 0) e in
    let x : a ≡ b = eqb-true _ _ p.0 in
    let y : a ≡ 0 = eqb-true _ _ p.1 in
    rw (eq-eqb b 0 (omega arith), le-leb a b (omega arith)))
    (λ (e : (eqb b 0 && leb a b) ≡ true).
    let p = and→ (eqb b 0) (leb a b) e in
    let x : b ≡ 0 = eqb-true _ _ p.0 in
    let y : a ≤ b = leb-true _ _ p.1 in
    rw (eq-eqb a b (omega arith), eq-eqb a 0 (omega arith)))

lt-number : (s : Bool) (a b : ℕ) → plus s b ≡ true → below s b false a ≡ ltb b a
lt-number false a b z = refl
lt-number true a b z = rw (eqb-true b 0 z, zero-add)

eq_number : (s : Bool) (a b : ℕ) → plus s b ≡ true → level s b false a ≡ eqb b a
eq_number false a b z = and-true (eqb b a)
eq_number true a b z = rw z (and-true (eqb b a))

-- ---- a float of the value n compared with a number

sized : (k n : ℕ) (d e : ℤ) → k * up d * 1 ≡ n * down d → k * up d * down e ≡ n * down e * down d
sized k n d e h = ap (λ (x : ℕ). x * down e) (sym (mul-one (k * up d)) ∙ h) ∙ mul_right_comm n (down d) (down e)

module _ (n : ℕ) (s : Bool) (m : ℕ) (e : ℤ) where
  sign : (d : ℤ) → plus s (m * up e * down d) ≡ plus s (m * up e)
  sign d = ap (λ (t : Bool). not s || t) (rw zero-mul at (eqb-scaled (m * up e) 0 (down d) (down_pos d)))

  le-value : (l : Float) → HasValue l false n 1 → le l (fin s m e) ≡ (plus s (m * up e) && leb (n * down e) (m * up e))
  unfolding le lt eq
  le-value nan h = absurd h
  le-value (inf t) h = absurd h
  le-value (fin t k d) h = rw h.0 (le-number s (k * up d * down e) (m * up e * down d) ∙ rw (sign d, sized k n d e h.1, leb-scaled (n * down e) (m * up e) (down d) (down_pos d)))

  lt-value : (l : Float) → HasValue l false n 1 → plus s (m * up e) ≡ true → lt (fin s m e) l ≡ ltb (m * up e) (n * down e)
  unfolding lt
  lt-value nan h z = absurd h
  lt-value (inf t) h z = absurd h
  lt-value (fin t k d) h z = rw h.0 (lt-number s (k * up d * down e) (m * up e * down d) (sign d ∙ z) ∙ rw (sized k n d e h.1, ltb-scaled (m * up e) (n * down e) (down d) (down_pos d)))

  eq-value : (l : Float) → HasValue l false n 1 → plus s (m * up e) ≡ true → eq (fin s m e) l ≡ eqb (m * up e) (n * down e)
  unfolding eq
  eq-value nan h z = absurd h
  eq-value (inf t) h z = absurd h
  eq-value (fin t k d) h z = rw h.0 (eq_number s (k * up d * down e) (m * up e * down d) (sign d ∙ z) ∙ rw (sized k n d e h.1, eqb-scaled (m * up e) (n * down e) (down d) (down_pos d)))

-- ---- a whole number's float

float_value : (n : ℕ) → n ≤ 256 → HasValue (float n) false n 1
unfolding of_int
float_value n h = round_whole binary32 false n (omega arith)

-- compared with a number
module _ (n : ℕ) (small : n ≤ 256) (s : Bool) (m : ℕ) (e : ℤ) where
  pub le-whole : le (float n) (fin s m e) ≡ (plus s (m * up e) && leb (n * down e) (m * up e))
  le-whole = le-value n s m e (float n) (float_value n small)

  pub lt-whole : plus s (m * up e) ≡ true → lt (fin s m e) (float n) ≡ ltb (m * up e) (n * down e)
  lt-whole = lt-value n s m e (float n) (float_value n small)

  pub eq-whole : plus s (m * up e) ≡ true → eq (fin s m e) (float n) ≡ eqb (m * up e) (n * down e)
  eq-whole = eq-value n s m e (float n) (float_value n small)

-- compared with an infinity
finite : (n : ℕ) (l : Float) → HasValue l false n 1 → (t : Bool) → (le l (inf t) ≡ not t) × (lt (inf t) l ≡ t) × (eq (inf t) l ≡ false)
unfolding le lt eq
finite n nan h t = absurd h
finite n (inf u) h t = absurd h
finite n (fin u k d) h t = (or-false (not t), refl, refl)

pub whole-finite : (n : ℕ) → n ≤ 256 → (t : Bool) → (le (float n) (inf t) ≡ not t) × (lt (inf t) (float n) ≡ t) × (eq (inf t) (float n) ≡ false)
whole-finite n small = finite n (float n) (float_value n small)

-- compared with a NaN
pub le-nan : (l : Float) → le l nan ≡ false
unfolding le lt eq
le-nan nan = refl
le-nan (inf t) = refl
le-nan (fin t k d) = refl
