-- Laws of numbers in a field.
use Rattle.std.specs.Prelude.{ℕ, suc, ◌+◌, ◌-◌, ◌*◌, ◌^◌, ◌<◌, ◌≤◌, ◌≡◌, refl, Bool, true, false, cond, not, ◌&&◌, List, [], ◌∷◌, ltb, leb, eqb, length, get_or, drop, Option, Some, None}
use Rattle.std.proofs.Math.Path.{sym}
use Rattle.std.proofs.Common.{◌∙◌, ⊎_elim, mul-le-mul_left, pow-suc, add-zero, add-suc, suc-add, drop_of_length-le, drop-cons}
use native.Mathlib.Omega.{arith}
use Rattle.std.proofs.Math.Numerals.{add-one}
use Rattle.std.proofs.Math.Nat.{pow-le-pow_right}
use borrow.Author.Tests.{lt-ltb, le-ltb, le-leb, lt-leb, eq-eqb, ne_eqb, eqb-true}
use Rattle.order.specs.TestLaws.{lt-or-le}
use Rattle.line.specs.Grammar.{digit_of, numeral, below, decimal, coordinate, value}
use Rattle.line.specs.Leaves.{Short}

-- ---- a digit

pub digit_low : (b : ℕ) → b < 48 → digit_of b ≡ 16
unfolding digit_of
digit_low b h = rw (lt-leb 48 b h, lt-leb 65 b (omega arith))

pub digit-decimal : (b : ℕ) → 48 ≤ b → b ≤ 57 → digit_of b ≡ b - 48
unfolding digit_of
digit-decimal b h g = rw (le-leb 48 b h, le-leb b 57 g)

pub digit-between : (b : ℕ) → 57 < b → b < 65 → digit_of b ≡ 16
unfolding digit_of
digit-between b h g = rw (le-leb 48 b (omega arith), lt-leb b 57 h, lt-leb 65 b g)

pub digit-letter : (b : ℕ) → 65 ≤ b → b ≤ 70 → digit_of b ≡ b - 55
unfolding digit_of
digit-letter b h g = rw (le-leb 48 b (omega arith), lt-leb b 57 (omega arith), le-leb 65 b h, le-leb b 70 g)

pub digit-high : (b : ℕ) → 70 < b → digit_of b ≡ 16
unfolding digit_of
digit-high b h = rw (le-leb 48 b (omega arith), lt-leb b 57 (omega arith), le-leb 65 b (omega arith), lt-leb b 70 h)

-- ---- digits

-- one digit more keeps a number small
shift_small : {n d base : ℕ} (i : ℕ) → n < 16 ^ i → d < base → base ≤ 16 → n * base + d < 16 ^ suc i
shift_small {n} {d} {base} i h g b =
    let m = mul-le-mul_left n b in
    omega (arith, pow-suc 16 i, m, h, g, b)

-- i digits are read
pub record Reads (base : ℕ) (f : List ℕ) (n i : ℕ) : Type 0 where
  pub same : numeral base 0 f ≡ numeral base n (drop i f)
  pub small : n < 16 ^ i
  pub within : i ≤ length f

pub reads-begin : (base : ℕ) (f : List ℕ) → Reads base f 0 0
reads-begin base f = record { same = refl; small = omega arith; within = omega arith }

module _ {base : ℕ} {f : List ℕ} {n i : ℕ} (short : Short f base) (r : Reads base f n i) where
  pub reads_fit : (d : ℕ) → i < length f → d < base → n * base + d < 2 ^ 64
  reads_fit d h g =
      let a = shift_small i r.small g short.within in
      let p : 16 ^ suc i ≤ 16 ^ 10 = let q : suc i ≤ 10 = omega (arith, short.digits) in pow-le-pow_right (omega arith) q in
      omega arith

  pub reads-turn : (d : ℕ) → i < length f → d ≡ digit_of (get_or f i 0) → d < base → Reads base f (n * base + d) (i + 1)
  unfolding numeral
  reads-turn d h e g =
      record { same = r.same ∙ rw (drop-cons f i 0 h, add-one, ← e, lt-ltb d base g); small = rw add-one (shift_small i r.small g short.within); within = omega arith }

  pub reads-stop : (d : ℕ) → i < length f → d ≡ digit_of (get_or f i 0) → base ≤ d → None ≡ numeral base 0 f
  unfolding numeral
  reads-stop d h e g = sym (r.same ∙ rw (drop-cons f i 0 h, ← e, le-ltb d base g))

  pub reads_end : length f ≤ i → Some n ≡ numeral base 0 f
  unfolding numeral
  reads_end h = sym (r.same ∙ rw (drop_of_length-le f h))

-- ---- a decimal

pub decimal-empty : (f : List ℕ) → length f ≡ 0 → None ≡ decimal f
unfolding decimal
decimal-empty f h = rw (lt-leb 1 (length f) (omega arith))

pub decimal-long : (f : List ℕ) → 10 < length f → None ≡ decimal f
unfolding decimal
decimal-long f h = rw (le-leb 1 (length f) (omega arith), lt-leb (length f) 10 h)

-- a zero alone
pub decimal-zero : (f : List ℕ) → length f ≡ 1 → get_or f 0 0 ≡ 48 → Some 0 ≡ decimal f
unfolding decimal numeral digit_of
decimal-zero [] h e = absurd (omega arith)
decimal-zero (b ∷ []) h e = rw e
decimal-zero (b ∷ d ∷ f) h e = absurd (omega arith)

pub decimal-needless : (f : List ℕ) → 1 < length f → get_or f 0 0 ≡ 48 → None ≡ decimal f
unfolding decimal
decimal-needless f h e = rw (lt-ltb 1 (length f) h, e) (refused (leb 1 (length f)) (leb (length f) 10))
  where
    refused : (a b : Bool) → None ≡ cond (a && (b && false)) (below 4294967296 (numeral 10 0 f)) None
    refused true true = refl
    refused true false = refl
    refused false b = refl

decimal-plain : (f : List ℕ) → 1 ≤ length f → length f ≤ 10 → (get_or f 0 0 ≡ 48 → ⊥) → decimal f ≡ below 4294967296 (numeral 10 0 f)
unfolding decimal
decimal-plain f h g z = rw (le-leb 1 (length f) h, le-leb (length f) 10 g, ne_eqb (get_or f 0 0) 48 z) (taken (ltb 1 (length f)))
  where
    taken : (t : Bool) → cond (not (t && false)) (below 4294967296 (numeral 10 0 f)) None ≡ below 4294967296 (numeral 10 0 f)
    taken true = refl
    taken false = refl

pub decimal-wrong : (f : List ℕ) → 1 ≤ length f → length f ≤ 10 → (get_or f 0 0 ≡ 48 → ⊥) → numeral 10 0 f ≡ None → None ≡ decimal f
decimal-wrong f h g z e = sym (decimal-plain f h g z ∙ rw e)

pub decimal-large : (f : List ℕ) (n : ℕ) → 1 ≤ length f → length f ≤ 10 → (get_or f 0 0 ≡ 48 → ⊥) → numeral 10 0 f ≡ Some n → 4294967296 ≤ n → None ≡ decimal f
decimal-large f n h g z e k = sym (decimal-plain f h g z ∙ rw (e, le-ltb n 4294967296 k))

pub decimal-is : (f : List ℕ) (n : ℕ) → 1 ≤ length f → length f ≤ 10 → (get_or f 0 0 ≡ 48 → ⊥) → numeral 10 0 f ≡ Some n → n < 4294967296 → Some n ≡ decimal f
decimal-is f n h g z e k = sym (decimal-plain f h g z ∙ rw (e, lt-ltb n 4294967296 k))

-- ---- a coordinate

pub coordinate-wrong : (f : List ℕ) → (length f ≡ 8 → ⊥) → None ≡ coordinate f
unfolding coordinate
coordinate-wrong f h = rw (ne_eqb (length f) 8 h)

pub coordinate-is : (f : List ℕ) → length f ≡ 8 → numeral 16 0 f ≡ coordinate f
unfolding coordinate
coordinate-is f h = rw (eq-eqb (length f) 8 h)

-- ---- a value fits 32 bits

numeral-small : (base n m i : ℕ) (f : List ℕ) → base ≤ 16 → n < 16 ^ i → numeral base n f ≡ Some m → m < 16 ^ (i + length f)
unfolding numeral
numeral-small base n m i [] b h e = let q : n ≡ m = cc in rw add-zero (omega arith)
numeral-small base n m i (x ∷ f) b h e = ⊎_elim
    (λ (g : digit_of x < base). rw (add-suc i (length f), ← suc-add i (length f)) (numeral-small base (n * base + digit_of x) m (suc i) f b (shift_small i h g b) (rw (lt-ltb (digit_of x) base g) at e)))
    (λ (g : base ≤ digit_of x). let q : None ≡ Some m = rw (le-ltb (digit_of x) base g) at e in let z : ◌≡◌ {A = ℕ} 0 1 = cc in absurd (omega arith))
    (lt-or-le (digit_of x) base)

below-small : (m n : ℕ) (x : Option ℕ) → below m x ≡ Some n → n < m
below-small m n None e = let z : ◌≡◌ {A = ℕ} 0 1 = cc in absurd (omega arith)
below-small m n (Some k) e = ⊎_elim
    (λ (h : k < m). let q : Some k ≡ Some n = rw (lt-ltb k m h) at e in let z : k ≡ n = cc in omega arith)
    (λ (h : m ≤ k). let q : None ≡ Some n = rw (le-ltb k m h) at e in let z : ◌≡◌ {A = ℕ} 0 1 = cc in absurd (omega arith))
    (lt-or-le k m)

decimal-small : (f : List ℕ) (n : ℕ) → decimal f ≡ Some n → n < 4294967296
unfolding decimal
decimal-small f n e = go (leb 1 (length f) && (leb (length f) 10 && not (ltb 1 (length f) && eqb (get_or f 0 0) 48))) e
  where
    go : (t : Bool) → cond t (below 4294967296 (numeral 10 0 f)) None ≡ Some n → n < 4294967296
    go true q = below-small 4294967296 n (numeral 10 0 f) q
    go false q = let z : ◌≡◌ {A = ℕ} 0 1 = cc in absurd (omega arith)

coordinate-small : (f : List ℕ) (n : ℕ) → coordinate f ≡ Some n → n < 4294967296
unfolding coordinate
coordinate-small f n e = go (eqb (length f) 8) refl e
  where
    go : (t : Bool) → eqb (length f) 8 ≡ t → cond t (numeral 16 0 f) None ≡ Some n → n < 4294967296
    go true h q = let g : length f ≡ 8 = eqb-true (length f) 8 h in rw g at (numeral-small 16 0 n 0 f (omega arith) (omega arith) q)
    go false h q = let z : ◌≡◌ {A = ℕ} 0 1 = cc in absurd (omega arith)

pub value-small : (base : ℕ) (f : List ℕ) (n : ℕ) → value base f ≡ Some n → n < 4294967296
value-small base f n e = go (eqb base 10) e
  where
    go : (t : Bool) → cond t (decimal f) (coordinate f) ≡ Some n → n < 4294967296
    go true q = decimal-small f n q
    go false q = coordinate-small f n q
