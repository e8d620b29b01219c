-- Laws of shapes: the tests and what they say, and how large things are.
use Rattle.std.specs.Prelude.{◌≡◌, ℕ, ◌+◌, ◌-◌, ◌*◌, ◌/◌, ◌%◌, ◌^◌, ◌<◌, ◌≤◌, Bool, true, false, cond, ◌==◌, nat_le, nat_lt, refl}
use Rattle.std.proofs.Common.{zero-le, sym, subst, ◌∙◌, arith, add-one, mul_left_comm, mul_comm, mul-one, mul-le-mul, mul-le-mul_left, le-mul_of_pos_right, mul-pos, div-lt_iff_lt-mul, le-div_iff_mul-le, le_trans, le_refl, sub-le, mod-lt, div-le_self, Fits, pow_pos, pow-add, le-leb, lt-ltb, eq-eqb, leb-true, ltb-true, eqb-true}
use Rattle.std.proofs.Math.Nat.{mul-mul-mul_comm, pow-succ', mod-le}
use Rattle.std.specs.Int.{w32}
use Rattle.std.specs.declared.result.Result.{Result}
use Rattle.std.specs.declared.result.Result.TheVariants.{Ok, Err}
use Rattle.std.proofs.Math.Arith.{digits_lt}
use Rattle.order.specs.TestLaws.{and→, fails}
use Rattle.squares.specs.declared.shape.Shape.{Shape}
use Rattle.squares.specs.declared.shape.Rect.{Rect}
use Rattle.squares.specs.declared.refusal.Refusal.{Refusal}
use Rattle.squares.specs.Shape.{largest_k, largest_side, shape, side, width, height, allowed, fits}
use Rattle.squares.specs.Made.{shaped}
use Rattle.squares.specs.Bounds.{Allowed, Fits as InTown}
use Rattle.squares.specs.Squares.{side_on, squares_on, squares, is_corner, block, number, interleave}
use Rattle.squares.specs.Leaves.{Positive, Below, Bits, OnLevel}
use Rattle.squares.specs.PowerLaws.{two-two, four-pos, four-small}
use Rattle.squares.specs.SquareLaws.{bits-interleaved}

pub allowed→ : (s : Shape) → allowed s ≡ true → Allowed s
allowed→ s e =
    let a = and→ (nat_le s.k largest_k) _ e in
    let b = and→ (nat_lt 0 s.P) _ a.1 in
    let c = and→ (nat_lt 0 s.Q) _ b.1 in
    let d = and→ (nat_le (width s) largest_side) _ c.1 in
    record { levels = leb-true _ _ a.0; columns = ltb-true _ _ b.0; rows = ltb-true _ _ c.0; wide = leb-true _ _ d.0; high = leb-true _ _ d.1 }

pub →allowed : (s : Shape) → Allowed s → allowed s ≡ true
→allowed s h = rw (le-leb _ _ h.levels, lt-ltb _ _ h.columns, lt-ltb _ _ h.rows, le-leb _ _ h.wide, le-leb _ _ h.high)

pub not-allowed : (s : Shape) → (Allowed s → ⊥) → allowed s ≡ false
not-allowed s f = fails (allowed s) (λ (e : allowed s ≡ true). f (allowed→ s e))

-- what the constructor answers: the shape, which is allowed, or none
made : (b : Bool) (s t : Shape) → b ≡ allowed t → ◌≡◌ {A = Result Shape Refusal} (Ok s) (cond b (Ok t) (Err Refusal.Shape)) → (t ≡ s) × (allowed s ≡ true)
made true s t h e = let same : t ≡ s = cc in (same, rw (← same) (sym h))
made false s t h e = absurd (let z : ◌≡◌ {A = ℕ} 0 1 = cc in omega arith)

unmade : (b : Bool) (n : Refusal) (t : Shape) → ◌≡◌ {A = Result Shape Refusal} (Err n) (cond b (Ok t) (Err Refusal.Shape)) → b ≡ false
unmade true n t e = absurd (let z : ◌≡◌ {A = ℕ} 0 1 = cc in omega arith)
unmade false n t e = refl

unmade-by : (b : Bool) (n : Refusal) (t : Shape) → ◌≡◌ {A = Result Shape Refusal} (Err n) (cond b (Ok t) (Err Refusal.Shape)) → n ≡ Refusal.Shape
unmade-by true n t e = absurd (let z : ◌≡◌ {A = ℕ} 0 1 = cc in omega arith)
unmade-by false n t e = cc

module _ (k P Q : ℕ) {r : Result Shape Refusal} (h : r ≡ shaped k P Q) where
  pub shaped→ : {s : Shape} → r ≡ Ok s → (shape k P Q ≡ s) × (allowed s ≡ true)
  shaped→ {s} e = made (allowed (shape k P Q)) s (shape k P Q) refl (sym e ∙ h)

  pub not-shaped : {n : Refusal} → r ≡ Err n → allowed (shape k P Q) ≡ false
  not-shaped {n} e = unmade (allowed (shape k P Q)) n (shape k P Q) (sym e ∙ h)

  pub shape-refused : {n : Refusal} → r ≡ Err n → n ≡ Refusal.Shape
  shape-refused {n} e = unmade-by (allowed (shape k P Q)) n (shape k P Q) (sym e ∙ h)

pub fits→ : (s : Shape) (r : Rect) → fits s r ≡ true → InTown s r
fits→ s r e =
    let a = and→ (nat_lt 0 r.w) _ e in
    let b = and→ (nat_lt 0 r.h) _ a.1 in
    let c = and→ (nat_le (r.a + r.w) (width s)) _ b.1 in
    record { columns = ltb-true _ _ a.0; rows = ltb-true _ _ b.0; wide = leb-true _ _ c.0; high = leb-true _ _ c.1 }

pub →fits : (s : Shape) (r : Rect) → InTown s r → fits s r ≡ true
→fits s r h = rw (lt-ltb _ _ h.columns, lt-ltb _ _ h.rows, le-leb _ _ h.wide, le-leb _ _ h.high)

pub not-fits : (s : Shape) (r : Rect) → (InTown s r → ⊥) → fits s r ≡ false
not-fits s r f = fails (fits s r) (λ (e : fits s r ≡ true). f (fits→ s r e))

pub record Corner (s : Shape) (i x y : ℕ) : Type 0 where
  pub level : i ≤ s.k
  pub column : x < width s
  pub row : y < height s
  pub whole : x % side_on s i ≡ 0
  pub whole' : y % side_on s i ≡ 0

pub corner→ : (s : Shape) (i x y : ℕ) → is_corner s i x y ≡ true → Corner s i x y
corner→ s i x y e =
    let a = and→ (nat_le i s.k) _ e in
    let b = and→ (nat_lt x (width s)) _ a.1 in
    let c = and→ (nat_lt y (height s)) _ b.1 in
    let d = and→ (x % side_on s i == 0) _ c.1 in
    record { level = leb-true _ _ a.0; column = ltb-true _ _ b.0; row = ltb-true _ _ c.0; whole = eqb-true _ _ d.0; whole' = eqb-true _ _ d.1 }

pub →corner : (s : Shape) (i x y : ℕ) → Corner s i x y → is_corner s i x y ≡ true
→corner s i x y h = rw (le-leb _ _ h.level, lt-ltb _ _ h.column, lt-ltb _ _ h.row, eq-eqb _ _ h.whole, eq-eqb _ _ h.whole')

pub not-corner : (s : Shape) (i x y : ℕ) → (Corner s i x y → ⊥) → is_corner s i x y ≡ false
not-corner s i x y f = fails (is_corner s i x y) (λ (e : is_corner s i x y ≡ true). f (corner→ s i x y e))

-- ---- how large things are

module _ (s : Shape) (h : Allowed s) where
  pub columns-small : s.P ≤ largest_side
  columns-small = le_trans (le-mul_of_pos_right s.P (pow_pos s.k)) h.wide

  pub rows-small : s.Q ≤ largest_side
  rows-small = le_trans (le-mul_of_pos_right s.Q (pow_pos s.k)) h.high

  pub side-squared : side s * side s ≡ 4 ^ s.k
  side-squared = let e : s.k + s.k ≡ 2 * s.k = omega arith in sym (pow-add 2 s.k s.k) ∙ rw (e, two-two s.k)

  pub area : width s * height s ≡ s.P * s.Q * 4 ^ s.k
  area = rw (mul-mul-mul_comm s.P (side s) s.Q (side s), side-squared)

  pub squares-small : (i : ℕ) → i ≤ s.k → squares_on s i ≤ 65536
  squares-small i g = le_trans (mul-le-mul_left (s.P * s.Q) (four-small i s.k g)) (subst (λ (n : ℕ). n ≤ 65536) area (mul-le-mul h.wide h.high))

  pub squares-some : (i : ℕ) → 0 < squares_on s i
  squares-some i = mul-pos (mul-pos h.columns h.rows) (four-pos i)

  -- the block of a cell on the map
  pub block-below : (x y : ℕ) → x < width s → y < height s → block s x y < s.P * s.Q
  block-below x y g l =
      let a : x / side s < s.P = (div-lt_iff_lt-mul (pow_pos s.k)).1 g in
      let b : y / side s < s.Q = (div-lt_iff_lt-mul (pow_pos s.k)).1 l in
      omega (arith, digits_lt b a, mul_comm s.P s.Q)

  pub blocks-small : s.P * s.Q ≤ 65536
  blocks-small = omega (arith, squares-small 0 zero-le, mul-one (s.P * s.Q))

  -- what the methods work out, from the powers that they ask for
  module _ (r : ℕ) (p : Positive (side s) 32 r) where
    pub width_is : Positive (width s) largest_side (s.P * r)
    width_is = rw p.is (record { is = refl; some = mul-pos h.columns (pow_pos s.k); small = h.wide })

    pub height-is : Positive (height s) largest_side (s.Q * r)
    height-is = rw p.is (record { is = refl; some = mul-pos h.rows (pow_pos s.k); small = h.high })

    pub block-is : (x y : ℕ) → x < width s → y < height s → Below (block s x y) (s.P * s.Q) (x / r + y / r * s.P)
    block-is x y g l = rw p.is (record { is = refl; below = block-below x y g l })

  pub squares-on-is : (i r : ℕ) → i ≤ s.k → Positive (4 ^ i) 4096 r → Positive (squares_on s i) 65536 (s.P * s.Q * r)
  squares-on-is i r g p = rw p.is (record { is = refl; some = squares-some i; small = squares-small i g })

  pub squares-is : (r : ℕ) → Positive (4 ^ (s.k + 1)) 4096 r → (s.P * s.Q * (r - 1) ≤ 262144) × Positive (squares s) 87381 (s.P * s.Q * (r - 1) / 3)
  squares-is r p =
      let few = squares-small s.k (le_refl s.k) in
      let four : r ≡ 4 * 4 ^ s.k = p.is ∙ rw (add-one s.k) (pow-succ' 4 s.k) in
      let all : s.P * s.Q * r ≡ 4 * squares_on s s.k = rw four (mul_left_comm (s.P * s.Q) 4 (4 ^ s.k)) in
      let most : s.P * s.Q * (r - 1) ≤ s.P * s.Q * r = mul-le-mul_left (s.P * s.Q) (sub-le r 1) in
      let three : 3 ≤ r - 1 = omega (arith, four-pos s.k) in
      let least : 1 * 3 ≤ s.P * s.Q * (r - 1) = mul-le-mul (mul-pos h.columns h.rows) three in
      (omega arith, record { is = rw p.is; some = omega arith; small = omega arith })

  pub squares-few : squares s ≤ 87381
  squares-few = (squares-is (4 ^ (s.k + 1)) (record { is = refl; some = four-pos (s.k + 1); small = four-small (s.k + 1) 6 (omega (arith, h.levels)) })).1.small

-- what the test of a shape works out
module _ (s : Shape) (r : ℕ) (p : Positive (side s) 32 r) where
  pub most→ : (n : ℕ) → n ≤ largest_side / r → n * side s ≤ largest_side
  most→ n g = subst (λ (t : ℕ). n * t ≤ largest_side) p.is ((le-div_iff_mul-le p.some).0 g)

  pub →most : (n : ℕ) → n * side s ≤ largest_side → n ≤ largest_side / r
  →most n g = (le-div_iff_mul-le p.some).1 (subst (λ (t : ℕ). n * t ≤ largest_side) (sym p.is) g)

-- the top bits of two coordinates are as many as the level says
module _ {s : Shape} {i d e : ℕ} (l : OnLevel s i) (p : Positive (side s) 32 d) (q : Positive (side_on s i) 32 e) where
  top_below : (x : ℕ) → x % d / e < 2 ^ i
  top_below x =
      let k : i + (s.k - i) ≡ s.k = omega (arith, l.level) in
      let whole : 2 ^ i * e ≡ d = rw (q.is, ← pow-add 2 i (s.k - i), k) (sym p.is) in
      (div-lt_iff_lt-mul q.some).1 (rw whole (mod-lt x p.some))

  pub tops : (x y : ℕ) → Bits i (x % d / e) (y % d / e)
  tops x y = record { few = le_trans l.level l.shape.levels; across = top_below x; up = top_below y }

-- what `number` works out
module _ (s : Shape) (i x y d e many b local : ℕ) (on : OnLevel s i) (p : Positive (side s) 32 d) (q : Positive (side_on s i) 32 e) (f : Positive (4 ^ i) 4096 many) (g : Below (block s x y) (s.P * s.Q) b) (l : Below (interleave 5 (x % d / e) (y % d / e)) 1024 local) where
  within : Below (interleave i (x % d / e) (y % d / e)) (4 ^ i) local
  within = bits-interleaved (tops on p q x y) l

  number-top : many * b + local < squares_on s i
  number-top = rw f.is (omega (arith, digits_lt g.below within.below, mul_comm (4 ^ i) b))

  pub number_is : Below (number s i x y) (squares_on s i) (many * b + local)
  unfolding number
  number_is = record { is = rw (f.is, g.is, within.is, p.is, q.is); below = number-top }

  pub number_small : many * b + local < 65536
  number_small = omega (arith, number-top, squares-small s on.shape i on.level)

-- on level 0 it is the block
pub number-none : (s : Shape) (x y : ℕ) {i r : ℕ} → i ≡ 0 → Below (block s x y) (s.P * s.Q) r → Below (number s i x y) (squares_on s i) r
unfolding number interleave
number-none s x y e h = rw e (record { is = omega (arith, h.is); below = omega (arith, h.below, mul-one (s.P * s.Q)) })

-- what `square` works out: the sums and products fit
pub across-fits : (a t : ℕ) → a ≤ 65536 → t ≤ 32 → Fits w32 (a * t)
across-fits a t few short = record { fits = omega (arith, mul-le-mul few short) }

module _ (a t e : ℕ) (few : a ≤ 65536) (short : t ≤ 32) (part : e < t) where
  place-small : a * t + e ≤ 2097184
  place-small = omega (arith, mul-le-mul few short)

  pub place-fits : Fits w32 (a * t + e)
  place-fits = record { fits = omega (arith, place-small) }

  pub corner-fits : (d : ℕ) → d ≤ 32 → Fits w32 ((a * t + e) * d)
  corner-fits d small = record { fits = omega (arith, mul-le-mul place-small small) }

-- a block's column and row are no more than a number of a square
pub column-few : (n f p : ℕ) → n ≤ 65536 → n / f % p ≤ 65536
column-few n f p h = le_trans (mod-le (n / f) p) (le_trans (div-le_self n f) h)

pub row-few : (n f p : ℕ) → n ≤ 65536 → n / f / p ≤ 65536
row-few n f p h = le_trans (div-le_self (n / f) p) (le_trans (div-le_self n f) h)
