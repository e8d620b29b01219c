-- Laws of the squares and their numbers, over the level i.
use Rattle.std.specs.Prelude.{◌≡◌, ℕ, zero, suc, ◌+◌, ◌-◌, ◌*◌, ◌/◌, ◌%◌, ◌^◌, ◌<◌, ◌≤◌, ◌↔◌, ◌≢◌, refl}
use Rattle.std.proofs.Common.{ap, sym, ◌∙◌, arith, add-one, div-one, div-lt_iff_lt-mul, div-add-mod', div-mul-le_self, mod-lt, mul_comm, mul_assoc, add_comm, suc-add, zero-add, suc-mul, mul-le-mul_right, mul-div_cancel, mul-one, mul_left_comm, pow_pos, pow_mono, pow-add, shr-shr}
use Rattle.std.proofs.Math.Nat.{pow-succ', div-div-eq-div-mul, lt-div-mul-add, mod-one, mul-mod_left, mul-sub, eq_of_mul-eq-mul_right}
use Rattle.std.proofs.lemmas.Nat.{shl-shr, mod-pow-add}
use Rattle.std.proofs.Math.Pow.{field}
use Rattle.std.proofs.Math.Arith.{digits_lt, digits_div, digits_mod, mod-mul}
use Rattle.squares.specs.declared.shape.Shape.{Shape}
use Rattle.squares.specs.Shape.{side, width, height}
use Rattle.squares.specs.PowerLaws.{four-pos}
use Rattle.squares.specs.Leaves.{Below, Bits}
use Rattle.squares.specs.Spread.{spread}
use Rattle.squares.specs.Squares.{side_on, squares_on, squares, interleave, block, number, evens, corner_x, corner_y}

-- ---- bits interleaved and taken apart

-- one more bit, one more pair of bits
mod-two : (i n : ℕ) → n % 2 ^ suc i ≡ 2 * (n / 2 % 2 ^ i) + n % 2
mod-two i n = let e = rw add-one at (mod-pow-add n i 1) in omega arith

mod-four : (i n : ℕ) → n % 4 ^ suc i ≡ 4 * (n / 4 % 4 ^ i) + n % 4
mod-four i n = rw (pow-succ' 4 i, mul_comm 4 (4 ^ i), mod-mul n {c = 4} (four-pos i) (omega arith)) (omega arith)

-- i pairs of bits, i bits
pub interleave-below : (i a b : ℕ) → interleave i a b < 4 ^ i
unfolding interleave
interleave-below zero a b = omega arith
interleave-below (suc i) a b = let h = interleave-below i (a / 2) (b / 2) in omega arith

pub evens-below : (i n : ℕ) → evens i n < 2 ^ i
unfolding evens
evens-below zero n = omega arith
evens-below (suc i) n = let h = evens-below i (n / 4) in omega arith

-- the bits of a and those of b apart, each with 0 in the other's place
interleave-apart : (i a b : ℕ) → interleave i a b ≡ interleave i a 0 + 2 * interleave i b 0
unfolding interleave
interleave-apart zero a b = refl
interleave-apart (suc i) a b = let e = interleave-apart i (a / 2) (b / 2) in omega arith

-- beyond the bits that there are stand zeros
interleave-more : (i j a : ℕ) → a < 2 ^ i → i ≤ j → interleave j a 0 ≡ interleave i a 0
unfolding interleave
interleave-more zero zero a h g = refl
interleave-more zero (suc j) a h g =
    let z : a ≡ 0 = omega arith in
    let e = interleave-more zero j 0 (omega arith) (omega arith) in
    rw z (omega arith)
interleave-more (suc i) zero a h g = absurd (omega arith)
interleave-more (suc i) (suc j) a h g = let e = interleave-more i j (a / 2) (omega (arith, pow-succ' 2 i)) (omega arith) in omega arith

-- a number of the table by its place
pub spread_at : {a n v : ℕ} → a < 32 → a % 32 ≡ n → v ≡ spread n → Below (spread a) 1024 v
spread_at {a} {n} {v} h e f = let m : n ≡ a = omega arith in record { is = f ∙ ap spread m; below = rw f (interleave-below 5 n 0) }

-- past the last of them there is none
pub past : {a n : ℕ} → n ≤ a → (a ≢ n) → suc n ≤ a
past {a} {n} h f = omega arith

pub none-past : (a v : ℕ) → 32 ≤ a % 32 → Below (spread a) 1024 v
none-past a v h = absurd (omega arith)

pub interleaved-is : (a b r t : ℕ) → Below (spread a) 1024 r → Below (spread b) 1024 t → Below (interleave 5 a b) 1024 (r + 2 * t)
interleaved-is a b r t p q = let e : r + 2 * t ≡ interleave 5 a b = rw (p.is, q.is) (sym (interleave-apart 5 a b)) in record { is = e; below = rw e (interleave-below 5 a b) }

-- numbers of i bits
module _ {i a b : ℕ} (h : Bits i a b) where
  pub bits_small : (a < 32) × (b < 32)
  bits_small = let m : 2 ^ i ≤ 32 = pow_mono h.few in omega (arith, h.across, h.up)

  pub bits-interleaved : {r : ℕ} → Below (interleave 5 a b) 1024 r → Below (interleave i a b) (4 ^ i) r
  bits-interleaved {r} p =
      let e : r ≡ interleave i a b = p.is ∙ rw (interleave-apart 5 a b, interleave-more i 5 a h.across h.few, interleave-more i 5 b h.up h.few) (sym (interleave-apart i a b)) in
      record { is = e; below = rw e (interleave-below i a b) }

-- the bits of a and of b come out as they went in
pub evens-interleave : (i a b : ℕ) → evens i (interleave i a b) ≡ a % 2 ^ i
unfolding interleave evens
evens-interleave zero a b = sym (mod-one a)
evens-interleave (suc i) a b =
    let m = interleave i (a / 2) (b / 2) in
    let e : (4 * m + (2 * (b % 2) + a % 2)) / 4 ≡ m = omega arith in
    rw (e, evens-interleave i (a / 2) (b / 2), mod-two i a) (omega arith)

pub odds-interleave : (i a b : ℕ) → evens i (interleave i a b / 2) ≡ b % 2 ^ i
unfolding interleave evens
odds-interleave zero a b = sym (mod-one b)
odds-interleave (suc i) a b =
    let m = interleave i (a / 2) (b / 2) in
    let e : (4 * m + (2 * (b % 2) + a % 2)) / 2 / 4 ≡ m / 2 = omega arith in
    rw (e, odds-interleave i (a / 2) (b / 2), mod-two i b) (omega arith)

-- bits taken apart and interleaved again
pub interleave-evens : (i n : ℕ) → interleave i (evens i n) (evens i (n / 2)) ≡ n % 4 ^ i
unfolding interleave evens
interleave-evens zero n = sym (mod-one n)
interleave-evens (suc i) n =
    let a : (2 * evens i (n / 4) + n % 2) / 2 ≡ evens i (n / 4) = omega arith in
    let b : (2 * evens i (n / 2 / 4) + n / 2 % 2) / 2 ≡ evens i (n / 2 / 4) = omega arith in
    let e : n / 2 / 4 ≡ n / 4 / 2 = omega arith in
    rw (a, b, e, interleave-evens i (n / 4), mod-four i n) (omega arith)

-- only the i lowest bits count
pub interleave-mod : (i a b : ℕ) → interleave i (a % 2 ^ i) (b % 2 ^ i) ≡ interleave i a b
unfolding interleave
interleave-mod zero a b = refl
interleave-mod (suc i) a b =
    let e : a % 2 ^ suc i / 2 ≡ a / 2 % 2 ^ i = omega (arith, mod-two i a) in
    let f : b % 2 ^ suc i / 2 ≡ b / 2 % 2 ^ i = omega (arith, mod-two i b) in
    rw (e, f, interleave-mod i (a / 2) (b / 2)) (omega (arith, mod-two i a, mod-two i b))

-- a block in front of the number within it
pub evens-high : (i q n : ℕ) → evens i (4 ^ i * q + n) ≡ evens i n
unfolding evens
evens-high zero q n = refl
evens-high (suc i) q n =
    let m : 4 ^ suc i * q ≡ 4 * (4 ^ i * q) = rw (pow-succ' 4 i, mul_assoc 4 (4 ^ i) q) in
    let e : (4 ^ suc i * q + n) / 4 ≡ 4 ^ i * q + n / 4 = omega arith in
    rw (e, evens-high i q (n / 4)) (omega arith)

pub odds-high : (i q n : ℕ) → evens i ((4 ^ i * q + n) / 2) ≡ evens i (n / 2)
unfolding evens
odds-high zero q n = refl
odds-high (suc i) q n =
    let m : 4 ^ suc i * q ≡ 4 * (4 ^ i * q) = rw (pow-succ' 4 i, mul_assoc 4 (4 ^ i) q) in
    let e : (4 ^ suc i * q + n) / 2 / 4 ≡ (4 ^ i * q + n / 4) / 2 = omega arith in
    let f : n / 2 / 4 ≡ n / 4 / 2 = omega arith in
    rw (e, f, odds-high i q (n / 4)) (omega arith)

-- ---- a level as a grid p * 2 ^ i squares wide: the number at a column and a row, and back

abbrev place : ℕ → ℕ → ℕ → ℕ → ℕ
place p i a b = 4 ^ i * (a / 2 ^ i + b / 2 ^ i * p) + interleave i a b

abbrev pub column : ℕ → ℕ → ℕ → ℕ
column p i n = n / 4 ^ i % p * 2 ^ i + evens i n

abbrev pub row : ℕ → ℕ → ℕ → ℕ
row p i n = n / 4 ^ i / p * 2 ^ i + evens i (n / 2)

place-block : (p i a b : ℕ) → place p i a b / 4 ^ i ≡ b / 2 ^ i * p + a / 2 ^ i
place-block p i a b = rw (mul_comm (4 ^ i) (a / 2 ^ i + b / 2 ^ i * p), digits_div (a / 2 ^ i + b / 2 ^ i * p) (interleave-below i a b)) (add_comm (a / 2 ^ i) (b / 2 ^ i * p))

column-place : (p i a b : ℕ) → a < p * 2 ^ i → column p i (place p i a b) ≡ a
column-place p i a b h =
    let g : a / 2 ^ i < p = (div-lt_iff_lt-mul (pow_pos i)).1 h in
    rw (place-block p i a b, digits_mod (b / 2 ^ i) g, evens-high i (a / 2 ^ i + b / 2 ^ i * p) (interleave i a b), evens-interleave i a b) (div-add-mod' a (2 ^ i))

row-place : (p i a b : ℕ) → a < p * 2 ^ i → row p i (place p i a b) ≡ b
row-place p i a b h =
    let g : a / 2 ^ i < p = (div-lt_iff_lt-mul (pow_pos i)).1 h in
    rw (place-block p i a b, digits_div (b / 2 ^ i) g, odds-high i (a / 2 ^ i + b / 2 ^ i * p) (interleave i a b), odds-interleave i a b) (div-add-mod' b (2 ^ i))

interleave-high : (i q a r b : ℕ) → a < 2 ^ i → b < 2 ^ i → interleave i (q * 2 ^ i + a) (r * 2 ^ i + b) ≡ interleave i a b
interleave-high i q a r b h g = sym (interleave-mod i (q * 2 ^ i + a) (r * 2 ^ i + b)) ∙ rw (digits_mod q h, digits_mod r g)

place-column : (p i n : ℕ) → place p i (column p i n) (row p i n) ≡ n
place-column p i n =
    let q = n / 4 ^ i in
    let h = evens-below i n in
    let g = evens-below i (n / 2) in
    rw (interleave-high i (q % p) (evens i n) (q / p) (evens i (n / 2)) h g, digits_div (q % p) h, digits_div (q / p) g, interleave-evens i n, add_comm (q % p) (q / p * p), div-add-mod' q p, mul_comm (4 ^ i) q) (div-add-mod' n (4 ^ i))

column-below : (p i n : ℕ) → 0 < p → column p i n < p * 2 ^ i
column-below p i n h = digits_lt (mod-lt (n / 4 ^ i) h) (evens-below i n)

row_below : (p q i n : ℕ) → 0 < p → n < p * q * 4 ^ i → row p i n < q * 2 ^ i
row_below p q i n h g =
    let b : n / 4 ^ i < p * q = (div-lt_iff_lt-mul (four-pos i)).1 g in
    digits_lt ((div-lt_iff_lt-mul h).1 (rw (mul_comm q p) b)) (evens-below i (n / 2))

place-below : (p q i a b : ℕ) → a < p * 2 ^ i → b < q * 2 ^ i → place p i a b < p * q * 4 ^ i
place-below p q i a b h g =
    let d : a / 2 ^ i < p = (div-lt_iff_lt-mul (pow_pos i)).1 h in
    let e : b / 2 ^ i < q = (div-lt_iff_lt-mul (pow_pos i)).1 g in
    let f : a / 2 ^ i + b / 2 ^ i * p < p * q = rw (add_comm (a / 2 ^ i) (b / 2 ^ i * p), mul_comm p q) (digits_lt e d) in
    rw (mul_comm (4 ^ i) (a / 2 ^ i + b / 2 ^ i * p)) (digits_lt f (interleave-below i a b))

-- ---- the squares of a town

-- p blocks are p * 2 ^ i squares
pub blocks : (s : Shape) (i p : ℕ) → i ≤ s.k → p * side s ≡ p * 2 ^ i * side_on s i
blocks s i p h = let e : s.k ≡ i + (s.k - i) = omega arith in ap (λ (k : ℕ). p * 2 ^ k) e ∙ rw (pow-add 2 i (s.k - i), mul_assoc p (2 ^ i) (side_on s i))

-- the square of a cell lies in the grid
in-grid : (s : Shape) (i p x : ℕ) → i ≤ s.k → x < p * side s → x / side_on s i < p * 2 ^ i
in-grid s i p x h g = (div-lt_iff_lt-mul (pow_pos (s.k - i))).1 (rw (blocks s i p h) at g)

-- the number of a cell's square by the square's column and row
pub number-cell : (s : Shape) (i x y : ℕ) → i ≤ s.k → number s i x y ≡ 4 ^ i * (x / side_on s i / 2 ^ i + y / side_on s i / 2 ^ i * s.P) + interleave i (x / side_on s i) (y / side_on s i)
unfolding number
number-cell s i x y h = rw (block_of x, block_of y, top_of x, top_of y, interleave-mod i (x / side_on s i) (y / side_on s i))
  where
    block_of : (z : ℕ) → z / 2 ^ s.k ≡ z / side_on s i / 2 ^ i
    block_of z = let e : s.k ≡ s.k - i + i = omega arith in ap (λ (k : ℕ). z / 2 ^ k) e ∙ sym (shr-shr z (s.k - i) i)

    top_of : (z : ℕ) → z % 2 ^ s.k / side_on s i ≡ z / side_on s i % 2 ^ i
    top_of z = let e : s.k ≡ i + (s.k - i) = omega arith in ap (λ (k : ℕ). z % 2 ^ k / side_on s i) e ∙ field z i (s.k - i)

-- the corner of a cell's square
pub corner-number-x : (s : Shape) (i x y : ℕ) → i ≤ s.k → x < width s → corner_x s i (number s i x y) ≡ x / side_on s i * side_on s i
unfolding corner_x
corner-number-x s i x y h g = rw (number-cell s i x y h) (ap (λ (a : ℕ). a * side_on s i) (column-place s.P i (x / side_on s i) (y / side_on s i) (in-grid s i s.P x h g)))

pub corner-number-y : (s : Shape) (i x y : ℕ) → i ≤ s.k → x < width s → corner_y s i (number s i x y) ≡ y / side_on s i * side_on s i
unfolding corner_y
corner-number-y s i x y h g = rw (number-cell s i x y h) (ap (λ (b : ℕ). b * side_on s i) (row-place s.P i (x / side_on s i) (y / side_on s i) (in-grid s i s.P x h g)))

-- the number of a square's corner is the square's
pub number-corner : (s : Shape) (i n : ℕ) → i ≤ s.k → number s i (corner_x s i n) (corner_y s i n) ≡ n
unfolding corner_x corner_y
number-corner s i n h = number-cell s i (column s.P i n * side_on s i) (row s.P i n * side_on s i) h ∙ rw (shl-shr (column s.P i n) (s.k - i), shl-shr (row s.P i n) (s.k - i)) (place-column s.P i n)

-- the number of a cell on the map is one of its level's
pub number-below : (s : Shape) (i x y : ℕ) → i ≤ s.k → x < width s → y < height s → number s i x y < squares_on s i
number-below s i x y h g f = rw (number-cell s i x y h) (place-below s.P s.Q i (x / side_on s i) (y / side_on s i) (in-grid s i s.P x h g) (in-grid s i s.Q y h f))

-- the parent's number
pub number-parent : (s : Shape) (i x y : ℕ) → suc i ≤ s.k → number s (suc i) x y / 4 ≡ number s i x y
unfolding number interleave
number-parent s i x y h =
    let e : 4 ^ suc i * block s x y ≡ 4 * (4 ^ i * block s x y) = rw (pow-succ' 4 i, mul_assoc 4 (4 ^ i) (block s x y)) in
    rw (half x, half y) (omega arith)
  where
    half : (z : ℕ) → z % 2 ^ s.k / 2 ^ (s.k - suc i) / 2 ≡ z % 2 ^ s.k / 2 ^ (s.k - i)
    half z = let e : s.k - suc i + 1 ≡ s.k - i = omega arith in shr-shr (z % 2 ^ s.k) (s.k - suc i) 1 ∙ ap (λ (k : ℕ). z % 2 ^ s.k / 2 ^ k) e

-- and the number d levels above
pub number-above : (s : Shape) (d i x y : ℕ) → d + i ≤ s.k → number s (d + i) x y / 4 ^ d ≡ number s i x y
number-above s zero i x y h = rw zero-add (div-one (number s i x y))
number-above s (suc d) i x y h =
    let g : suc (d + i) ≤ s.k = omega arith in
    rw (suc-add, pow-succ' 4 d, ← div-div-eq-div-mul (number s (suc (d + i)) x y) 4 (4 ^ d), number-parent s (d + i) x y g) (number-above s d i x y (omega arith))

-- a cell at a multiple of the side is its square's corner
multiple : (s : Shape) (i x : ℕ) → x % side_on s i ≡ 0 → x / side_on s i * side_on s i ≡ x
multiple s i x e = let h = div-add-mod' x (side_on s i) in omega arith

pub corner-x : (s : Shape) (i x y : ℕ) → i ≤ s.k → x < width s → x % side_on s i ≡ 0 → corner_x s i (number s i x y) ≡ x
corner-x s i x y h g e = corner-number-x s i x y h g ∙ multiple s i x e

pub corner-y : (s : Shape) (i x y : ℕ) → i ≤ s.k → x < width s → y % side_on s i ≡ 0 → corner_y s i (number s i x y) ≡ y
corner-y s i x y h g e = corner-number-y s i x y h g ∙ multiple s i y e

-- a corner is a multiple of the side
pub corner-x-multiple : (s : Shape) (i n : ℕ) → corner_x s i n % side_on s i ≡ 0
unfolding corner_x
corner-x-multiple s i n = mul-mod_left (column s.P i n) (side_on s i)

pub corner-y-multiple : (s : Shape) (i n : ℕ) → corner_y s i n % side_on s i ≡ 0
unfolding corner_y
corner-y-multiple s i n = mul-mod_left (row s.P i n) (side_on s i)

-- a square lies on the map
fits : (s : Shape) (i p c : ℕ) → i ≤ s.k → c < p * 2 ^ i → c * side_on s i + side_on s i ≤ p * side s
fits s i p c h g = rw (blocks s i p h, ← suc-mul c (side_on s i)) (mul-le-mul_right (side_on s i) g)

pub corner-x-fits : (s : Shape) (i n : ℕ) → i ≤ s.k → 0 < s.P → corner_x s i n + side_on s i ≤ width s
unfolding corner_x
corner-x-fits s i n h g = fits s i s.P (column s.P i n) h (column-below s.P i n g)

pub corner-y-fits : (s : Shape) (i n : ℕ) → i ≤ s.k → 0 < s.P → n < squares_on s i → corner_y s i n + side_on s i ≤ height s
unfolding corner_y
corner-y-fits s i n h g f = fits s i s.Q (row s.P i n) h (row_below s.P s.Q i n g f)

pub corner-x-below : (s : Shape) (i n : ℕ) → i ≤ s.k → 0 < s.P → corner_x s i n < width s
corner-x-below s i n h g = omega (arith, pow_pos (s.k - i), corner-x-fits s i n h g)

pub corner-y-below : (s : Shape) (i n : ℕ) → i ≤ s.k → 0 < s.P → n < squares_on s i → corner_y s i n < height s
corner-y-below s i n h g f = omega (arith, pow_pos (s.k - i), corner-y-fits s i n h g f)

one-square : (s : Shape) (i x y x' y' : ℕ) → i ≤ s.k → x / side_on s i ≡ x' / side_on s i → y / side_on s i ≡ y' / side_on s i → number s i x y ≡ number s i x' y'
one-square s i x y x' y' h e f = rw (number-cell s i x y h, number-cell s i x' y' h, e, f)

-- less than a side past a multiple c of the side
one_side : (s : Shape) (i c x : ℕ) → c % side_on s i ≡ 0 → c ≤ x → x < c + side_on s i → x / side_on s i ≡ c / side_on s i
one_side s i c x e h g =
    let m = multiple s i c e in
    let f : x ≡ c / side_on s i * side_on s i + (x - c) = omega arith in
    ap (λ (z : ℕ). z / side_on s i) f ∙ digits_div (c / side_on s i) (omega arith)

-- two cells have one number exactly when they lie in one column and one row
pub same_number : (s : Shape) (i x y x' y' : ℕ) → i ≤ s.k → x < width s → x' < width s → (number s i x y ≡ number s i x' y') ↔ ((x / side_on s i ≡ x' / side_on s i) × (y / side_on s i ≡ y' / side_on s i))
same_number s i x y x' y' h g g' = (
  λ e. (
    eq_of_mul-eq-mul_right (side_on s i) (pow_pos (s.k - i)) (x / side_on s i) (x' / side_on s i) (sym (corner-number-x s i x y h g) ∙ ap (corner_x s i) e ∙ corner-number-x s i x' y' h g'),
    eq_of_mul-eq-mul_right (side_on s i) (pow_pos (s.k - i)) (y / side_on s i) (y' / side_on s i) (sym (corner-number-y s i x y h g) ∙ ap (corner_y s i) e ∙ corner-number-y s i x' y' h g'),
  ),
  λ e. one-square s i x y x' y' h e.0 e.1,
)

-- two cells in one square are in one square on every level above
pub together-above : (s : Shape) (j i x y x' y' : ℕ) → j ≤ i → i ≤ s.k → number s i x y ≡ number s i x' y' → number s j x y ≡ number s j x' y'
together-above s j i x y x' y' l h e =
    let f : i ≡ i - j + j = omega arith in
    sym (number-above s (i - j) j x y (omega arith)) ∙ ap (λ (n : ℕ). n / 4 ^ (i - j)) (rw (← f) e) ∙ number-above s (i - j) j x' y' (omega arith)

-- a cell has a number exactly when it lies in the square
pub in-square : (s : Shape) (i n x y : ℕ) → i ≤ s.k → x < width s → (number s i x y ≡ n) ↔ ((corner_x s i n ≤ x) × (x < corner_x s i n + side_on s i) × (corner_y s i n ≤ y) × (y < corner_y s i n + side_on s i))
in-square s i n x y h g = (to, from)
  where
    to : number s i x y ≡ n → (corner_x s i n ≤ x) × (x < corner_x s i n + side_on s i) × (corner_y s i n ≤ y) × (y < corner_y s i n + side_on s i)
    to e = rw (← e, corner-number-x s i x y h g, corner-number-y s i x y h g) (div-mul-le_self x (side_on s i), lt-div-mul-add (pow_pos (s.k - i)), div-mul-le_self y (side_on s i), lt-div-mul-add (pow_pos (s.k - i)))

    from : (corner_x s i n ≤ x) × (x < corner_x s i n + side_on s i) × (corner_y s i n ≤ y) × (y < corner_y s i n + side_on s i) → number s i x y ≡ n
    from e = one-square s i x y (corner_x s i n) (corner_y s i n) h (one_side s i (corner_x s i n) x (corner-x-multiple s i n) e.0 e.1) (one_side s i (corner_y s i n) y (corner-y-multiple s i n) e.2 e.3) ∙ number-corner s i n h

-- ---- how many squares there are

-- the squares on the levels below m
unfoldable pub squares_to : Shape → ℕ → ℕ
squares_to s zero = 0
squares_to s (suc m) = squares_to s m + squares_on s m

-- three times those and the blocks are the squares on level m
pub thrice : (s : Shape) (m : ℕ) → 3 * squares_to s m + s.P * s.Q ≡ squares_on s m
unfolding squares_to
thrice s zero = let o = mul-one (s.P * s.Q) in omega arith
thrice s (suc m) =
    let e = thrice s m in
    let f : s.P * s.Q * 4 ^ suc m ≡ 4 * (s.P * s.Q * 4 ^ m) = rw (pow-succ' 4 m, mul_left_comm (s.P * s.Q) 4 (4 ^ m)) in
    omega arith

-- that is P * Q * (4 ^ m - 1) / 3
pub count-to : (s : Shape) (m : ℕ) → s.P * s.Q * (4 ^ m - 1) / 3 ≡ squares_to s m
count-to s m =
    let e : s.P * s.Q * (4 ^ m - 1) ≡ squares_to s m * 3 = omega (arith, mul-sub (s.P * s.Q) (4 ^ m) 1, mul-one (s.P * s.Q), thrice s m) in
    rw e (mul-div_cancel (squares_to s m) {n = 3} (omega arith))

-- a town's squares are those of all its levels
pub count-squares : (s : Shape) → squares_to s (s.k + 1) ≡ squares s
count-squares s = sym (count-to s (s.k + 1))
