-- Laws of places: each square of the town has one, and a place tells its square.
use Rattle.std.specs.Prelude.{◌≡◌, ℕ, zero, suc, ◌+◌, ◌-◌, ◌*◌, ◌/◌, ◌^◌, ◌<◌, ◌≤◌, Bool, length, nat_le}
use Rattle.std.proofs.Common.{ap, sym, ◌∙◌, ⊎_elim, append-nil, arith, add-zero, add-suc, le-mul_of_pos_right, add-one, le-leb}
use Rattle.std.proofs.Math.Nat.{mul-sub, mul-one}
use Rattle.std.proofs.lemmas.Bool.{lt-leb}
use Rattle.order.specs.Order.{upto, span, keep}
use Rattle.order.specs.TestLaws.{lt-or-le}
use Rattle.order.specs.KeepLaws.{span-add, keep_append, keep_all, keep-none, span→, length-span}
use Rattle.squares.specs.declared.shape.Shape.{Shape}
use Rattle.squares.specs.Squares.{squares, squares_on}
use Rattle.squares.specs.Leaves.{Positive, Below, OnLevel}
use Rattle.squares.specs.PowerLaws.{four-pos}
use Rattle.squares.specs.ShapeLaws.{blocks-small}
use Rattle.squares.specs.SquareLaws.{squares_to, count-to, thrice}
use Rattle.tables.specs.Derived.{before, place, level_at, number_at}
use Rattle.tables.specs.Runs.{parent_of}

-- one level more
pub before_more : (s : Shape) (i : ℕ) → before s (suc i) ≡ before s i + squares_on s i
unfolding before squares_to
before_more s i = count-to s (suc i) ∙ ap (λ (n : ℕ). n + squares_on s i) (sym (count-to s i))

pub before-none : (s : Shape) → before s 0 ≡ 0
unfolding before squares_to
before-none s = count-to s 0

pub before-all : (s : Shape) → before s (suc s.k) ≡ squares s
unfolding before
before-all s = rw (← add-one s.k)

before-mono : (s : Shape) (i j : ℕ) → i ≤ j → before s i ≤ before s j
before-mono s i j h = let e : j ≡ i + (j - i) = omega arith in rw e (go (j - i))
  where
    go : (d : ℕ) → before s i ≤ before s (i + d)
    go zero = rw (add-zero i) (omega arith)
    go (suc d) = rw (add-suc i d, before_more s (i + d)) (omega (arith, go d))

-- a square's place is below the next level's first, and below the town's count
pub place-below : (s : Shape) (i n : ℕ) → i ≤ s.k → n < squares_on s i → place s i n < squares s
place-below s i n h g = omega (arith, before_more s i, before-mono s (suc i) (suc s.k) (omega arith), before-all s)

-- one level up, where the number is a quarter
pub place-parent : (s : Shape) (i n : ℕ) → parent_of s (place s (suc i) n) ≡ place s i (n / 4)
unfolding before
place-parent s i n =
    let q : 3 * before s i + s.P * s.Q ≡ squares_on s i = ap (λ (m : ℕ). 3 * m + s.P * s.Q) (count-to s i) ∙ thrice s i in
    omega (arith, before_more s i)

-- the level and the number of a square's place are the square's
pub level-place : (s : Shape) (i n : ℕ) → i ≤ s.k → n < squares_on s i → level_at s (place s i n) ≡ i
unfolding level_at
level-place s i n h g =
    let e : s.k ≡ i + (s.k - i) = omega arith in
    let low = keep_all begins (upto i) (λ j m. le-leb (before s (j + 1)) (place s i n) (omega (arith, span→ 0 i j m, before-mono s (j + 1) i (omega (arith, span→ 0 i j m))))) in
    let high = keep-none begins (span (0 + i) (s.k - i)) (λ j m. lt-leb (before s (j + 1)) (place s i n) (omega (arith, before_more s i, before-mono s (suc i) (j + 1) (omega (arith, span→ (0 + i) (s.k - i) j m))))) in
    ap (λ (k : ℕ). length (keep begins (upto k))) e ∙ rw (span-add 0 i (s.k - i), keep_append, low, high, append-nil) (length-span 0 i)
  where
    begins : ℕ → Bool
    begins j = nat_le (before s (j + 1)) (place s i n)

pub number-place : (s : Shape) (i n : ℕ) → i ≤ s.k → n < squares_on s i → number_at s (place s i n) ≡ n
number-place s i n h g = rw (level-place s i n h g) (omega arith)

-- every place below the town's count is a square's
pub record Placed (s : Shape) (p : ℕ) : Type 0 where
  pub level : level_at s p ≤ s.k
  pub number : number_at s p < squares_on s (level_at s p)
  pub is : place s (level_at s p) (number_at s p) ≡ p

pub placed_at : (s : Shape) (p : ℕ) → p < squares s → Placed s p
placed_at s p h = go s.k (omega arith) (rw (before-all s) h)
  where
    found : (i : ℕ) → i ≤ s.k → before s i ≤ p → p < before s (suc i) → Placed s p
    found i l g f =
        let n = p - before s i in
        let b : n < squares_on s i = omega (arith, before_more s i) in
        let e : place s i n ≡ p = omega arith in
        let q : level_at s p ≡ i = ap (level_at s) (sym e) ∙ level-place s i n l b in
        record { level = rw q l; number = rw q b; is = rw q e }

    go : (m : ℕ) → m ≤ s.k → p < before s (suc m) → Placed s p
    go zero l f = found 0 l (omega (arith, before-none s)) f
    go (suc m) l f = ⊎_elim (λ (b : p < before s (suc m)). go m (omega arith) b) (λ (b : before s (suc m) ≤ p). found (suc m) l b f) (lt-or-le p (before s (suc m)))

-- ---- a place worked out from the count r of the level's squares

module _ {s : Shape} {i r : ℕ} (level : OnLevel s i) (p : Positive (squares_on s i) 65536 r) where
  pub blocks-few : s.P * s.Q ≤ 65536
  blocks-few = blocks-small s level.shape

  pub blocks-within : s.P * s.Q ≤ r
  blocks-within = rw p.is (le-mul_of_pos_right (s.P * s.Q) (four-pos i))

  pub place_is : (n : ℕ) → n < squares_on s i → Below (place s i n) (squares s) ((r - s.P * s.Q) / 3 + n)
  unfolding before
  place_is n h =
      let e : (r - s.P * s.Q) / 3 + n ≡ place s i n = rw (p.is, mul-sub (s.P * s.Q) (4 ^ i) 1, mul-one (s.P * s.Q)) in
      record { is = e; below = rw e (place-below s i n level.level h) }
