-- Where a cell and a square lie to a rectangle: the tests and what they say.
use Rattle.std.specs.Prelude.{◌≡◌, ℕ, ◌+◌, ◌-◌, ◌*◌, ◌%◌, ◌^◌, ◌<◌, ◌≤◌, Bool, true, false, ◌&&◌, ltb, nat_le, nat_lt}
use Rattle.std.proofs.Common.{⊎_elim, arith, mul-le-mul_right, le-leb, lt-ltb, le-ltb, leb-true, ltb-true}
use Rattle.std.proofs.Math.Bool.{and_assoc}
use Rattle.std.proofs.lemmas.Bool.{lt-leb}
use Rattle.order.specs.TestLaws.{true-not-false, and→, fails, both_ways, lt-or-le}
use Rattle.squares.specs.declared.shape.Rect.{Rect}
use Rattle.squares.specs.Shape.{holds, within}
use Rattle.squares.specs.Leaves.{meets}

-- four tests in a row
record All (a b c d : Bool) : Type 0 where
  first : a ≡ true
  second : b ≡ true
  third : c ≡ true
  fourth : d ≡ true

all→ : (a b c d : Bool) → (a && (b && (c && d))) ≡ true → All a b c d
all→ a b c d e =
    let p = and→ a (b && (c && d)) e in
    let q = and→ b (c && d) p.1 in
    let r = and→ c d q.1 in
    record { first = p.0; second = q.0; third = r.0; fourth = r.1 }

→all : (a b c d : Bool) → All a b c d → (a && (b && (c && d))) ≡ true
→all a b c d h = rw (h.first, h.second, h.third, h.fourth)

pub record Holds (r : Rect) (x y : ℕ) : Type 0 where
  pub west : r.a ≤ x
  pub east : x < r.a + r.w
  pub south : r.b ≤ y
  pub north : y < r.b + r.h

pub holds→ : (r : Rect) (x y : ℕ) → holds r x y ≡ true → Holds r x y
holds→ r x y e = let h = all→ (nat_le r.a x) (nat_lt x (r.a + r.w)) (nat_le r.b y) (nat_lt y (r.b + r.h)) e in
    record { west = leb-true _ _ h.first; east = ltb-true _ _ h.second; south = leb-true _ _ h.third; north = ltb-true _ _ h.fourth }

pub →holds : (r : Rect) (x y : ℕ) → Holds r x y → holds r x y ≡ true
→holds r x y h = →all _ _ _ _ (record { first = le-leb _ _ h.west; second = lt-ltb _ _ h.east; third = le-leb _ _ h.south; fourth = lt-ltb _ _ h.north })

pub record Within (r : Rect) (x y d : ℕ) : Type 0 where
  pub west : r.a ≤ x
  pub east : x + d ≤ r.a + r.w
  pub south : r.b ≤ y
  pub north : y + d ≤ r.b + r.h

pub within→ : (r : Rect) (x y d : ℕ) → within r x y d ≡ true → Within r x y d
within→ r x y d e = let h = all→ (nat_le r.a x) (nat_le (x + d) (r.a + r.w)) (nat_le r.b y) (nat_le (y + d) (r.b + r.h)) e in
    record { west = leb-true _ _ h.first; east = leb-true _ _ h.second; south = leb-true _ _ h.third; north = leb-true _ _ h.fourth }

pub →within : (r : Rect) (x y d : ℕ) → Within r x y d → within r x y d ≡ true
→within r x y d h = →all _ _ _ _ (record { first = le-leb _ _ h.west; second = le-leb _ _ h.east; third = le-leb _ _ h.south; fourth = le-leb _ _ h.north })

pub record Meets (r : Rect) (x y d : ℕ) : Type 0 where
  pub west : r.a < x + d
  pub east : x < r.a + r.w
  pub south : r.b < y + d
  pub north : y < r.b + r.h

pub meets→ : (r : Rect) (x y d : ℕ) → meets r x y d ≡ true → Meets r x y d
meets→ r x y d e = let h = all→ (nat_lt r.a (x + d)) (nat_lt x (r.a + r.w)) (nat_lt r.b (y + d)) (nat_lt y (r.b + r.h)) e in
    record { west = ltb-true _ _ h.first; east = ltb-true _ _ h.second; south = ltb-true _ _ h.third; north = ltb-true _ _ h.fourth }

pub →meets : (r : Rect) (x y d : ℕ) → Meets r x y d → meets r x y d ≡ true
→meets r x y d h = →all _ _ _ _ (record { first = lt-ltb _ _ h.west; second = lt-ltb _ _ h.east; third = lt-ltb _ _ h.south; fourth = lt-ltb _ _ h.north })

pub not_within : (r : Rect) (x y d : ℕ) → (Within r x y d → ⊥) → within r x y d ≡ false
not_within r x y d f = fails (within r x y d) (λ (t : within r x y d ≡ true). f (within→ r x y d t))

pub not-meets : (r : Rect) (x y d : ℕ) → (Meets r x y d → ⊥) → meets r x y d ≡ false
not-meets r x y d f = fails (meets r x y d) (λ (t : meets r x y d ≡ true). f (meets→ r x y d t))

-- what shares no cell is not inside
pub apart : (r : Rect) (x y d : ℕ) → 0 < d → meets r x y d ≡ false → within r x y d ≡ false
apart r x y d h e = not_within r x y d (λ (w : Within r x y d). true-not-false _ (→meets r x y d (omega arith)) e)

-- a quarter of a square that shares no cell shares none, and a quarter of one that lies inside lies inside
module _ (r : Rect) (x y d p q : ℕ) (hp : p ≤ 1) (hq : q ≤ 1) where
  across : p * d ≤ d
  across = omega (arith, mul-le-mul_right d hp)

  up : q * d ≤ d
  up = omega (arith, mul-le-mul_right d hq)

  pub quarter-apart : meets r x y (2 * d) ≡ false → meets r (x + p * d) (y + q * d) d ≡ false
  quarter-apart e = not-meets r (x + p * d) (y + q * d) d (λ (w : Meets r (x + p * d) (y + q * d) d). true-not-false _ (→meets r x y (2 * d) (omega (arith, across, up))) e)

  pub quarter-within : within r x y (2 * d) ≡ true → within r (x + p * d) (y + q * d) d ≡ true
  quarter-within e = let w = within→ r x y (2 * d) e in →within r (x + p * d) (y + q * d) d (omega (arith, across, up))

-- ---- a cell tested by its distance from the corner, around 2^64

-- a column is one of w from a on where its distance is below w: below a it wraps around, past every u32
from-corner : (x a w d : ℕ) → x < 2 ^ 32 → a < 2 ^ 32 → w < 2 ^ 32 → d < 2 ^ 64 → (d + a) % 2 ^ 64 ≡ x → nat_lt d w ≡ (nat_le a x && nat_lt x (a + w))
from-corner x a w d hx ha hw hd e = ⊎_elim
    (λ (l : x < a). rw (lt-leb a x l) (le-ltb d w (omega arith)))
    (λ (l : a ≤ x). let f : d ≡ x - a = omega arith in rw (le-leb a x l) (both_ways (nat_lt d w) (nat_lt x (a + w)) (λ (t : ltb d w ≡ true). lt-ltb x (a + w) (omega (arith, ltb-true d w t))) (λ (t : ltb x (a + w) ≡ true). lt-ltb d w (omega (arith, ltb-true x (a + w) t)))))
    (lt-or-le x a)

pub held : (r : Rect) (x y d e : ℕ) → x < 2 ^ 32 → y < 2 ^ 32 → r.a < 2 ^ 32 → r.b < 2 ^ 32 → r.w < 2 ^ 32 → r.h < 2 ^ 32 → d < 2 ^ 64 → e < 2 ^ 64 → (d + r.a) % 2 ^ 64 ≡ x → (e + r.b) % 2 ^ 64 ≡ y → (nat_lt d r.w && nat_lt e r.h) ≡ holds r x y
held r x y d e hx hy ha hb hw hh hd he f g = rw (from-corner x r.a r.w d hx ha hw hd f, from-corner y r.b r.h e hy hb hh he g) (and_assoc (nat_le r.a x) (nat_lt x (r.a + r.w)) (nat_le r.b y && nat_lt y (r.b + r.h)))
