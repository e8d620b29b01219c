-- A step of the descent: what it asks of a child, and what it has stored.
use Prim.Native.Nat.{ℕ, zero, suc, ◌+◌, ◌-◌, ◌*◌, ◌/◌, ◌%◌, ◌^◌, ◌<◌, ◌≤◌}
use Rattle.std.specs.Prelude.{◌≡◌, refl, Bool, true, cond, List, [], ◌∷◌, ◌++◌, map, get_or, set}
use Rattle.std.proofs.Math.Path.{ap}
use Rattle.std.proofs.Common.{sym, ◌∙◌, append_assoc, add-one, mul-le-mul_right, le-mul_of_pos_right, mul_assoc, mul_left_comm}
use Rattle.std.proofs.Math.Logic.{⊎_elim}
use Rattle.std.proofs.Math.Bool.{false}
use native.Mathlib.Omega.{arith}
use Rattle.std.proofs.Math.Nat.{pow-succ', sub_self, add-zero}
use Rattle.std.proofs.Math.ListN.{length}
use borrow.Author.Tests.{lt-ltb, le-ltb}
use Rattle.order.specs.TestLaws.{lt-or-le, same-or-other, true-not-false}
use Rattle.squares.specs.declared.shape.Rect.{Rect}
use Rattle.squares.specs.Shape.{within}
use Rattle.squares.specs.Leaves.{meets}
use Rattle.squares.specs.PowerLaws.{four-pos}
use Rattle.cuts.specs.Cut.{code}
use Rattle.cuts.specs.Descent.{descent, found_on}
use Rattle.cuts.specs.Lay.{Lays, Apart}
use Rattle.cuts.specs.Leaves.{Room, Crossed, Takes}
use Rattle.cuts.specs.LayLaws.{joined, joined_length, apart-shorter, apart-rest, lays_more, lays-same, lays-none, lays_one}

pub map-append : (f : ℕ → ℕ) (l m : List ℕ) → map f (l ++ m) ≡ map f l ++ map f m
map-append f [] m = refl
map-append f (x ∷ l) m = ap (λ (t : List ℕ). f x ∷ t) (map-append f l m)

either : (t : Bool) → ◌≡◌ {A = List ℕ} (cond t [] []) []
either true = refl
either false = refl

module _ (r : Rect) (i x y d n : ℕ) where
  found-empty : (j : ℕ) → (i ≤ j → descent r (j - i) x y d n ≡ []) → found_on r i x y d n j ≡ []
  unfolding found_on
  found-empty j h = ⊎_elim (λ (g : j < i). rw (lt-ltb j i g)) (λ (g : i ≤ j). rw (le-ltb j i g, h g)) (lt-or-le j i)

  -- a square inside, which alone is found
  found-self : within r x y d ≡ true → found_on r i x y d n i ≡ code i n ∷ []
  unfolding found_on descent
  found-self w = rw (le-ltb i i (omega arith), sub_self i, w)

  found-other : within r x y d ≡ true → (j : ℕ) → (j ≡ i → ⊥) → found_on r i x y d n j ≡ []
  unfolding descent
  found-other w j f = found-empty j (λ h. let e : j - i ≡ suc (j - suc i) = omega arith in rw (e, w) (either (meets r x y d)))

  -- nothing below a square that shares no cell with the rectangle
  descent-none : within r x y d ≡ false → meets r x y d ≡ false → (m : ℕ) → descent r m x y d n ≡ []
  unfolding descent
  descent-none w t zero = rw w
  descent-none w t (suc m) = rw t

module _ {r : Rect} {i x y d n : ℕ} {p : List ℕ} (room : Room r i x y d n p) where
  -- a square looked at: inside, on the lowest level, or as it shares a cell or not
  pub takes-inside : {b b' : List ℕ} → within r x y d ≡ true → b' ≡ set b (get_or p i 0) (code i n) → Takes r i x y d n b b' p (set p i (get_or p i 0 + 1)) false
  takes-inside {b} w e = record { goes_on = λ f. absurd (true-not-false false f refl); ends = λ f. rw e (lays_one (found_on r i x y d n) i (code i n) (found-self r i x y d n w) (found-other r i x y d n w) b p room.level) }

  pub takes-lowest : (b : List ℕ) → within r x y d ≡ false → length p ≤ i + 1 → Takes r i x y d n b b p p false
  unfolding descent
  takes-lowest b w e = record { goes_on = λ f. absurd (true-not-false false f refl); ends = λ f. lays-none (found_on r i x y d n) b p (λ j g. found-empty r i x y d n j (λ h. let z : j - i ≡ 0 = omega arith in rw (z, w))) }

  pub takes-shared : (b : List ℕ) {t : Bool} → within r x y d ≡ false → i + 1 < length p → t ≡ meets r x y d → Takes r i x y d n b b p p t
  takes-shared b w above e = record {
    goes_on = λ f. (refl, refl, record { room = room; outside = w; shares = sym e ∙ f; above = above });
    ends = λ f. lays-none (found_on r i x y d n) b p (λ j g. found-empty r i x y d n j (λ h. descent-none r i x y d n w (sym e ∙ f) (j - i)));
  }

-- where the children are to be looked at, all that is found in them is found in the square
module _ {r : Rect} {i x y d n : ℕ} {b b' p q : List ℕ} {t : Bool} (takes : Takes r i x y d n b b' p q t) (on : t ≡ true) where
  pub goes_on : Crossed r i x y d n q
  goes_on = let h = takes.goes_on on in rw h.1 h.2

  pub gone-on : {b'' q' : List ℕ} → Lays (found_on r i x y d n) b' b'' q q' → Lays (found_on r i x y d n) b b'' p q'
  gone-on l = let h = takes.goes_on on in rw (h.0, h.1) at l

-- ---- the children

-- what is found in child c
abbrev pub in_child : Rect → ℕ → ℕ → ℕ → ℕ → ℕ → ℕ → ℕ → List ℕ
in_child r i x y d n c = found_on r (i + 1) (x + c % 2 * (d / 2)) (y + c / 2 * (d / 2)) (d / 2) (4 * n + c)

-- and in the children before it
unfoldable pub in_children : Rect → ℕ → ℕ → ℕ → ℕ → ℕ → ℕ → ℕ → List ℕ
in_children r i x y d n zero = λ j. []
in_children r i x y d n (suc c) = joined (in_children r i x y d n c) (in_child r i x y d n c)

module _ (r : Rect) (i x y d n : ℕ) where
  children-longer : (c m j : ℕ) → c ≤ m → length (in_children r i x y d n c j) ≤ length (in_children r i x y d n m j)
  unfolding in_children
  children-longer c zero j h = let e : c ≡ 0 = omega arith in rw e (omega arith)
  children-longer c (suc m) j h = ⊎_elim
      (λ (g : m < c). let e : c ≡ suc m = omega arith in rw e (omega arith))
      (λ (g : c ≤ m). omega (arith, children-longer c m j g, joined_length (in_children r i x y d n m) (in_child r i x y d n m) j))
      (lt-or-le m c)

  children-all : within r x y d ≡ false → meets r x y d ≡ true → (j : ℕ) → in_children r i x y d n 4 j ≡ found_on r i x y d n j
  unfolding in_children joined found_on descent
  children-all w t j =
      let h = d / 2 in
      let none : (z : ℕ) → z + 0 % 2 * h ≡ z = λ z. omega arith in
      let one : (z : ℕ) → z + 1 % 2 * h ≡ z + h = λ z. omega arith in
      ⊎_elim
      (λ (g : j < i). rw (lt-ltb j i g, lt-ltb j (i + 1) (omega arith)))
      (λ (g : i ≤ j). ⊎_elim
      (λ (e : (j ≡ i)). rw (e, le-ltb i i (omega arith), lt-ltb i (i + 1) (omega arith), sub_self i, w))
      (λ (f : (j ≡ i → ⊥)).
      let e : j - i ≡ suc (j - (i + 1)) = omega arith in
      rw (le-ltb j i g, le-ltb j (i + 1) (omega arith), e, t, w, none x, none y, one x, one y, add-zero (4 * n), map-append, map-append, map-append) (simp append_assoc))
      (same-or-other j i))
      (lt-or-le j i)

pub record ChildTurn (r : Rect) (i x y d n : ℕ) (b b' p p' : List ℕ) (c : ℕ) : Type 0 where
  pub few : c ≤ 4
  pub lays : Lays (in_children r i x y d n c) b b' p p'

module _ {r : Rect} {i x y d n : ℕ} {p : List ℕ} (crossed : Crossed r i x y d n p) where
  pub child-begins : (b : List ℕ) → ChildTurn r i x y d n b b p p 0
  unfolding in_children
  child-begins b = record { few = omega arith; lays = lays-none (in_children r i x y d n 0) b p (λ j h. refl) }

  module _ {c : ℕ} (g : c < 4) where
    child-apart : Apart (joined (in_children r i x y d n c) (in_child r i x y d n c)) p
    unfolding in_children
    child-apart = apart-shorter crossed.room.apart (λ j h. omega (arith, children-longer r i x y d n (suc c) 4 j g, ap length (children-all r i x y d n crossed.outside crossed.shares j)))

    pub child-room : {b b' q : List ℕ} → ChildTurn r i x y d n b b' p q c → Room r (i + 1) (x + c % 2 * (d / 2)) (y + c / 2 * (d / 2)) (d / 2) (4 * n + c) q
    child-room {q = q} v =
        let room = crossed.room in
        let n' = 4 * n + c in
        let m = length p - suc (i + 1) in
        let down : length p - suc i ≡ suc m = omega (arith, crossed.above) in
        let quarter : 4 ^ (length p - suc i) ≡ 4 * 4 ^ m = ap (λ (t : ℕ). 4 ^ t) down ∙ pow-succ' 4 m in
        let all : suc n * 4 ^ (length p - suc i) ≡ 4 * suc n * 4 ^ m = ap (λ (t : ℕ). suc n * t) quarter ∙ mul_left_comm (suc n) 4 (4 ^ m) ∙ sym (mul_assoc 4 (suc n) (4 ^ m)) in
        let few : suc n' ≤ 4 * suc n = omega arith in
        let part : suc n' * 4 ^ m ≤ 4 * suc n * 4 ^ m = mul-le-mul_right (4 ^ m) few in
        let own : suc n' ≤ suc n' * 4 ^ m = le-mul_of_pos_right (suc n') (four-pos m) in
        let across : c % 2 * (d / 2) ≤ 1 * (d / 2) = mul-le-mul_right (d / 2) (omega arith) in
        let up : c / 2 * (d / 2) ≤ 1 * (d / 2) = mul-le-mul_right (d / 2) (omega arith) in
        record {
          near = record { east = room.near.east; north = room.near.north; right = omega (arith, room.near.right); over = omega (arith, room.near.over) };
          level = omega (arith, crossed.above, v.lays.levels);
          levels = omega (arith, room.levels, v.lays.levels);
          numbers = rw v.lays.levels (omega (arith, room.numbers));
          number = omega (arith, room.numbers);
          apart = apart-rest _ _ child-apart v.lays;
        }

    pub child-turns : {b b' b'' q q' : List ℕ} → ChildTurn r i x y d n b b' p q c → Lays (in_child r i x y d n c) b' b'' q q' → ChildTurn r i x y d n b b'' p q' (c + 1)
    unfolding in_children
    child-turns v w = rw (add-one c) (record { few = omega arith; lays = lays_more _ _ child-apart v.lays w })

  pub child-ends : {b b' q : List ℕ} {c : ℕ} → ChildTurn r i x y d n b b' p q c → 4 ≤ c → Lays (found_on r i x y d n) b b' p q
  child-ends {b} {b'} {q} {c} v g =
      let e : c ≡ 4 = omega (arith, v.few) in
      lays-same (λ j h. rw e (children-all r i x y d n crossed.outside crossed.shares j)) v.lays
