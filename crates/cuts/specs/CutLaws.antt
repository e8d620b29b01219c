-- Laws of the cut of a rectangle.
use Rattle.std.specs.Prelude.{ℕ, zero, suc, ◌+◌, ◌-◌, ◌*◌, ◌/◌, ◌%◌, ◌<◌, ◌≤◌, ◌≡◌, refl, ◌↔◌, true, false, not, length}
use Rattle.std.proofs.Common.{ap, ap₂, sym, ◌∙◌, ⊎_elim, arith, add-one, div-one, mul-one, suc-add, zero-add, length-append, pow_pos}
use mathlib.Core.List.Memᴰ
use mathlib.Core.List.{List, [], ◌∷◌, map, Memᴰ}
use Rattle.std.proofs.Math.Nat.{sub_self}
use Rattle.std.proofs.lemmas.List.{length-map}
use Rattle.std.proofs.lemmas.Bool.{not-true}
use Rattle.order.specs.Order.{upto, keep}
use Rattle.order.specs.TestLaws.{lt-or-le, lt-or-eq-or-gt, true-or-false, true-not-false, and→, fails}
use Rattle.order.specs.KeepLaws.{span→, →span, keep→, →keep, length-keep, length-span}
use Rattle.squares.specs.declared.shape.Shape.{Shape}
use Rattle.squares.specs.declared.shape.Rect.{Rect}
use Rattle.squares.specs.Shape.{width, height, holds}
use Rattle.squares.specs.Bounds.{Allowed}
use Rattle.squares.specs.Squares.{side_on, squares_on, squares, number, corner_x, corner_y}
use Rattle.cuts.specs.Cut.{inside, in_cut, code, cut_on, cut_to, cut}
use Rattle.squares.specs.SquareLaws.{squares_to, count-squares, corner-number-x, corner-number-y, number-corner, number-parent, in-square, corner-x-fits, corner-y-fits}
use Rattle.squares.specs.CornerLaws.{side-halves, child-x, child-y}
use Rattle.squares.specs.RectLaws.{Within, quarter-within, holds→, →holds, within→, →within}
use Rattle.cuts.specs.Leaves.{Counted}
use Rattle.squares.specs.ShapeLaws.{squares-small, squares-few}

-- ---- inside

pub inside→ : (s : Shape) (r : Rect) (i n : ℕ) → inside s r i n ≡ true → Within r (corner_x s i n) (corner_y s i n) (side_on s i)
unfolding inside
inside→ s r i n e = within→ r (corner_x s i n) (corner_y s i n) (side_on s i) e

pub →inside : (s : Shape) (r : Rect) (i n : ℕ) → Within r (corner_x s i n) (corner_y s i n) (side_on s i) → inside s r i n ≡ true
unfolding inside
→inside s r i n h = →within r (corner_x s i n) (corner_y s i n) (side_on s i) h

-- the children of a square inside are inside
pub inside-child : (s : Shape) (r : Rect) (i n c : ℕ) → suc i ≤ s.k → c < 4 → inside s r i n ≡ true → inside s r (suc i) (4 * n + c) ≡ true
unfolding inside
inside-child s r i n c h g e = rw (child-x s i n c h g, child-y s i n c h g) (quarter-within r (corner_x s i n) (corner_y s i n) (side_on s (suc i)) (c % 2) (c / 2) (omega arith) (omega arith) (rw (side-halves s i h) at e))

pub parent-inside : (s : Shape) (r : Rect) (i n : ℕ) → suc i ≤ s.k → inside s r i (n / 4) ≡ true → inside s r (suc i) n ≡ true
parent-inside s r i n h e = let m : n ≡ 4 * (n / 4) + n % 4 = omega arith in rw m (inside-child s r i (n / 4) (n % 4) h (omega arith) e)

-- a cell whose square is inside has squares inside on every level below
pub inside-below : (s : Shape) (r : Rect) (i j x y : ℕ) → i ≤ j → j ≤ s.k → inside s r i (number s i x y) ≡ true → inside s r j (number s j x y) ≡ true
inside-below s r i j x y l h e = let f : j ≡ j - i + i = omega arith in rw f (go (j - i) (omega arith))
  where
    go : (d : ℕ) → d + i ≤ s.k → inside s r (d + i) (number s (d + i) x y) ≡ true
    go zero g = rw zero-add e
    go (suc d) g = rw suc-add (parent-inside s r (d + i) (number s (suc (d + i)) x y) (omega arith) (rw (number-parent s (d + i) x y (omega arith)) (go d (omega arith))))

-- inside says that every cell of the square is in the rectangle
pub inside-cells : (s : Shape) (r : Rect) (i n : ℕ) → i ≤ s.k → 0 < s.P → n < squares_on s i → (inside s r i n ≡ true) ↔ ((x y : ℕ) → x < width s → y < height s → number s i x y ≡ n → holds r x y ≡ true)
inside-cells s r i n h p b = (to, from)
  where
    to : inside s r i n ≡ true → (x y : ℕ) → x < width s → y < height s → number s i x y ≡ n → holds r x y ≡ true
    to e x y g f q =
        let c = inside→ s r i n e in
        let z = (in-square s i n x y h g).0 q in
        →holds r x y (omega arith)

    from : ((x y : ℕ) → x < width s → y < height s → number s i x y ≡ n → holds r x y ≡ true) → inside s r i n ≡ true
    from all =
        let d = pow_pos (s.k - i) in
        let e = corner-x-fits s i n h p in
        let f = corner-y-fits s i n h p b in
        let x = corner_x s i n + (side_on s i - 1) in
        let y = corner_y s i n + (side_on s i - 1) in
        let x< : x < width s = omega arith in
        let y< : y < height s = omega arith in
        let near = holds→ r (corner_x s i n) (corner_y s i n) (all (corner_x s i n) (corner_y s i n) (omega arith) (omega arith) (number-corner s i n h)) in
        let far = holds→ r x y (all x y x< y< ((in-square s i n x y h x<).1 (omega arith))) in
        →inside s r i n (omega arith)

-- a unit cell is inside exactly when the rectangle holds it
pub unit-holds : (s : Shape) (r : Rect) (x y : ℕ) → x < width s → inside s r s.k (number s s.k x y) ≡ holds r x y
unfolding inside
unit-holds s r x y g = rw (corner-number-x s s.k x y (omega arith) g, corner-number-y s s.k x y (omega arith) g, sub_self s.k, div-one x, div-one y, mul-one x, mul-one y, add-one x, add-one y)

-- ---- the cut

-- a square of the cut is inside
pub cut_inside : (s : Shape) (r : Rect) (i n : ℕ) → in_cut s r i n ≡ true → inside s r i n ≡ true
unfolding in_cut
cut_inside s r zero n e = e
cut_inside s r (suc i) n e = (and→ (inside s r (suc i) n) (not (inside s r i (n / 4))) e).0

-- its parent is not
pub cut-parent : (s : Shape) (r : Rect) (i n : ℕ) → in_cut s r (suc i) n ≡ true → inside s r i (n / 4) ≡ false
unfolding in_cut
cut-parent s r i n e = not-true (inside s r i (n / 4)) (and→ (inside s r (suc i) n) (not (inside s r i (n / 4))) e).1

-- and a square inside whose parent is not is in the cut
pub in_cut_lem : (s : Shape) (r : Rect) (i n : ℕ) → inside s r (suc i) n ≡ true → inside s r i (n / 4) ≡ false → in_cut s r (suc i) n ≡ true
unfolding in_cut
in_cut_lem s r i n e f = rw (e, f)

-- a cell's square of the cut is on the highest level inside
cut-highest : (s : Shape) (r : Rect) (i j x y : ℕ) → i ≤ s.k → in_cut s r i (number s i x y) ≡ true → j < i → inside s r j (number s j x y) ≡ true → ⊥
cut-highest s r zero j x y h e l f = omega arith
cut-highest s r (suc i) j x y h e l f = true-not-false (inside s r i (number s i x y)) (inside-below s r j i x y (omega arith) (omega arith) f) (rw (number-parent s i x y h) at (cut-parent s r i (number s (suc i) x y) e))

-- the one level on which a cell's square is in the cut
pub record OneLevel (s : Shape) (r : Rect) (x y : ℕ) : Type 0 where
  pub level : ℕ
  pub there : level ≤ s.k
  pub taken : in_cut s r level (number s level x y) ≡ true
  pub only : (j : ℕ) → j ≤ s.k → in_cut s r j (number s j x y) ≡ true → j ≡ level

-- from a level inside up to the level of the cut
one-level-to : (s : Shape) (r : Rect) (m x y : ℕ) → m ≤ s.k → inside s r m (number s m x y) ≡ true → (i : ℕ) × (i ≤ s.k) × (in_cut s r i (number s i x y) ≡ true)
unfolding in_cut
one-level-to s r zero x y h e = (0, h, e)
one-level-to s r (suc m) x y h e = ⊎_elim
    (λ (f : inside s r m (number s m x y) ≡ true). one-level-to s r m x y (omega arith) f)
    (λ (f : inside s r m (number s m x y) ≡ false). (suc m, h, in_cut_lem s r m (number s (suc m) x y) e (rw (number-parent s m x y h) f)))
    (true-or-false (inside s r m (number s m x y)))

-- a cell of the rectangle is in the cut on exactly one level
pub one-level : (s : Shape) (r : Rect) (x y : ℕ) → x < width s → holds r x y ≡ true → OneLevel s r x y
one-level s r x y g e =
    let a = one-level-to s r s.k x y (omega arith) (unit-holds s r x y g ∙ e) in
    record { level = a.0; there = a.1; taken = a.2; only = λ j h f. one a.0 j a.1 h a.2 f }
  where
    one : (i j : ℕ) → i ≤ s.k → j ≤ s.k → in_cut s r i (number s i x y) ≡ true → in_cut s r j (number s j x y) ≡ true → j ≡ i
    one i j h g p q = ⊎_elim
        (λ (l : i < j). absurd (cut-highest s r j i x y g q l (cut_inside s r i (number s i x y) p)))
        (⊎_elim (λ (l : i ≡ j). sym l) (λ (l : j < i). absurd (cut-highest s r i j x y h p l (cut_inside s r j (number s j x y) q))))
        (lt-or-eq-or-gt i j)

-- a cell whose square on some level is in the cut is a cell of the rectangle; one outside is in the cut on none
pub level_holds : (s : Shape) (r : Rect) (i x y : ℕ) → i ≤ s.k → x < width s → in_cut s r i (number s i x y) ≡ true → holds r x y ≡ true
level_holds s r i x y h g e = sym (unit-holds s r x y g) ∙ inside-below s r i s.k x y h (omega arith) (cut_inside s r i (number s i x y) e)

pub no-level : (s : Shape) (r : Rect) (i x y : ℕ) → i ≤ s.k → x < width s → holds r x y ≡ false → in_cut s r i (number s i x y) ≡ false
no-level s r i x y h g e = fails (in_cut s r i (number s i x y)) (λ f. true-not-false (holds r x y) (level_holds s r i x y h g f) e)

-- ---- the list of the cut

-- the members of a mapped list
map→ : (f : ℕ → ℕ) (l : List ℕ) (z : ℕ) → Memᴰ z (map f l) → (n : ℕ) × Memᴰ n l × (z ≡ f n)
map→ f [] z m = absurd (Memᴰ.not-nil m)
map→ f (x ∷ l) z m = ⊎_elim (λ (e : z ≡ f x). (x, Memᴰ.head refl, e)) (λ (h : Memᴰ z (map f l)). let a = map→ f l z h in (a.0, Memᴰ.tail a.1, a.2)) (Memᴰ.cases_cons m)

→map : (f : ℕ → ℕ) (l : List ℕ) (n : ℕ) → Memᴰ n l → Memᴰ (f n) (map f l)
→map f [] n m = absurd (Memᴰ.not-nil m)
→map f (x ∷ l) n m = ⊎_elim (λ (e : n ≡ x). Memᴰ.head (ap f e)) (λ (h : Memᴰ n l). Memᴰ.tail (→map f l n h)) (Memᴰ.cases_cons m)

-- a member of the list is one of some level's
cut_to→ : (s : Shape) (r : Rect) (m z : ℕ) → Memᴰ z (cut_to s r m) → (i : ℕ) × (i < m) × Memᴰ z (cut_on s r i)
unfolding cut_to
cut_to→ s r zero z h = absurd (Memᴰ.not-nil h)
cut_to→ s r (suc m) z h = ⊎_elim (λ (g : Memᴰ z (cut_to s r m)). let a = cut_to→ s r m z g in (a.0, omega arith, a.2)) (λ (g : Memᴰ z (cut_on s r m)). (m, omega arith, g)) (Memᴰ.append_cases (cut_to s r m) h)

→cut_to : (s : Shape) (r : Rect) (m i z : ℕ) → i < m → Memᴰ z (cut_on s r i) → Memᴰ z (cut_to s r m)
unfolding cut_to
→cut_to s r zero i z h g = absurd (omega arith)
→cut_to s r (suc m) i z h g = ⊎_elim (λ (l : i < m). Memᴰ.append_left (cut_on s r m) (→cut_to s r m i z l g)) (λ (l : m ≤ i). let e : m ≡ i = omega arith in rw e (Memᴰ.append_right (cut_to s r i) g)) (lt-or-le i m)

-- a number in the list of the cut is the code of a square in the cut
pub cut→ : (s : Shape) (r : Rect) (z : ℕ) → Memᴰ z (cut s r) → (i : ℕ) × (n : ℕ) × (i ≤ s.k) × (n < squares_on s i) × (in_cut s r i n ≡ true) × (z ≡ code i n)
cut→ s r z h =
    let a = cut_to→ s r (suc s.k) z h in
    let i = a.0 in
    let b = map→ (code i) (keep (in_cut s r i) (upto (squares_on s i))) z a.2 in
    let c = keep→ (in_cut s r i) (upto (squares_on s i)) b.0 b.1 in
    let d = span→ 0 (squares_on s i) b.0 c.0 in
    (i, b.0, omega arith, omega arith, c.1, b.2)

-- and every square of the cut has its code in the list
pub →cut : (s : Shape) (r : Rect) (i n : ℕ) → i ≤ s.k → n < squares_on s i → in_cut s r i n ≡ true → Memᴰ (code i n) (cut s r)
→cut s r i n h g e = →cut_to s r (suc s.k) i (code i n) (omega arith) (→map (code i) (keep (in_cut s r i) (upto (squares_on s i))) n (→keep (in_cut s r i) (upto (squares_on s i)) n (→span 0 (squares_on s i) n (omega arith) (omega arith)) e))

-- a code tells the square
pub code_same : (i n j m : ℕ) → n < 1048576 → m < 1048576 → code i n ≡ code j m → (i ≡ j) × (n ≡ m)
code_same i n j m h g e = omega arith

-- a square's code is in the list of the cut exactly when the square is in the cut
pub cut-member : (s : Shape) (r : Rect) (i n : ℕ) → Allowed s → i ≤ s.k → n < squares_on s i → Memᴰ (code i n) (cut s r) ↔ (in_cut s r i n ≡ true)
cut-member s r i n w h g = (to, λ e. →cut s r i n h g e)
  where
    to : Memᴰ (code i n) (cut s r) → in_cut s r i n ≡ true
    to m =
        let a = cut→ s r (code i n) m in
        let e = code_same i n a.0 a.1 (omega (arith, squares-small s w i h)) (omega (arith, squares-small s w a.0 a.2)) a.5 in
        ap₂ (in_cut s r) e.0 e.1 ∙ a.4

-- ---- how many squares a cut has

pub length-cut-on : (s : Shape) (r : Rect) (i : ℕ) → length (cut_on s r i) ≡ length (keep (in_cut s r i) (upto (squares_on s i)))
length-cut-on s r i = length-map (keep (in_cut s r i) (upto (squares_on s i))) (code i)

pub length-cut-to : (s : Shape) (r : Rect) (m : ℕ) → length (cut_to s r m) ≤ squares_to s m
unfolding cut_to squares_to
length-cut-to s r zero = omega arith
length-cut-to s r (suc m) = rw (length-append (cut_to s r m) (cut_on s r m), length-cut-on s r m) (omega (arith, length-cut-to s r m, length-keep (in_cut s r m) (upto (squares_on s m)), length-span 0 (squares_on s m)))

-- no more than the town has squares
pub count-few : (s : Shape) (r : Rect) (t : ℕ) → Allowed s → t ≡ length (cut s r) → Counted s r t
count-few s r t h e =
    let many = squares-few s h in
    let all : squares_to s (suc s.k) ≡ squares s = ap (squares_to s) (sym (add-one s.k)) ∙ count-squares s in
    record { is = e; few = omega (arith, length-cut-to s r (suc s.k), many, all) }
