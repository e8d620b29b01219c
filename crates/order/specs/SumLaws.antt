-- Laws of sums over the numbers below n, and of how many of them have a property.
use Rattle.std.specs.Prelude.{ℕ, zero, suc, ◌+◌, ◌-◌, ◌*◌, ◌<◌, ◌≤◌, ◌≡◌, refl, Bool, true, false, cond, ◌&&◌, [], ◌∷◌, leb, ltb, length}
use Rattle.std.proofs.Common.{ap, ap₂, sym, ◌∙◌, ⊎_elim, suc-mul, zero-mul, add-mul, add-zero, add-suc, zero-add, add-one, arith, length-append, le-leb, lt-ltb, le-ltb}
use Rattle.std.proofs.lemmas.Bool.{lt-leb}
use Rattle.order.specs.Order.{upto, span, keep}
use Rattle.order.specs.Sums.{sum, bit}
use Rattle.order.specs.TestLaws.{lt-or-le, lt-or-eq-or-gt}
use Rattle.order.specs.KeepLaws.{span-add, keep_append}

pub sum-ext : (f g : ℕ → ℕ) (n : ℕ) → ((i : ℕ) → i < n → f i ≡ g i) → sum f n ≡ sum g n
unfolding sum
sum-ext f g zero h = refl
sum-ext f g (suc n) h = ap₂ ◌+◌ (sum-ext f g n (λ i l. h i (omega arith))) (h n (omega arith))

pub sum-none : (f : ℕ → ℕ) (n : ℕ) → ((i : ℕ) → i < n → f i ≡ 0) → sum f n ≡ 0
unfolding sum
sum-none f zero h = refl
sum-none f (suc n) h = omega (arith, sum-none f n (λ i l. h i (omega arith)), h n (omega arith))

pub sum-add : (f : ℕ → ℕ) (a b : ℕ) → sum f (a + b) ≡ sum f a + sum (λ (i : ℕ). f (a + i)) b
unfolding sum
sum-add f a zero = rw (add-zero a) (omega arith)
sum-add f a (suc b) = rw (add-suc a b) (omega (arith, sum-add f a b))

pub sum-plus : (f g : ℕ → ℕ) (n : ℕ) → sum (λ (i : ℕ). f i + g i) n ≡ sum f n + sum g n
unfolding sum
sum-plus f g zero = refl
sum-plus f g (suc n) = omega (arith, sum-plus f g n)

pub sum-times : (f : ℕ → ℕ) (n c : ℕ) → sum (λ (i : ℕ). f i * c) n ≡ sum f n * c
unfolding sum
sum-times f zero c = sym (zero-mul c)
sum-times f (suc n) c = rw (add-mul (sum f n) (f n) c) (ap (λ (m : ℕ). m + f n * c) (sum-times f n c))

-- rows first or columns first
pub sum-swap : (f : ℕ → ℕ → ℕ) (a b : ℕ) → sum (λ (i : ℕ). sum (f i) b) a ≡ sum (λ (j : ℕ). sum (λ (i : ℕ). f i j) a) b
unfolding sum
sum-swap f zero b = sym (sum-none (λ (j : ℕ). 0) b (λ j l. refl))
sum-swap f (suc a) b = ap (λ (n : ℕ). n + sum (f a) b) (sum-swap f a b) ∙ sym (sum-plus (λ (j : ℕ). sum (λ (i : ℕ). f i j) a) (f a) b)

-- a rows of c in one row
pub sum-grid : (f : ℕ → ℕ) (a c : ℕ) → sum f (a * c) ≡ sum (λ (i : ℕ). sum (λ (j : ℕ). f (i * c + j)) c) a
unfolding sum
sum-grid f zero c = rw (zero-mul c)
sum-grid f (suc a) c = rw (suc-mul a c, sum-add f (a * c) c) (ap (λ (n : ℕ). n + sum (λ (j : ℕ). f (a * c + j)) c) (sum-grid f a c))

-- ---- how many have a property

pub count-sum : (p : ℕ → Bool) (n : ℕ) → length (keep p (upto n)) ≡ sum (λ (i : ℕ). bit (p i)) n
unfolding sum span keep
count-sum p zero = refl
count-sum p (suc n) = ap (λ (m : ℕ). length (keep p (upto m))) (sym (add-one n)) ∙ rw (span-add 0 n 1, keep_append p (upto n) (span (0 + n) 1), length-append (keep p (upto n)) (keep p (span (0 + n) 1)), count-sum p n, zero-add n) (ap (λ (m : ℕ). sum (λ (i : ℕ). bit (p i)) n + m) (one (p n)))
  where
    one : (b : Bool) → length (cond b (n ∷ []) []) ≡ bit b
    one true = refl
    one false = refl

-- being lo or more
count-from : (lo n : ℕ) → sum (λ (i : ℕ). bit (leb lo i)) n ≡ n - lo
unfolding sum
count-from lo zero = omega arith
count-from lo (suc n) = ⊎_elim
    (λ (h : n < lo). rw (lt-leb lo n h) (omega (arith, count-from lo n)))
    (λ (h : lo ≤ n). rw (le-leb lo n h) (omega (arith, count-from lo n)))
    (lt-or-le n lo)

-- being lo or more and below hi
pub count-between : (lo hi n : ℕ) → hi ≤ n → sum (λ (i : ℕ). bit (leb lo i && ltb i hi)) n ≡ hi - lo
count-between lo hi n h =
    let f : ℕ → ℕ = λ i. bit (leb lo i && ltb i hi) in
    let e : n ≡ hi + (n - hi) = omega arith in
    let low = sum-ext f (λ (i : ℕ). bit (leb lo i)) hi (λ i l. rw (lt-ltb i hi l) (below (leb lo i))) in
    let high = sum-none (λ (i : ℕ). f (hi + i)) (n - hi) (λ i l. rw (le-ltb (hi + i) hi (omega arith)) (past (leb lo (hi + i)))) in
    ap (sum f) e ∙ sum-add f hi (n - hi) ∙ omega (arith, low, high, count-from lo hi)
  where
    below : (b : Bool) → bit (b && true) ≡ bit b
    below true = refl
    below false = refl

    past : (b : Bool) → bit (b && false) ≡ 0
    past true = refl
    past false = refl

-- ---- one number that differs

-- two sums that differ in one number, which was 0
pub sum_one : (f g : ℕ → ℕ) (n z : ℕ) → z < n → ((i : ℕ) → (i ≡ z → ⊥) → f i ≡ g i) → g z ≡ 0 → sum f n ≡ sum g n + f z
unfolding sum
sum_one f g zero z h same empty = absurd (omega arith)
sum_one f g (suc n) z h same empty = ⊎_elim
    (λ (l : z < n). omega (arith, sum_one f g n z l same empty, same n (λ (e : n ≡ z). omega arith)))
    (⊎_elim
    (λ (e : z ≡ n). rw e (omega (arith, sum-ext f g n (λ i l. same i (λ (q : i ≡ z). omega arith)), ap g (sym e) ∙ empty)))
    (λ (l : n < z). absurd (omega arith)))
    (lt-or-eq-or-gt z n)

-- a sum all of whose numbers but one are 0
pub sum-only : (f : ℕ → ℕ) (n z : ℕ) → z < n → ((i : ℕ) → (i ≡ z → ⊥) → f i ≡ 0) → sum f n ≡ f z
sum-only f n z h same = sum_one f (λ (i : ℕ). 0) n z h same refl ∙ ap (λ (m : ℕ). m + f z) (sum-none (λ (i : ℕ). 0) n (λ i l. refl)) ∙ zero-add (f z)

-- one number more that has a property
pub count-one : (p q : ℕ → Bool) (n z : ℕ) → z < n → ((i : ℕ) → (i ≡ z → ⊥) → p i ≡ q i) → p z ≡ true → q z ≡ false → length (keep p (upto n)) ≡ length (keep q (upto n)) + 1
count-one p q n z h same e f = count-sum p n ∙ sum_one (λ (i : ℕ). bit (p i)) (λ (i : ℕ). bit (q i)) n z h (λ i g. ap bit (same i g)) (ap bit f) ∙ ap₂ ◌+◌ (sym (count-sum q n)) (ap bit e)
