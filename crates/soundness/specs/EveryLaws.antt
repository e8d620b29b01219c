-- Laws of a test of every number below n, and how a loop makes it.
use Prim.Native.Nat.{ℕ, zero, suc, ◌+◌, ◌*◌, ◌<◌, ◌≤◌}
use Rattle.std.specs.Prelude.{◌≡◌, Bool, true, false, List, length, take, drop, get_or, ◌-◌, eqb}
use Rattle.std.proofs.Math.Path.{refl, ap}
use Rattle.std.proofs.Common.{ap₂, sym, ◌∙◌, add-zero, zero-add, zero-mul, suc-mul, add-one, take_all, Decides, get_or-take, get_or-drop}
use borrow.Author.Tests.{eq-eqb, eqb-true}
use borrow.Rule.Slice.PartMut.{mid_of, mid_len}
use Rattle.std.proofs.Math.Logic.{⊎_elim}
use Rattle.std.proofs.Math.Bool.{◌&&◌, and-true, and_assoc}
use native.Mathlib.Omega.{arith}
use Rattle.order.specs.TestLaws.{lt-or-le, and→, fails, true-not-false}
use Rattle.std.specs.List.{list_all, range_with_len, IsAllAdjacentAnswer}
use Rattle.std.proofs.lemmas.List.{ext_get_or}
use Rattle.std.proofs.lemmas.List.Folds.{list_all_more}
use Rattle.std.proofs.lemmas.List.FromFn.{length-range_with_len, get_or-range_with_len}
use Rattle.soundness.specs.Tests.{every}

module _ (p : ℕ → Bool) where
  pub every→ : (n : ℕ) → every p n ≡ true → (i : ℕ) → i < n → p i ≡ true
  unfolding every
  every→ zero e i h = absurd (omega arith)
  every→ (suc n) e i h = let a = and→ (every p n) (p n) e in ⊎_elim (λ (l : i < n). every→ n a.0 i l) (λ (l : n ≤ i). let q : i ≡ n = omega arith in ap p q ∙ a.1) (lt-or-le i n)

  pub →every : (n : ℕ) → ((i : ℕ) → i < n → p i ≡ true) → every p n ≡ true
  unfolding every
  →every zero f = refl
  →every (suc n) f = rw (→every n (λ i h. f i (omega arith)), f n (omega arith))

  -- the first i numbers of n have passed
  pub record Passed (n i : ℕ) : Type 0 where
    pub low : i ≤ n
    pub all : (j : ℕ) → j < i → p j ≡ true

  pub passed_none : (n : ℕ) → Passed n 0
  passed_none n = record { low = omega arith; all = λ j h. absurd (omega arith) }

  pub passed-more : (n i : ℕ) → Passed n i → i < n → p i ≡ true → Passed n (i + 1)
  passed-more n i h l e = record { low = omega arith; all = λ j g. ⊎_elim (λ (b : j < i). h.all j b) (λ (b : i ≤ j). let q : j ≡ i = omega arith in ap p q ∙ e) (lt-or-le j i) }

  pub passed-end : (n i : ℕ) → Passed n i → n ≤ i → true ≡ every p n
  passed-end n i h g = sym (→every n (λ j l. h.all j (omega arith)))

  pub passed-stop : (n i : ℕ) → i < n → p i ≡ false → false ≡ every p n
  passed-stop n i h e = sym (fails (every p n) (λ f. true-not-false (p i) (every→ n f i h) e))

  -- of n numbers the first i are asked, one with the other
  pub record Asked (n i : ℕ) (right : Bool) : Type 0 where
    pub low : i ≤ n
    pub is : right ≡ every p i

  pub asked-none : (n : ℕ) → Asked n 0 true
  unfolding every
  asked-none n = record { low = omega arith; is = refl }

  pub asked-more : (n i : ℕ) (right : Bool) → Asked n i right → i < n → (t : Bool) → t ≡ p i → Asked n (i + 1) (right && t)
  unfolding every
  asked-more n i right h l t e = record { low = omega arith; is = rw (add-one i) (ap₂ ◌&&◌ h.is e) }

  pub asked-end : (n i : ℕ) (right : Bool) → Asked n i right → n ≤ i → right ≡ every p n
  asked-end n i right h g = let e : i ≡ n = omega (arith, h.low) in h.is ∙ ap (every p) e

pub every-ext : (p q : ℕ → Bool) (n : ℕ) → ((i : ℕ) → i < n → p i ≡ q i) → every p n ≡ every q n
unfolding every
every-ext p q zero h = refl
every-ext p q (suc n) h = ap₂ ◌&&◌ (every-ext p q n (λ i l. h i (omega arith))) (h n (omega arith))

-- ---- lists

module _ {X : Type 0} (p : X → Bool) (d : X) (l : List X) where
  every-front : (n : ℕ) → n ≤ length l → list_all p (take n l) ≡ every (λ (i : ℕ). p (get_or l i d)) n
  unfolding every
  every-front zero h = refl
  every-front (suc n) h = rw (← add-one n) (list_all_more p l n d (omega arith)) ∙ ap (λ (t : Bool). t && p (get_or l n d)) (every-front n (omega arith))

  -- every number of a list has p
  pub every-list : list_all p l ≡ every (λ (i : ℕ). p (get_or l i d)) (length l)
  every-list = ap (list_all p) (sym (take_all (length l) l (omega arith))) ∙ every-front (length l) (omega arith)

-- a chain over the numbers below n
pub every-range : (p : ℕ → Bool) (n : ℕ) → list_all p (range_with_len 0 n) ≡ every p n
every-range p n = every-list p 0 (range_with_len 0 n) ∙ rw (length-range_with_len 0 n) (every-ext _ p n (λ i h. ap p (get_or-range_with_len 0 n i 0 h ∙ zero-add i)))

-- each number and the next have p
pub every-next : (p : ℕ → ℕ → Bool) (l : List ℕ) (r : Bool) → IsAllAdjacentAnswer (λ x y b. b ≡ p x y) l r → r ≡ every (λ (i : ℕ). p (get_or l i 0) (get_or l (i + 1) 0)) (length l - 1)
every-next p l true h = sym (→every _ (length l - 1) (λ i g. sym (h i 0 (omega arith))))
every-next p l false h = passed-stop _ (length l - 1) h.0 (omega (arith, h.1)) (sym (h.2 0))

-- two lists of n numbers are equal
pub every-equal : (a b : List ℕ) (n : ℕ) → length a ≡ n → length b ≡ n → (r : Bool) → Decides r (a ≡ b) → r ≡ every (λ (i : ℕ). eqb (get_or a i 0) (get_or b i 0)) n
every-equal a b n f g true h = sym (→every _ n (λ i l. eq-eqb (get_or a i 0) (get_or b i 0) (ap (λ (m : List ℕ). get_or m i 0) (h.0 refl))))
every-equal a b n f g false h = sym (fails (every (λ (i : ℕ). eqb (get_or a i 0) (get_or b i 0)) n) (λ e. true-not-false false (h.1 (ext_get_or 0 a b (f ∙ sym g) (λ i l. eqb-true (get_or a i 0) (get_or b i 0) (every→ _ n e i (omega arith))))) refl))

-- a part is n numbers
pub every-part : (l b : List ℕ) (from end n : ℕ) → from + n ≡ end → end ≤ length l → length b ≡ n → (r : Bool) → Decides r (mid_of from (end - from) l ≡ b) → r ≡ every (λ (i : ℕ). eqb (get_or l (from + i) 0) (get_or b i 0)) n
every-part l b from end n e h g r d =
    every-equal (mid_of from (end - from) l) b n (omega (arith, mid_len from end l h)) g r d
    ∙ every-ext _ _ n (λ i q. ap (λ (x : ℕ). eqb x (get_or b i 0)) (get_or-take (end - from) (drop from l) i 0 (omega arith) ∙ get_or-drop from l i 0))

-- ---- rows of m numbers

every-add : (p : ℕ → Bool) (k m : ℕ) → every p (k + m) ≡ (every p k && every (λ (c : ℕ). p (k + c)) m)
unfolding every
every-add p k zero = rw (add-zero k) (sym (and-true (every p k)))
every-add p k (suc m) =
    let e : k + suc m ≡ suc (k + m) = omega arith in
    rw e (ap (λ (t : Bool). t && p (k + m)) (every-add p k m) ∙ and_assoc (every p k) (every (λ (c : ℕ). p (k + c)) m) (p (k + m)))

pub every-rows : (p : ℕ → Bool) (m n : ℕ) → every (λ (z : ℕ). every (λ (c : ℕ). p (z * m + c)) m) n ≡ every p (n * m)
unfolding every
every-rows p m zero = rw (zero-mul m)
every-rows p m (suc n) = rw (suc-mul n m) (ap (λ (t : Bool). t && every (λ (c : ℕ). p (n * m + c)) m) (every-rows p m n) ∙ sym (every-add p (n * m) m))
