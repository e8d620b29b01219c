-- Laws of spans of numbers, and of those of a list that have a property.
use Rattle.std.specs.Prelude.{ℕ, zero, suc, ◌+◌, ◌<◌, ◌≤◌, ◌≡◌, refl, ◌⊎◌, Bool, true, false, cond, ◌&&◌, length}
use Rattle.std.proofs.Common.{ap, ◌∙◌, inl, inr, ⊎_elim, arith, add-zero, add-suc, suc-add, zero-add}
use mathlib.Core.List.Memᴰ
use mathlib.Core.List.{List, [], ◌∷◌, ◌++◌, Memᴰ}
use Rattle.order.specs.Order.{span, keep}
use Rattle.order.specs.TestLaws.{lt-or-le, true-not-false}

-- ---- spans

pub span-add : (lo n m : ℕ) → span lo (n + m) ≡ span lo n ++ span (lo + n) m
unfolding span
span-add lo zero m = rw (zero-add, add-zero)
span-add lo (suc n) m = rw (suc-add, add-suc) (ap (λ (l : List ℕ). lo ∷ l) (rw (suc-add) at (span-add (suc lo) n m)))

pub length-span : (lo n : ℕ) → length (span lo n) ≡ n
unfolding span
length-span lo zero = refl
length-span lo (suc n) = ap suc (length-span (suc lo) n)

pub span→ : (lo n x : ℕ) → Memᴰ x (span lo n) → (lo ≤ x) × (x < lo + n)
unfolding span
span→ lo zero x m = absurd (Memᴰ.not-nil m)
span→ lo (suc n) x m = ⊎_elim (λ (e : x ≡ lo). (omega arith, omega arith)) (λ (h : Memᴰ x (span (suc lo) n)). let g = span→ (suc lo) n x h in (omega arith, omega arith)) (Memᴰ.cases_cons m)

pub →span : (lo n x : ℕ) → lo ≤ x → x < lo + n → Memᴰ x (span lo n)
unfolding span
→span lo zero x h g = absurd (omega arith)
→span lo (suc n) x h g = ⊎_elim (λ (l : lo < x). Memᴰ.tail (→span (suc lo) n x l (omega arith))) (λ (l : x ≤ lo). Memᴰ.head (omega arith)) (lt-or-le lo x)

-- ---- keep

pub keep-yes : (p : ℕ → Bool) (x : ℕ) (xs : List ℕ) → p x ≡ true → keep p (x ∷ xs) ≡ x ∷ keep p xs
unfolding keep
keep-yes p x xs e = rw e

pub keep-no : (p : ℕ → Bool) (x : ℕ) (xs : List ℕ) → p x ≡ false → keep p (x ∷ xs) ≡ keep p xs
unfolding keep
keep-no p x xs e = rw e

pub keep_append : (p : ℕ → Bool) (a b : List ℕ) → keep p (a ++ b) ≡ keep p a ++ keep p b
unfolding keep
keep_append p [] b = refl
keep_append p (x ∷ a) b = go (p x) (keep_append p a b)
  where
    go : (t : Bool) → keep p (a ++ b) ≡ keep p a ++ keep p b → cond t (x ∷ keep p (a ++ b)) (keep p (a ++ b)) ≡ cond t (x ∷ keep p a) (keep p a) ++ keep p b
    go true e = ap (λ (l : List ℕ). x ∷ l) e
    go false e = e

pub keep→ : (p : ℕ → Bool) (l : List ℕ) (x : ℕ) → Memᴰ x (keep p l) → Memᴰ x l × (p x ≡ true)
unfolding keep
keep→ p [] x m = absurd (Memᴰ.not-nil m)
keep→ p (y ∷ l) x m = go (p y) refl m (keep→ p l x)
  where
    later : (Memᴰ x (keep p l) → Memᴰ x l × (p x ≡ true)) → Memᴰ x (keep p l) → Memᴰ x (y ∷ l) × (p x ≡ true)
    later below h = let g = below h in (Memᴰ.tail g.0, g.1)

    go : (t : Bool) → p y ≡ t → Memᴰ x (cond t (y ∷ keep p l) (keep p l)) → (Memᴰ x (keep p l) → Memᴰ x l × (p x ≡ true)) → Memᴰ x (y ∷ l) × (p x ≡ true)
    go true e h below = ⊎_elim (λ (q : x ≡ y). (Memᴰ.head q, ap p q ∙ e)) (later below) (Memᴰ.cases_cons h)
    go false e h below = later below h

pub →keep : (p : ℕ → Bool) (l : List ℕ) (x : ℕ) → Memᴰ x l → p x ≡ true → Memᴰ x (keep p l)
unfolding keep
→keep p [] x m e = absurd (Memᴰ.not-nil m)
→keep p (y ∷ l) x m e = go (p y) refl (Memᴰ.cases_cons m) (→keep p l x)
  where
    go : (t : Bool) → p y ≡ t → (x ≡ y) ⊎ Memᴰ x l → (Memᴰ x l → p x ≡ true → Memᴰ x (keep p l)) → Memᴰ x (cond t (y ∷ keep p l) (keep p l))
    go true f (inl q) below = Memᴰ.head q
    go true f (inr h) below = Memᴰ.tail (below h e)
    go false f (inl q) below = absurd (true-not-false (p x) e (ap p q ∙ f))
    go false f (inr h) below = below h e

pub keep-ext : (p q : ℕ → Bool) (l : List ℕ) → ((x : ℕ) → Memᴰ x l → p x ≡ q x) → keep p l ≡ keep q l
unfolding keep
keep-ext p q [] h = refl
keep-ext p q (x ∷ l) h = rw (h x (Memᴰ.head refl), keep-ext p q l (λ y m. h y (Memᴰ.tail m)))

pub keep-none : (p : ℕ → Bool) (l : List ℕ) → ((x : ℕ) → Memᴰ x l → p x ≡ false) → keep p l ≡ []
unfolding keep
keep-none p [] h = refl
keep-none p (x ∷ l) h = rw (h x (Memᴰ.head refl)) (keep-none p l (λ y m. h y (Memᴰ.tail m)))

-- one that has it is kept, and what is kept has it
pub keep_some : (p : ℕ → Bool) (l : List ℕ) (x : ℕ) → Memᴰ x l → p x ≡ true → 0 < length (keep p l)
keep_some p l x m e = member-counts (keep p l) (→keep p l x m e)
  where
    member-counts : (k : List ℕ) → Memᴰ x k → 0 < length k
    member-counts [] n = absurd (Memᴰ.not-nil n)
    member-counts (y ∷ k) n = omega arith

pub some-kept : (p : ℕ → Bool) (l : List ℕ) → 0 < length (keep p l) → (x : ℕ) × Memᴰ x l × (p x ≡ true)
some-kept p l h = go (keep p l) (keep→ p l) h
  where
    go : (k : List ℕ) → ((x : ℕ) → Memᴰ x k → Memᴰ x l × (p x ≡ true)) → 0 < length k → (x : ℕ) × Memᴰ x l × (p x ≡ true)
    go [] all g = absurd (omega arith)
    go (y ∷ k) all g = let a = all y (Memᴰ.head refl) in (y, a.0, a.1)

pub keep_all : (p : ℕ → Bool) (l : List ℕ) → ((x : ℕ) → Memᴰ x l → p x ≡ true) → keep p l ≡ l
unfolding keep
keep_all p [] h = refl
keep_all p (x ∷ l) h = rw (h x (Memᴰ.head refl)) (ap (λ (t : List ℕ). x ∷ t) (keep_all p l (λ y m. h y (Memᴰ.tail m))))

pub keep-keep : (p q : ℕ → Bool) (l : List ℕ) → keep p (keep q l) ≡ keep (λ (x : ℕ). q x && p x) l
unfolding keep
keep-keep p q [] = refl
keep-keep p q (x ∷ l) = go (q x) (keep-keep p q l)
  where
    go : (t : Bool) → keep p (keep q l) ≡ keep (λ (y : ℕ). q y && p y) l → keep p (cond t (x ∷ keep q l) (keep q l)) ≡ cond (t && p x) (x ∷ keep (λ (y : ℕ). q y && p y) l) (keep (λ (y : ℕ). q y && p y) l)
    go true e = rw e
    go false e = e

pub length-keep : (p : ℕ → Bool) (l : List ℕ) → length (keep p l) ≤ length l
unfolding keep
length-keep p [] = omega arith
length-keep p (x ∷ l) = go (p x) (length-keep p l)
  where
    go : (t : Bool) → length (keep p l) ≤ length l → length (cond t (x ∷ keep p l) (keep p l)) ≤ suc (length l)
    go true h = omega arith
    go false h = omega arith

-- keeping as many as there are is keeping all
pub keep-full : (f : ℕ → Bool) (l : List ℕ) → length l ≤ length (keep f l) → keep f l ≡ l
unfolding keep
keep-full f [] h = refl
keep-full f (x ∷ l) h = go (f x) h (keep-full f l) (length-keep f l)
  where
    go : (t : Bool) → suc (length l) ≤ length (cond t (x ∷ keep f l) (keep f l)) → (length l ≤ length (keep f l) → keep f l ≡ l) → length (keep f l) ≤ length l → cond t (x ∷ keep f l) (keep f l) ≡ x ∷ l
    go true g i k = ap (λ (m : List ℕ). x ∷ m) (i (omega arith))
    go false g i k = absurd (omega arith)
