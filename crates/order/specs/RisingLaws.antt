-- Laws of rising lists: equal by their members, what insertion does, and members by their index.
use Rattle.std.specs.Prelude.{ℕ, zero, suc, ◌<◌, ◌≤◌, ◌≡◌, refl, ◌⊎◌, Bool, true, false, cond, ◌||◌, eqb, length, get_or}
use Rattle.std.proofs.Common.{ap, sym, ◌∙◌, inl, inr, ⊎_elim, arith, lt-ltb, le-ltb, eq-eqb, ne_eqb}
use Rattle.std.proofs.Math.Bool.{or-true}
use mathlib.Core.List.Memᴰ
use mathlib.Core.List.{List, [], ◌∷◌, Memᴰ}
use Rattle.order.specs.Order.{span, upto, keep}
use Rattle.order.specs.Rising.{Rising, none, more, insert}
use Rattle.order.specs.TestLaws.{lt-or-eq-or-gt}
use Rattle.order.specs.KeepLaws.{span→, →span, keep→, →keep}

pub rising-span : (lo n : ℕ) → Rising (span lo n)
unfolding span
rising-span lo zero = none
rising-span lo (suc n) = more (λ y m. (span→ (suc lo) n y m).0) (rising-span (suc lo) n)

pub rising-keep : (p : ℕ → Bool) (l : List ℕ) → Rising l → Rising (keep p l)
unfolding keep
rising-keep p [] r = none
rising-keep p (x ∷ l) (more h r) = go (p x) (rising-keep p l r)
  where
    go : (t : Bool) → Rising (keep p l) → Rising (cond t (x ∷ keep p l) (keep p l))
    go true r' = more (λ y m. h y (keep→ p l y m).0) r'
    go false r' = r'

head-least : {x y : ℕ} {xs ys : List ℕ} → Rising (x ∷ xs) → Rising (y ∷ ys) → Memᴰ x (y ∷ ys) → Memᴰ y (x ∷ xs) → x ≡ y
head-least {x} {y} {xs} {ys} (more h r) (more g s) m n = ⊎_elim (λ (e : x ≡ y). e) (λ (m' : Memᴰ x ys). ⊎_elim (λ (e : y ≡ x). sym e) (λ (n' : Memᴰ y xs). let a = g x m' in let b = h y n' in absurd (omega arith)) (Memᴰ.cases_cons n)) (Memᴰ.cases_cons m)

-- two rising lists with the same members are equal
pub rising-ext : {l m : List ℕ} → Rising l → Rising m → ((x : ℕ) → Memᴰ x l → Memᴰ x m) → ((x : ℕ) → Memᴰ x m → Memᴰ x l) → l ≡ m
rising-ext none none f g = refl
rising-ext none (more {x = y} h s) f g = absurd (Memᴰ.not-nil (g y (Memᴰ.head refl)))
rising-ext (more {x = x} h r) none f g = absurd (Memᴰ.not-nil (f x (Memᴰ.head refl)))
rising-ext (more {x = x} {xs = xs} h r) (more {x = y} {xs = ys} k s) f g =
    let e : x ≡ y = head-least (more h r) (more k s) (f x (Memᴰ.head refl)) (g y (Memᴰ.head refl)) in
    rw e (ap (λ (t : List ℕ). y ∷ t) (rising-ext r s (λ z m. ⊎_elim (λ (q : z ≡ y). let b = h z m in absurd (omega arith)) (λ (n : Memᴰ z ys). n) (Memᴰ.cases_cons (f z (Memᴰ.tail m)))) (λ z m. ⊎_elim (λ (q : z ≡ x). let b = k z m in absurd (omega arith)) (λ (n : Memᴰ z xs). n) (Memᴰ.cases_cons (g z (Memᴰ.tail m))))))

-- a rising list whose members are exactly the numbers below n with p
pub rising-is-keep : (p : ℕ → Bool) (n : ℕ) (l : List ℕ) → Rising l → ((x : ℕ) → Memᴰ x l → (x < n) × (p x ≡ true)) → ((x : ℕ) → x < n → p x ≡ true → Memᴰ x l) → l ≡ keep p (upto n)
rising-is-keep p n l r f g = rising-ext r (rising-keep p (upto n) (rising-span 0 n)) (λ x m. →keep p (upto n) x (→span 0 n x (omega arith) (let b = f x m in omega arith)) (f x m).1) (λ x m. let b = keep→ p (upto n) x m in let c = span→ 0 n x b.0 in g x (omega arith) b.1)

-- ---- insertion

pub insert-below : (x y : ℕ) (ys : List ℕ) → x < y → insert x (y ∷ ys) ≡ x ∷ y ∷ ys
unfolding insert
insert-below x y ys h = rw (lt-ltb x y h)

pub insert-there : (x : ℕ) (ys : List ℕ) → insert x (x ∷ ys) ≡ x ∷ ys
unfolding insert
insert-there x ys = rw (le-ltb x x (omega arith), eq-eqb x x refl)

pub insert-equal : (x y : ℕ) (ys : List ℕ) → x ≡ y → insert x (y ∷ ys) ≡ y ∷ ys
insert-equal x y ys e = ap (λ (w : ℕ). insert w (y ∷ ys)) e ∙ insert-there y ys

pub insert-above : (x y : ℕ) (ys : List ℕ) → y < x → insert x (y ∷ ys) ≡ y ∷ insert x ys
unfolding insert
insert-above x y ys h = rw (le-ltb x y (omega arith), ne_eqb x y (λ (e : x ≡ y). omega arith))

insert→ : (x : ℕ) (l : List ℕ) (z : ℕ) → Memᴰ z (insert x l) → (z ≡ x) ⊎ Memᴰ z l
unfolding insert
insert→ x [] z m = Memᴰ.cases_cons m
insert→ x (y ∷ ys) z m = ⊎_elim
    (λ (h : x < y). Memᴰ.cases_cons (rw (insert-below x y ys h) at m))
    (⊎_elim
    (λ (e : x ≡ y). inr (rw (insert-equal x y ys e) at m))
    (λ (h : y < x). ⊎_elim (λ (e : z ≡ y). inr (Memᴰ.head e)) (λ (n : Memᴰ z (insert x ys)). ⊎_elim (λ (e : z ≡ x). inl e) (λ (k : Memᴰ z ys). inr (Memᴰ.tail k)) (insert→ x ys z n)) (Memᴰ.cases_cons (rw (insert-above x y ys h) at m))))
    (lt-or-eq-or-gt x y)

insert-new : (x : ℕ) (l : List ℕ) → Memᴰ x (insert x l)
unfolding insert
insert-new x [] = Memᴰ.head refl
insert-new x (y ∷ ys) = ⊎_elim
    (λ (h : x < y). rw (insert-below x y ys h) (Memᴰ.head refl))
    (⊎_elim
    (λ (e : x ≡ y). rw (insert-equal x y ys e) (Memᴰ.head e))
    (λ (h : y < x). rw (insert-above x y ys h) (Memᴰ.tail (insert-new x ys))))
    (lt-or-eq-or-gt x y)

insert-old : (x : ℕ) (l : List ℕ) (z : ℕ) → Memᴰ z l → Memᴰ z (insert x l)
insert-old x [] z m = absurd (Memᴰ.not-nil m)
insert-old x (y ∷ ys) z m = ⊎_elim
    (λ (h : x < y). rw (insert-below x y ys h) (Memᴰ.tail m))
    (⊎_elim
    (λ (e : x ≡ y). rw (e, insert-there y ys) m)
    (λ (h : y < x). rw (insert-above x y ys h) (⊎_elim (λ (e : z ≡ y). Memᴰ.head e) (λ (n : Memᴰ z ys). Memᴰ.tail (insert-old x ys z n)) (Memᴰ.cases_cons m))))
    (lt-or-eq-or-gt x y)

rising-insert : (x : ℕ) (l : List ℕ) → Rising l → Rising (insert x l)
unfolding insert
rising-insert x [] r = more (λ y m. absurd (Memᴰ.not-nil m)) none
rising-insert x (y ∷ ys) (more h r) = ⊎_elim
    (λ (b : x < y). rw (insert-below x y ys b) (more {x = x} (λ z m. ⊎_elim (λ (e : z ≡ y). omega arith) (λ (n : Memᴰ z ys). let g = h z n in omega arith) (Memᴰ.cases_cons m)) (more h r)))
    (⊎_elim
    (λ (e : x ≡ y). rw (insert-equal x y ys e) (more h r))
    (λ (b : y < x). rw (insert-above x y ys b) (more {x = y} (λ z m. ⊎_elim (λ (e : z ≡ x). omega arith) (h z) (insert→ x ys z m)) (rising-insert x ys r))))
    (lt-or-eq-or-gt x y)

-- how long a list is with one number more
pub insert-length : (x : ℕ) (l : List ℕ) → (length l ≤ length (insert x l)) × (length (insert x l) ≤ suc (length l))
unfolding insert
insert-length x [] = (omega arith, omega arith)
insert-length x (y ∷ ys) = ⊎_elim
    (λ (h : x < y). rw (insert-below x y ys h) (omega arith, omega arith))
    (⊎_elim
    (λ (e : x ≡ y). rw (insert-equal x y ys e) (omega arith, omega arith))
    (λ (h : y < x). let g = insert-length x ys in rw (insert-above x y ys h) (omega arith, omega arith)))
    (lt-or-eq-or-gt x y)

-- inserting a number below n into those below n with p
pub insert-keep : (p : ℕ → Bool) (n x : ℕ) → x < n → insert x (keep p (upto n)) ≡ keep (λ (y : ℕ). eqb y x || p y) (upto n)
insert-keep p n x h = rising-is-keep (λ (y : ℕ). eqb y x || p y) n (insert x (keep p (upto n))) (rising-insert x (keep p (upto n)) (rising-keep p (upto n) (rising-span 0 n)))
    (λ z m. ⊎_elim (λ (e : z ≡ x). (omega arith, rw (eq-eqb z x e))) (λ (k : Memᴰ z (keep p (upto n))). let b = keep→ p (upto n) z k in let c = span→ 0 n z b.0 in (omega arith, rw b.1 (or-true (eqb z x)))) (insert→ x (keep p (upto n)) z m))
    (λ z b e. ⊎_elim (λ (q : z ≡ x). rw q (insert-new x (keep p (upto n)))) (λ (q : z ≡ x → ⊥). insert-old x (keep p (upto n)) z (→keep p (upto n) z (→span 0 n z (omega arith) (omega arith)) (sym (ap (λ (t : Bool). t || p z) (ne_eqb z x q)) ∙ e))) (eq-or-ne z x))
  where
    eq-or-ne : (a b : ℕ) → (a ≡ b) ⊎ (a ≡ b → ⊥)
    eq-or-ne a b = ⊎_elim (λ (k : a < b). inr (λ (e : a ≡ b). omega arith)) (⊎_elim (λ (e : a ≡ b). inl e) (λ (k : b < a). inr (λ (e : a ≡ b). omega arith))) (lt-or-eq-or-gt a b)

-- ---- members by their index

pub member-at : (l : List ℕ) (i : ℕ) → i < length l → Memᴰ (get_or l i 0) l
member-at [] i h = absurd (omega arith)
member-at (x ∷ l) zero h = Memᴰ.head refl
member-at (x ∷ l) (suc i) h = Memᴰ.tail (member-at l i (omega arith))

pub index_of : (l : List ℕ) (x : ℕ) → Memᴰ x l → (i : ℕ) × (i < length l) × (get_or l i 0 ≡ x)
index_of [] x m = absurd (Memᴰ.not-nil m)
index_of (y ∷ l) x m = ⊎_elim (λ (e : x ≡ y). (0, omega arith, sym e)) (λ (n : Memᴰ x l). let a = index_of l x n in (suc a.0, omega arith, a.2)) (Memᴰ.cases_cons m)

-- a rising list rises from each number to the next, and a list that does so is rising
pub rising-next : {l : List ℕ} → Rising l → (i : ℕ) → suc i < length l → get_or l i 0 < get_or l (suc i) 0
rising-next none i h = absurd (omega arith)
rising-next (more {xs = xs} f r) zero h = f (get_or xs 0 0) (member-at xs 0 (omega arith))
rising-next (more {xs = xs} f r) (suc i) h = rising-next r i (omega arith)

pub →rising : (l : List ℕ) → ((i : ℕ) → suc i < length l → get_or l i 0 < get_or l (suc i) 0) → Rising l
→rising [] f = none
→rising (x ∷ []) f = more (λ y m. absurd (Memᴰ.not-nil m)) none
→rising (x ∷ (y ∷ l)) f =
    let rest = →rising (y ∷ l) (λ i h. f (suc i) (omega arith)) in
    more {x = x} (λ z m. ⊎_elim (λ (e : z ≡ y). omega (arith, f 0 (omega arith))) (λ (n : Memᴰ z l). omega (arith, f 0 (omega arith), head-below rest z n)) (Memᴰ.cases_cons m)) rest
  where
    head-below : {a : ℕ} {l : List ℕ} → Rising (a ∷ l) → (b : ℕ) → Memᴰ b l → a < b
    head-below (more g s) = g

-- ---- a rising list with the full count

-- a rising list within another is no longer
rising-within : {l m : List ℕ} → Rising l → Rising m → ((x : ℕ) → Memᴰ x l → Memᴰ x m) → length l ≤ length m
rising-within none s f = omega arith
rising-within (more {x = x} h r) none f = absurd (Memᴰ.not-nil (f x (Memᴰ.head refl)))
rising-within (more {x = x} {xs = xs} h r) (more {x = y} {xs = ys} k s) f = ⊎_elim
    (λ (e : x ≡ y). let b : length xs ≤ length ys = rising-within r s (λ z m. ⊎_elim (λ (q : z ≡ y). absurd (omega (arith, h z m))) (λ (n : Memᴰ z ys). n) (Memᴰ.cases_cons (f z (Memᴰ.tail m)))) in omega arith)
    (λ (n : Memᴰ x ys). let b : length (x ∷ xs) ≤ length ys = rising-within (more h r) s (later n) in omega arith)
    (Memᴰ.cases_cons (f x (Memᴰ.head refl)))
  where
    later : Memᴰ x ys → (z : ℕ) → Memᴰ z (x ∷ xs) → Memᴰ z ys
    later n z m = ⊎_elim (λ (q : z ≡ y). ⊎_elim (λ (e : z ≡ x). absurd (omega (arith, k x n))) (λ (g : Memᴰ z xs). absurd (omega (arith, k x n, h z g))) (Memᴰ.cases_cons m)) (λ (g : Memᴰ z ys). g) (Memᴰ.cases_cons (f z m))

-- and one that is as long is the whole
rising_whole : {l m : List ℕ} → Rising l → Rising m → ((x : ℕ) → Memᴰ x l → Memᴰ x m) → length l ≡ length m → l ≡ m
rising_whole none none f e = refl
rising_whole none (more h s) f e = absurd (omega arith)
rising_whole (more {x = x} h r) none f e = absurd (omega arith)
rising_whole (more {x = x} {xs = xs} h r) (more {x = y} {xs = ys} k s) f e = ⊎_elim
    (λ (q : x ≡ y). rw q (ap (λ (t : List ℕ). y ∷ t) (rising_whole r s (λ z m. ⊎_elim (λ (p : z ≡ y). absurd (omega (arith, h z m))) (λ (n : Memᴰ z ys). n) (Memᴰ.cases_cons (f z (Memᴰ.tail m)))) (omega arith))))
    (λ (n : Memᴰ x ys). let b : length (x ∷ xs) ≤ length ys = rising-within (more h r) s (later n) in absurd (omega arith))
    (Memᴰ.cases_cons (f x (Memᴰ.head refl)))
  where
    later : Memᴰ x ys → (z : ℕ) → Memᴰ z (x ∷ xs) → Memᴰ z ys
    later n z m = ⊎_elim (λ (q : z ≡ y). ⊎_elim (λ (p : z ≡ x). absurd (omega (arith, k x n))) (λ (g : Memᴰ z xs). absurd (omega (arith, k x n, h z g))) (Memᴰ.cases_cons m)) (λ (g : Memᴰ z ys). g) (Memᴰ.cases_cons (f z m))

-- a rising list of numbers below n with p, as many as there are, is all of them
pub full-count : (p : ℕ → Bool) (n : ℕ) (l : List ℕ) → Rising l → ((x : ℕ) → Memᴰ x l → (x < n) × (p x ≡ true)) → length l ≡ length (keep p (upto n)) → l ≡ keep p (upto n)
full-count p n l r f e = rising_whole r (rising-keep p (upto n) (rising-span 0 n)) (λ x m. →keep p (upto n) x (→span 0 n x (omega arith) (omega (arith, f x m))) (f x m).1) e
