-- Ranks: how many numbers of a rising list are below a key.
use Rattle.std.specs.Prelude.{ℕ, zero, suc, ◌+◌, ◌-◌, ◌<◌, ◌≤◌, ◌≡◌, refl, Bool, true, ltb, length, get_or}
use Rattle.std.proofs.Common.{ap, ◌∙◌, ⊎_elim, arith, lt-ltb, le-ltb, eq-eqb, ne_eqb}
use mathlib.Core.List.{List, [], ◌∷◌, ◌++◌, Memᴰ}
use Rattle.order.specs.Order.{upto, span, keep}
use Rattle.order.specs.Rising.{Rising, more}
use Rattle.order.specs.Buffer.{rank, ends_below}
use Rattle.order.specs.TestLaws.{lt-or-le}
use Rattle.order.specs.KeepLaws.{span→, span-add, keep→, keep_append}
use Rattle.order.specs.RisingLaws.{member-at}

-- the rank is where the numbers below a key end
pub rank_is : (key : ℕ) (l : List ℕ) (n : ℕ) → Rising l → n ≤ length l → ((i : ℕ) → suc i ≡ n → get_or l i 0 < key) → (n < length l → key ≤ get_or l n 0) → n ≡ rank key l
unfolding rank
rank_is key [] n r h f g = omega arith
rank_is key (y ∷ ys) zero r h f g = rw (le-ltb y key (g (omega arith)))
rank_is key (y ∷ ys) (suc n) (more k r) h f g =
    rw (lt-ltb y key (first n (f n refl) (omega arith)))
    (ap suc (rank_is key ys n r (omega arith) (λ i e. rw (← e) at (f n refl)) (λ l. g (omega arith))))
  where
    first : (m : ℕ) → get_or (y ∷ ys) m 0 < key → m ≤ length ys → y < key
    first zero b l = b
    first (suc m) b l = omega (arith, k (get_or ys m 0) (member-at ys m (omega arith)))

pub rank-low : (key : ℕ) (l : List ℕ) (i : ℕ) → i < rank key l → get_or l i 0 < key
unfolding rank
rank-low key [] i h = absurd (omega arith)
rank-low key (y ∷ ys) i h = ⊎_elim (λ (b : y < key). go i b (rw (lt-ltb y key b) at h) (rank-low key ys)) (λ (b : key ≤ y). let z = rw (le-ltb y key b) at h in absurd (omega arith)) (lt-or-le y key)
  where
    go : (j : ℕ) → y < key → j < suc (rank key ys) → ((m : ℕ) → m < rank key ys → get_or ys m 0 < key) → get_or (y ∷ ys) j 0 < key
    go zero b g below = b
    go (suc j) b g below = below j (omega arith)

pub rank-high : (key : ℕ) (l : List ℕ) → rank key l < length l → key ≤ get_or l (rank key l) 0
unfolding rank
rank-high key [] h = absurd (omega arith)
rank-high key (y ∷ ys) h = ⊎_elim (λ (b : y < key). rw (lt-ltb y key b) (rank-high key ys (let g = rw (lt-ltb y key b) at h in omega arith))) (λ (b : key ≤ y). rw (le-ltb y key b) b) (lt-or-le y key)

-- numbers below a key, and after them none that is
pub rank-append : (key : ℕ) (l m : List ℕ) → ((x : ℕ) → Memᴰ x l → x < key) → ((x : ℕ) → Memᴰ x m → key ≤ x) → rank key (l ++ m) ≡ length l
unfolding rank
rank-append key [] [] f g = refl
rank-append key [] (y ∷ m) f g = rw (le-ltb y key (g y (Memᴰ.head refl)))
rank-append key (x ∷ l) m f g = rw (lt-ltb x key (f x (Memᴰ.head refl))) (ap suc (rank-append key l m (λ y n. f y (Memᴰ.tail n)) g))

-- of the numbers below n with p, those below a key
pub rank-keep : (p : ℕ → Bool) (key n : ℕ) → key ≤ n → rank key (keep p (upto n)) ≡ length (keep p (upto key))
rank-keep p key n h =
    let e : n ≡ key + (n - key) = omega arith in
    ap (λ (m : ℕ). rank key (keep p (upto m))) e
    ∙ rw (span-add 0 key (n - key), keep_append p (upto key) (span (0 + key) (n - key)))
    (rank-append key (keep p (upto key)) (keep p (span (0 + key) (n - key)))
    (λ x m. omega (arith, span→ 0 key x (keep→ p (upto key) x m).0))
    (λ x m. omega (arith, span→ (0 + key) (n - key) x (keep→ p (span (0 + key) (n - key)) x m).0)))

-- ---- the last of the first n numbers is below a key

module _ (l : List ℕ) (key n : ℕ) where
  pub below_none : n ≡ 0 → true ≡ ends_below l key n
  unfolding ends_below
  below_none e = rw (eq-eqb n 0 e)

  pub below-some : (n ≡ 0 → ⊥) → (x : ℕ) → x ≡ get_or l (n - 1) 0 → ltb x key ≡ ends_below l key n
  unfolding ends_below
  below-some f x e = rw (ne_eqb n 0 f, e)
