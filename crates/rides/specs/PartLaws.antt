-- Laws of two rising lists parted: from the lower of their next numbers to the next.
use Rattle.std.specs.Prelude.{ℕ, zero, suc, ◌+◌, ◌<◌, ◌≤◌, ◌≡◌, refl, Bool, true, false, not, length, get_or, take, drop, set}
use Rattle.std.proofs.Common.{ap, sym, ◌∙◌, ⊎_elim, arith, add-one, length-set, length-drop, drop_of_length-le, drop-cons, length-take-le, get_or-take, get_or-drop, get_or-set_other, take-suc-set, drop-set-lt, eq-eqb, ne_eqb}
use mathlib.Core.List.Memᴰ
use mathlib.Core.List.{List, [], ◌∷◌, ◌++◌, append-nil, Memᴰ}
use Rattle.std.proofs.Math.Seq.{append_snoc}
use Rattle.std.proofs.lemmas.List.{take-set-le, drop-set-add}
use Rattle.order.specs.Order.{keep, has, lacks}
use Rattle.order.specs.Rising.{Rising, more}
use Rattle.order.specs.Buffer.{Lower}
use Rattle.order.specs.TestLaws.{lt-or-le}
use Rattle.order.specs.KeepLaws.{keep-yes, keep-no, keep-ext}
use Rattle.rides.specs.Part.{Parted}

-- ---- what a list has

has-head : (x : ℕ) (l : List ℕ) → has (x ∷ l) x ≡ true
unfolding has
has-head x l = rw (eq-eqb x x refl)

has-later : (x y : ℕ) (l : List ℕ) → x < y → has (x ∷ l) y ≡ has l y
unfolding has
has-later x y l h = rw (ne_eqb x y (λ (e : x ≡ y). omega arith))

has-none : (x : ℕ) (l : List ℕ) → ((y : ℕ) → Memᴰ y l → x < y) → has l x ≡ false
unfolding has
has-none x [] h = refl
has-none x (y ∷ l) h = rw (ne_eqb y x (λ (e : y ≡ x). omega (arith, h y (Memᴰ.head refl)))) (has-none x l (λ z m. h z (Memᴰ.tail m)))

-- a number below all of the other list is left, and the other list lacks what it lacked
lacks-kept : (x : ℕ) (a b : List ℕ) → ((y : ℕ) → Memᴰ y b → x < y) → lacks b (x ∷ a) ≡ x ∷ lacks b a
lacks-kept x a b h = keep-yes (λ (y : ℕ). not (has b y)) x a (ap not (has-none x b h))

lacks-passed : (x : ℕ) (a b : List ℕ) → ((y : ℕ) → Memᴰ y b → x < y) → lacks (x ∷ a) b ≡ lacks a b
lacks-passed x a b h = keep-ext (λ (y : ℕ). not (has (x ∷ a) y)) (λ (y : ℕ). not (has a y)) b (λ y m. ap not (has-later x y a (h y m)))

-- a number of both goes
lacks_both : (x : ℕ) (a b : List ℕ) → ((y : ℕ) → Memᴰ y a → x < y) → lacks (x ∷ b) (x ∷ a) ≡ lacks b a
lacks_both x a b h = keep-no (λ (y : ℕ). not (has (x ∷ b) y)) x a (ap not (has-head x b)) ∙ lacks-passed x b a h

lacks-nil : (b : List ℕ) → lacks b [] ≡ []
unfolding keep
lacks-nil b = refl

-- ---- rising lists from a place on

later-above : (l : List ℕ) (i : ℕ) → Rising l → (y : ℕ) → Memᴰ y (drop (suc i) l) → get_or l i 0 < y
later-above [] i r y m = absurd (Memᴰ.not-nil m)
later-above (x ∷ l) zero (more h r) y m = h y m
later-above (x ∷ l) (suc i) (more h r) y m = later-above l i r y m

rest-above : (x : ℕ) (l : List ℕ) (j : ℕ) → Rising l → (j < length l → x < get_or l j 0) → (y : ℕ) → Memᴰ y (drop j l) → x < y
rest-above x l j r h y m = ⊎_elim
    (λ (g : j < length l). ⊎_elim
    (λ (e : y ≡ get_or l j 0). omega (arith, h g))
    (λ (n : Memᴰ y (drop (suc j) l)). omega (arith, h g, later-above l j r y n))
    (Memᴰ.cases_cons (rw (drop-cons l j 0 g) at m)))
    (λ (g : length l ≤ j). absurd (Memᴰ.not-nil (rw (drop_of_length-le l g) at m)))
    (lt-or-le j (length l))

-- ---- what is left

-- of a the first i numbers are passed and of b the first j: p is what of a is kept so far
pub record Left (a b : List ℕ) (i j : ℕ) (p : List ℕ) : Type 0 where
  pub is : Rising a → Rising b → lacks b a ≡ p ++ lacks (drop j b) (drop i a)

module _ {a b : List ℕ} {i j : ℕ} {p : List ℕ} (k : Left a b i j p) where
  left-kept : i < length a → (j < length b → get_or a i 0 < get_or b j 0) → Left a b (i + 1) j (p ++ (get_or a i 0 ∷ []))
  left-kept h g = record { is = λ r s. k.is r s ∙ ap (λ (l : List ℕ). p ++ l) (go s) ∙ sym (append_snoc p (get_or a i 0) (lacks (drop j b) (drop (i + 1) a))) }
    where
      go : Rising b → lacks (drop j b) (drop i a) ≡ get_or a i 0 ∷ lacks (drop j b) (drop (i + 1) a)
      go s = rw (drop-cons a i 0 h, add-one i) (lacks-kept (get_or a i 0) (drop (suc i) a) (drop j b) (rest-above (get_or a i 0) b j s g))

  left_passed : j < length b → (i < length a → get_or b j 0 < get_or a i 0) → Left a b i (j + 1) p
  left_passed h g = record { is = λ r s. k.is r s ∙ ap (λ (l : List ℕ). p ++ l) (go r) }
    where
      go : Rising a → lacks (drop j b) (drop i a) ≡ lacks (drop (j + 1) b) (drop i a)
      go r = rw (drop-cons b j 0 h, add-one j) (lacks-passed (get_or b j 0) (drop (suc j) b) (drop i a) (rest-above (get_or b j 0) a i r g))

  left_both : i < length a → j < length b → get_or a i 0 ≡ get_or b j 0 → Left a b (i + 1) (j + 1) p
  left_both h g e = record { is = λ r s. k.is r s ∙ ap (λ (l : List ℕ). p ++ l) (go r) }
    where
      go : Rising a → lacks (drop j b) (drop i a) ≡ lacks (drop (j + 1) b) (drop (i + 1) a)
      go r = rw (drop-cons b j 0 g, drop-cons a i 0 h, ← e, add-one i, add-one j) (lacks_both (get_or a i 0) (drop (suc i) a) (drop (suc j) b) (later-above a i r))

  left-ends : length a ≤ i → Rising a → Rising b → p ≡ lacks b a
  left-ends h r s = sym (k.is r s ∙ rw (drop_of_length-le a h, lacks-nil (drop j b)) (append-nil p))

left-begins : (a b : List ℕ) → Left a b 0 0 []
left-begins a b = record { is = λ r s. refl }

-- ---- in one buffer

-- b was the buffer and l is it: i and j numbers of its two lists are passed, of which g and k are kept
pub record Parting (b l : List ℕ) (n m i j g k : ℕ) : Type 0 where
  pub gone : Left (take n b) (take m (drop n b)) i j (take g l)
  pub come : Left (take m (drop n b)) (take n b) j i (take k (drop n l))
  pub first : (q : ℕ) → i ≤ q → q < n → get_or l q 0 ≡ get_or b q 0
  pub second : (q : ℕ) → n + j ≤ q → get_or l q 0 ≡ get_or b q 0
  pub long : length l ≡ length b
  pub within : i ≤ n
  pub within2 : j ≤ m
  pub fewer : g ≤ i
  pub fewer2 : k ≤ j

module _ (b : List ℕ) (n m : ℕ) (w : n + m ≤ length b) where
  pub part-begins : Parting b b n m 0 0 0 0
  part-begins = record {
    gone = left-begins (take n b) (take m (drop n b));
    come = left-begins (take m (drop n b)) (take n b);
    first = λ q a e. refl;
    second = λ q a. refl;
    long = refl;
    within = omega arith;
    within2 = omega arith;
    fewer = omega arith;
    fewer2 = omega arith;
  }

  many : length (take n b) ≡ n
  many = length-take-le n b (omega arith)

  many2 : length (take m (drop n b)) ≡ m
  many2 = length-take-le m (drop n b) (omega (arith, length-drop n b))

  module _ {l : List ℕ} {i j g k : ℕ} (p : Parting b l n m i j g k) where
    key : i < n → get_or (take n b) i 0 ≡ get_or l i 0
    key h = get_or-take n b i 0 h ∙ sym (p.first i (omega arith) h)

    key2 : n + j < n + m → get_or (take m (drop n b)) j 0 ≡ get_or l (n + j) 0
    key2 h = get_or-take m (drop n b) j 0 (omega arith) ∙ get_or-drop n b j 0 ∙ sym (p.second (n + j) (omega arith))

    -- the first list's next number is the lower one
    pub part-first : {t : Bool} → Lower l i n (n + j) (n + m) t → t ≡ true → Parting b (set l g (get_or l i 0)) n m (i + 1) j (g + 1) k
    part-first u e =
        let a = u.yes e in
        let x : get_or (take n b) i 0 ≡ get_or l i 0 = key a.0 in
        let low : n + j < n + m → get_or l i 0 < get_or (take m (drop n b)) j 0 = λ (h : n + j < n + m). omega (arith, a.1 h, key2 h) in
        record {
          gone = rw (add-one g, take-suc-set l g (get_or l i 0) (omega (arith, p.long, p.fewer))) (rw x at (left-kept p.gone (omega (arith, many)) (λ (h : j < length (take m (drop n b))). omega (arith, low (omega (arith, many2))))));
          come = rw (drop-set-lt n l g (get_or l i 0) (omega (arith, p.fewer))) (left_passed p.come (omega (arith, many)) (λ (h : j < length (take m (drop n b))). omega (arith, low (omega (arith, many2)))));
          first = λ (q : ℕ) (h : i + 1 ≤ q) (o : q < n). get_or-set_other l g q (get_or l i 0) 0 (λ (z : q ≡ g). omega (arith, p.fewer)) ∙ p.first q (omega arith) o;
          second = λ (q : ℕ) (h : n + j ≤ q). get_or-set_other l g q (get_or l i 0) 0 (λ (z : q ≡ g). omega (arith, p.fewer)) ∙ p.second q h;
          long = length-set l g (get_or l i 0) ∙ p.long;
          within = omega arith;
          within2 = p.within2;
          fewer = omega (arith, p.fewer);
          fewer2 = p.fewer2;
        }

    -- the second list's is
    pub part-second : {t : Bool} → Lower l (n + j) (n + m) i n t → t ≡ true → Parting b (set l (n + k) (get_or l (n + j) 0)) n m i (j + 1) g (k + 1)
    part-second u e =
        let a = u.yes e in
        let v = get_or l (n + j) 0 in
        let x : get_or (take m (drop n b)) j 0 ≡ v = key2 a.0 in
        let low : i < n → v < get_or (take n b) i 0 = λ (h : i < n). omega (arith, a.1 h, key h) in
        record {
          gone = rw (take-set-le g l (n + k) v (omega (arith, p.fewer, p.within))) (left_passed p.gone (omega (arith, many2)) (λ (h : i < length (take n b)). omega (arith, low (omega (arith, many)))));
          come = rw (drop-set-add n l k v, add-one k, take-suc-set (drop n l) k v (omega (arith, length-drop n l, p.long, p.fewer2))) (rw x at (left-kept p.come (omega (arith, many2)) (λ (h : i < length (take n b)). omega (arith, low (omega (arith, many))))));
          first = λ (q : ℕ) (h : i ≤ q) (o : q < n). get_or-set_other l (n + k) q v 0 (λ (z : q ≡ n + k). omega arith) ∙ p.first q h o;
          second = λ (q : ℕ) (h : n + (j + 1) ≤ q). get_or-set_other l (n + k) q v 0 (λ (z : q ≡ n + k). omega (arith, p.fewer2)) ∙ p.second q (omega arith);
          long = length-set l (n + k) v ∙ p.long;
          within = p.within;
          within2 = omega arith;
          fewer = p.fewer;
          fewer2 = omega (arith, p.fewer2);
        }

    -- neither is: both lists have the number
    pub part-both : {t t' : Bool} → i + j < n + m → Lower l i n (n + j) (n + m) t → t ≡ false → Lower l (n + j) (n + m) i n t' → t' ≡ false → Parting b l n m (i + 1) (j + 1) g k
    part-both c u e u' e' =
        let h : i < n = ⊎_elim (λ (o : i < n). o) (λ (o : n ≤ i). (u'.no e' (omega arith)).0) (lt-or-le i n) in
        let o : n + j < n + m = (u.no e h).0 in
        let z : get_or (take n b) i 0 ≡ get_or (take m (drop n b)) j 0 = omega (arith, key h, key2 o, (u.no e h).1, (u'.no e' o).1) in
        record {
          gone = left_both p.gone (omega (arith, many)) (omega (arith, many2)) z;
          come = left_both p.come (omega (arith, many2)) (omega (arith, many)) (sym z);
          first = λ (q : ℕ) (d : i + 1 ≤ q) f. p.first q (omega arith) f;
          second = λ (q : ℕ) (d : n + (j + 1) ≤ q). p.second q (omega arith);
          long = p.long;
          within = omega arith;
          within2 = omega arith;
          fewer = omega (arith, p.fewer);
          fewer2 = omega (arith, p.fewer2);
        }

    pub part-ends : n + m ≤ i + j → Parted b l n m g k
    part-ends h = record {
      fewer = omega (arith, p.fewer, p.within);
      few = omega (arith, p.fewer2, p.within2);
      long = p.long;
      rest = λ (q : ℕ) (d : n + m ≤ q). p.second q (omega (arith, p.within2));
      gone-is = λ r s. left-ends p.gone (omega (arith, many, p.within2)) r s;
      come-is = λ r s. left-ends p.come (omega (arith, many2, p.within)) s r;
    }
