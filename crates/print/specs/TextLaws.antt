-- Laws of the text of an answer: its digits, its lists, and that no answer is long.
use Rattle.std.specs.Prelude.{ℕ, zero, suc, ◌+◌, ◌-◌, ◌*◌, ◌/◌, ◌%◌, ◌^◌, ◌<◌, ◌≤◌, ◌≡◌, refl, List, [], ◌∷◌, ◌++◌, length, get_or, take, drop}
use Rattle.std.proofs.Common.{ap, sym, subst, ◌∙◌, ⊎_elim, append_assoc, append-nil, arith, add-one, pow-suc, zero-add, length-append, take_all, take-suc, lt-ltb, le-ltb}
use Rattle.order.specs.TestLaws.{lt-or-le}
use Rattle.order.specs.Order.{over}
use Rattle.order.specs.BufferLaws.{wrote_none, wrote-more, wrote-over, wrote-length, take-over}
use Rattle.print.specs.Leaves.{Puts}
use Rattle.print.specs.Text.{digits, text, followed, listed, Part, part_text, parts, answer, Answers}

-- ---- digits

pub digits-one : (k n : ℕ) → n < 10 → digits (suc k) n ≡ (48 + n) ∷ []
unfolding digits
digits-one k n h = rw (lt-ltb n 10 h)

pub digits_more : (k n : ℕ) → 10 ≤ n → digits (suc k) n ≡ digits k (n / 10) ++ ((48 + n % 10) ∷ [])
unfolding digits
digits_more k n h = rw (le-ltb n 10 h)

pub tenth : (k n : ℕ) → n < 10 ^ suc k → n / 10 < 10 ^ k
tenth k n h = omega (arith, pow-suc 10 k)

-- room for more digits changes nothing
digits-enough : (k n : ℕ) → n < 10 ^ suc k → digits (suc (suc k)) n ≡ digits (suc k) n
digits-enough zero n h = let g : n < 10 = omega arith in digits-one 1 n g ∙ sym (digits-one 0 n g)
digits-enough (suc k) n h = ⊎_elim
    (λ (g : n < 10). digits-one (suc (suc k)) n g ∙ sym (digits-one (suc k) n g))
    (λ (g : 10 ≤ n). digits_more (suc (suc k)) n g ∙ ap (λ (l : List ℕ). l ++ ((48 + n % 10) ∷ [])) (digits-enough k (n / 10) (tenth (suc k) n h)) ∙ sym (digits_more (suc k) n g))
    (lt-or-le n 10)

digits-length : (k n : ℕ) → length (digits k n) ≤ k
unfolding digits
digits-length zero n = omega arith
digits-length (suc k) n = ⊎_elim
    (λ (g : n < 10). rw (lt-ltb n 10 g) (omega arith))
    (λ (g : 10 ≤ n). rw (le-ltb n 10 g, length-append (digits k (n / 10)) ((48 + n % 10) ∷ [])) (let h = digits-length k (n / 10) in omega arith))
    (lt-or-le n 10)

-- ---- a number's text

pub text-one : (n : ℕ) → n < 10 → text n ≡ (48 + n) ∷ []
text-one n h = digits-one 9 n h

text-more : (n : ℕ) → n < 4294967296 → 10 ≤ n → text n ≡ text (n / 10) ++ ((48 + n % 10) ∷ [])
text-more n h g = digits_more 9 n g ∙ ap (λ (l : List ℕ). l ++ ((48 + n % 10) ∷ [])) (sym (digits-enough 8 (n / 10) (omega arith)))

pub text-length : (n : ℕ) → length (text n) ≤ 10
text-length n = digits-length 10 n

-- ---- a list's text

followed-length : (l : List ℕ) → length (followed l) ≤ 11 * length l
unfolding followed
followed-length [] = omega arith
followed-length (n ∷ l) = rw (length-append (text n) (followed l)) (let h = followed-length l in omega (arith, text-length n))

listed-length : (l : List ℕ) → length (listed l) ≤ 1 + 11 * length l
unfolding listed
listed-length [] = omega arith
listed-length (n ∷ l) = rw (length-append (text n) (followed l)) (omega (arith, text-length n, followed-length l))

followed-snoc : (l : List ℕ) (x : ℕ) → followed (l ++ (x ∷ [])) ≡ followed l ++ (44 ∷ text x)
unfolding followed
followed-snoc [] x = ap (λ (t : List ℕ). 44 ∷ t) (append-nil (text x))
followed-snoc (n ∷ l) x = ap (λ (t : List ℕ). 44 ∷ t) (ap (λ (t : List ℕ). text n ++ t) (followed-snoc l x) ∙ sym (append_assoc (text n) (followed l) (44 ∷ text x)))

listed-none : (l : List ℕ) → length l ≡ 0 → 45 ∷ [] ≡ listed l
unfolding listed
listed-none [] h = refl
listed-none (n ∷ l) h = absurd (omega arith)

-- ---- text put into a buffer

pub puts-room : {b b' t : List ℕ} {at r m : ℕ} → Puts b b' at r t m → length b' ≡ length b
puts-room p = wrote-length p.wrote

pub puts-more : {b c d t u : List ℕ} {at r s m n : ℕ} → Puts b c at r t m → Puts c d r s u n → Puts b d at s (t ++ u) (m + n)
puts-more p q = record { wrote = wrote-more p.wrote q.wrote; most = omega (arith, p.most, q.most) }

-- the same text, and another bound
puts-as : {b c t u : List ℕ} {at r m : ℕ} (n : ℕ) → Puts b c at r t m → t ≡ u → length u ≤ n → Puts b c at r u n
puts-as n p e h = record { wrote = rw (sym e) p.wrote; most = omega (arith, p.wrote.next, ap length e, h) }

pub puts_none : {b c : List ℕ} {at r : ℕ} (l : List ℕ) → length l ≡ 0 → Puts b c at r (45 ∷ []) 1 → Puts b c at r (listed l) (1 + 11 * length l)
puts_none l h p = puts-as (1 + 11 * length l) p (listed-none l h) (listed-length l)

-- a number's text: one digit, or its last one after the text of the others
pub text-last : {b c : List ℕ} {at r n : ℕ} → n < 10 → Puts b c at r ((48 + n) ∷ []) 1 → Puts b c at r (text n) 10
text-last {n = n} h p = puts-as 10 p (sym (text-one n h)) (text-length n)

pub text-next : {b c d : List ℕ} {at r s n : ℕ} → n < 4294967296 → 10 ≤ n → Puts b c at r (text (n / 10)) 10 → Puts c d r s ((48 + n % 10) ∷ []) 1 → Puts b d at s (text n) 10
text-next {n = n} h g p q = puts-as 10 (puts-more p q) (sym (text-more n h g)) (text-length n)

-- i members are put
pub record Follows (b b' : List ℕ) (at r : ℕ) (l : List ℕ) (i : ℕ) : Type 0 where
  pub puts : Puts b b' at r (followed (take i l)) (11 * i)
  pub within : i ≤ length l

pub follow-begins : (b : List ℕ) (at : ℕ) (l : List ℕ) → Follows b b at at l 0
unfolding followed
follow-begins b at l = record { puts = record { wrote = wrote_none b at; most = omega arith }; within = omega arith }

module _ {b c : List ℕ} {at r : ℕ} {l : List ℕ} {i : ℕ} (s : Follows b c at r l i) where
  pub follow-turns : {d : List ℕ} {t : ℕ} → i < length l → Puts c d r t (44 ∷ text (get_or l i 0)) 11 → Follows b d at t l (i + 1)
  follow-turns {d} {t} h p =
      let e : followed (take (suc i) l) ≡ followed (take i l) ++ (44 ∷ text (get_or l i 0)) = ap followed (take-suc l i 0 h) ∙ followed-snoc (take i l) (get_or l i 0) in
      let q = puts-more s.puts p in
      record { puts = record { wrote = rw (add-one i, e) q.wrote; most = omega (arith, q.most) }; within = omega arith }

  pub follow-ends : length l ≤ i → Puts b c at r (followed l) (11 * length l)
  follow-ends h = puts-as (11 * length l) s.puts (ap followed (take_all i l h)) (followed-length l)

-- the first member and the others
pub puts-list : {b c d : List ℕ} {at r s m : ℕ} (l : List ℕ) → 0 < length l → Puts b c at r (text (get_or l 0 0)) 10 → Puts c d r s (followed (take (length l - 1) (drop 1 l))) m → Puts b d at s (listed l) (1 + 11 * length l)
unfolding listed
puts-list l h p q = puts-as (1 + 11 * length l) (puts-more p q) (whole l h) (listed-length l)
  where
    whole : (k : List ℕ) → 0 < length k → text (get_or k 0 0) ++ followed (take (length k - 1) (drop 1 k)) ≡ listed k
    whole [] g = absurd (omega arith)
    whole (n ∷ k) g = ap (λ (t : List ℕ). text n ++ followed t) (take_all (suc (length k) - 1) k (omega arith))

-- ---- answers

parts_more : (ps : List Part) (p : Part) → parts ps ++ (9 ∷ part_text p) ≡ parts (ps ++ (p ∷ []))
parts_more [] p = ap (λ (t : List ℕ). 9 ∷ t) (sym (append-nil (part_text p)))
parts_more (q ∷ ps) p = ap (λ (t : List ℕ). 9 ∷ t) (append_assoc (part_text q) (parts ps) (9 ∷ part_text p) ∙ ap (λ (t : List ℕ). part_text q ++ t) (parts_more ps p))

-- a field more
pub answer-more : {b c d : List ℕ} {r s letter m n : ℕ} (ps : List Part) (p : Part) → Puts b c 0 r (letter ∷ parts ps) m → Puts c d r s (9 ∷ part_text p) n → Puts b d 0 s (letter ∷ parts (ps ++ (p ∷ []))) (m + n)
answer-more {letter = letter} ps p u v = let w = puts-more u v in record { wrote = rw (sym (parts_more ps p)) w.wrote; most = w.most }

pub answer-ends : {b c d : List ℕ} {r s letter m : ℕ} (ps : List Part) → Puts b c 0 r (letter ∷ parts ps) m → Puts c d r s (10 ∷ []) 1 → m ≤ 767 → Answers b d s (answer letter ps)
answer-ends ps u v h = let w = puts-more u v in record { wrote = w.wrote; most = omega (arith, w.most) }

-- a buffer of 768 bytes holds any answer whole
pub answer-whole : {b b' t : List ℕ} {r : ℕ} → Answers b b' r t → 768 ≤ length b → (b' ≡ over t b) × (take r b' ≡ t)
answer-whole {b} {b'} {t} {r} a h =
    let n : r ≡ length t = a.wrote.next ∙ zero-add (length t) in
    let e : b' ≡ over t b = wrote-over a.wrote (omega (arith, a.most)) in
    (e, rw (n, e) (take-over t b))

-- the fields may be said another way
pub answers-as : {b b' : List ℕ} {n letter : ℕ} {parts other : List Part} → Answers b b' n (answer letter parts) → other ≡ parts → Answers b b' n (answer letter other)
answers-as {b} {b'} {n} {letter} w e = subst (λ (ps : List Part). Answers b b' n (answer letter ps)) (sym e) w
