-- Laws of a list at the front of a buffer.
use Rattle.std.specs.Prelude.{ℕ, zero, suc, ◌+◌, ◌-◌, ◌<◌, ◌≤◌, ◌≡◌, refl, Bool, true, false, cond, ◌||◌, ltb, eqb}
use Rattle.std.proofs.Common.{ap, sym, subst, ◌∙◌, ⊎_elim, add-one, arith, add-zero, suc-add, zero-add, drop-cons, take-suc, length-take-le, take_at, drop_at, drop-drop, take-take, get_or-take, lt-ltb, le-ltb}
use Rattle.std.proofs.Math.Bool.{or-true}
use mathlib.Core.List.{List, [], ◌∷◌, ◌++◌, append-nil, Memᴰ}
use lib.ListN.{length, get_or, take, drop, set, length-append, length-drop, take-append-drop}
use Rattle.std.proofs.lemmas.List.Edits.{sets, sets-eq}
use Rattle.std.proofs.Math.Seq.{length-sets, append_snoc, drop-append-add, drop-length}
use Rattle.std.proofs.lemmas.List.{set_at, get_or_at}
use borrow.Rule.Slice.PartMut.{mid_of, put_mid}
use Rattle.order.specs.Order.{upto, keep, over}
use Rattle.order.specs.Rising.{insert}
use Rattle.order.specs.Buffer.{rank, Ranked, Put, put_in}
use Rattle.order.specs.Order.{Wrote}
use Rattle.order.specs.TestLaws.{lt-or-le, lt-or-eq-or-gt}
use Rattle.order.specs.KeepLaws.{keep→, keep_all, keep-full, length-span}
use Rattle.order.specs.RisingLaws.{insert-below, insert-there, insert-above, insert-length, insert-keep}

-- ---- an answer over a buffer

pub length_over : (l b : List ℕ) → length l ≤ length b → length (over l b) ≡ length b
length_over l b h = length-append l (drop (length l) b) ∙ rw (length-drop (length l) b) (omega arith)

pub take-over : (l b : List ℕ) → take (length l) (over l b) ≡ l
take-over l b = take_at l (drop (length l) b) (length l) refl

pub drop-over : (l b : List ℕ) → drop (length l) (over l b) ≡ drop (length l) b
drop-over l b = drop_at l (drop (length l) b) (length l) refl

-- a longer answer hides a shorter one
pub over-over : (l m b : List ℕ) → length m ≤ length l → over l (over m b) ≡ over l b
over-over l m b h =
    let e : length m + (length l - length m) ≡ length l = omega arith in
    ap (λ (t : List ℕ). l ++ t)
    (ap (λ (n : ℕ). drop n (over m b)) (sym e) ∙ drop-append-add m (drop (length m) b) (length l - length m) ∙ drop-drop (length l - length m) (length m) b ∙ ap (λ (n : ℕ). drop n b) e)

sets-append : (b : List ℕ) (i : ℕ) (l m : List ℕ) → sets b i (l ++ m) ≡ sets (sets b i l) (i + length l) m
sets-append b i [] m = ap (λ (n : ℕ). sets b n m) (sym (add-zero i))
sets-append b i (x ∷ l) m = sets-append (set b i x) (suc i) l m ∙ ap (λ (n : ℕ). sets (sets (set b i x) (suc i) l) n m) (omega arith)

sets_over : (b l : List ℕ) → length l ≤ length b → sets b 0 l ≡ over l b
sets_over b l h = sets-eq l b 0 (omega arith) ∙ ap (λ (n : ℕ). l ++ drop n b) (zero-add (length l))

pub wrote_none : (b : List ℕ) (at : ℕ) → Wrote b b at at []
wrote_none b at = record { stored = refl; next = sym (add-zero at) }

pub wrote-more : {b c d l m : List ℕ} {at r t : ℕ} → Wrote b c at r l → Wrote c d r t m → Wrote b d at t (l ++ m)
wrote-more {b} {c} {d} {l} {m} {at} {r} {t} v w =
    record { stored = w.stored ∙ rw (v.stored, v.next) (sym (sets-append b at l m)); next = w.next ∙ rw (v.next, length-append l m) (omega arith) }

pub wrote-length : {b c l : List ℕ} {at r : ℕ} → Wrote b c at r l → length c ≡ length b
wrote-length {b} {c} {l} {at} w = ap length w.stored ∙ length-sets b at l

-- a list that fits, written from the start on
pub wrote-over : {b c l : List ℕ} {r : ℕ} → Wrote b c 0 r l → length l ≤ length b → c ≡ over l b
wrote-over {b} {c} {l} w h = w.stored ∙ sets_over b l h

-- how many a lent front has
pub count-front : (n : ℕ) (b : List ℕ) → n ≤ length b → n ≡ length (take n b)
count-front n b h = sym (length-take-le n b h)

-- ---- rank

pub rank-stop : (x : ℕ) (l : List ℕ) (i : ℕ) → i < length l → x ≤ get_or l i 0 → rank x (drop i l) ≡ 0
unfolding rank
rank-stop x l i h g = rw (drop-cons l i 0 h, le-ltb (get_or l i 0) x g)

pub rank-go : (x : ℕ) (l : List ℕ) (i : ℕ) → i < length l → get_or l i 0 < x → rank x (drop i l) ≡ suc (rank x (drop (suc i) l))
unfolding rank
rank-go x l i h g = rw (drop-cons l i 0 h, lt-ltb (get_or l i 0) x g)

pub rank-end : (x : ℕ) (l : List ℕ) (i : ℕ) → length l ≤ i → rank x (drop i l) ≡ 0
unfolding rank
rank-end x l i h = rw (drop_all l i h)
  where
    drop_all : (m : List ℕ) (j : ℕ) → length m ≤ j → drop j m ≡ []
    drop_all m j g = lib.ListN.drop_of_length-le m g

pub rank-le : (x : ℕ) (l : List ℕ) → rank x l ≤ length l
unfolding rank
rank-le x [] = omega arith
rank-le x (y ∷ ys) = go (ltb y x) (rank-le x ys)
  where
    go : (t : Bool) → rank x ys ≤ length ys → cond t (suc (rank x ys)) 0 ≤ suc (length ys)
    go true h = omega arith
    go false h = omega arith

-- x stands at its rank: it is there already
insert-found : (x : ℕ) (l : List ℕ) → rank x l < length l → get_or l (rank x l) 0 ≡ x → insert x l ≡ l
unfolding rank
insert-found x [] h e = absurd (omega arith)
insert-found x (y ∷ ys) h e = ⊎_elim
    (λ (b : x < y). let z : y ≡ x = rw (le-ltb y x (omega arith)) at e in absurd (omega arith))
    (⊎_elim
    (λ (b : x ≡ y). rw b (insert-there y ys))
    (λ (b : y < x). rw (insert-above x y ys b) (ap (λ (l : List ℕ). y ∷ l) (insert-found x ys (let g = rw (lt-ltb y x b) at h in omega arith) (rw (lt-ltb y x b) at e)))))
    (lt-or-eq-or-gt x y)

-- x goes in at its rank
insert-rank : (x : ℕ) (l : List ℕ) → (rank x l < length l → get_or l (rank x l) 0 ≡ x → ⊥) → insert x l ≡ take (rank x l) l ++ x ∷ drop (rank x l) l
unfolding rank insert
insert-rank x [] f = refl
insert-rank x (y ∷ ys) f = ⊎_elim
    (λ (b : x < y). rw (le-ltb y x (omega arith)) (insert-below x y ys b))
    (⊎_elim
    (λ (b : x ≡ y). absurd ((rw (le-ltb y x (omega arith)) at f) (omega arith) (sym b)))
    (λ (b : y < x). rw (lt-ltb y x b) (insert-above x y ys b ∙ ap (λ (l : List ℕ). y ∷ l) (insert-rank x ys (λ (h : rank x ys < length ys) (e : get_or ys (rank x ys) 0 ≡ x). (rw (lt-ltb y x b) at f) (omega arith) e)))))
    (lt-or-eq-or-gt x y)

-- ---- sliding a part up by one

-- a turn: the number carried goes in at i, and the one that stood there is carried on
pub slide-step : (x : ℕ) (l part : List ℕ) (i next : ℕ) → i < length l → part ≡ take i (x ∷ l) ++ drop i l → next ≡ get_or (x ∷ l) i 0 → set part i next ≡ take (i + 1) (x ∷ l) ++ drop (i + 1) l
slide-step x l part i next h e f =
    rw (e, f, add-one, drop-cons l i 0 h, set_at (take i (x ∷ l)) (get_or l i 0) (drop (suc i) l) (get_or (x ∷ l) i 0) i (length-take-le i (x ∷ l) (omega arith)))
    (sym (append_snoc (take i (x ∷ l)) (get_or (x ∷ l) i 0) (drop (suc i) l)) ∙ ap (λ (t : List ℕ). t ++ drop (suc i) l) (sym (take-suc (x ∷ l) i 0 (omega arith))))

pub slide-carry : (x : ℕ) (l part : List ℕ) (i : ℕ) → i < length l → part ≡ take i (x ∷ l) ++ drop i l → get_or part i 0 ≡ get_or (x ∷ l) (i + 1) 0
slide-carry x l part i h e = rw (e, add-one, drop-cons l i 0 h) (get_or_at (take i (x ∷ l)) (get_or l i 0) (drop (suc i) l) 0 i (length-take-le i (x ∷ l) (omega arith)))

pub slide-end : (x : ℕ) (l part : List ℕ) (i : ℕ) → part ≡ take i (x ∷ l) ++ drop i l → i ≤ length l → length l ≤ i → part ≡ take (length l) (x ∷ l)
slide-end x l part i e h g = let q : i ≡ length l = omega arith in e ∙ rw (q, drop-length l) (append-nil (take (length l) (x ∷ l)))

-- x between the first numbers and the m after them
put-between : (x : ℕ) (b : List ℕ) (at m : ℕ) → at + m < length b → take at b ++ ((x ∷ take m (drop at b)) ++ drop (suc m) (drop at b)) ≡ over (take at (take (at + m) b) ++ x ∷ drop at (take (at + m) b)) b
put-between x b zero m h =
    subst (λ (k : ℕ). (x ∷ take m b) ++ drop (suc m) b ≡ over (x ∷ take k b) b) (sym (zero-add m))
    (ap (λ (k : ℕ). x ∷ (take m b ++ drop (suc k) b)) (sym (length-take-le m b (omega arith))))
put-between x [] (suc a) m h = absurd (omega arith)
put-between x (y ∷ b) (suc a) m h = rw suc-add (ap (λ (l : List ℕ). y ∷ l) (put-between x b a m (omega arith)))

-- sliding x in at its rank, in the part that ends one past the first n, puts it among them
put-slide : (x : ℕ) (b ys : List ℕ) (n at : ℕ) → n < length b → at ≤ n → ys ≡ take (length (mid_of at (n + 1 - at) b)) (x ∷ mid_of at (n + 1 - at) b) → put_mid at (n + 1 - at) b ys ≡ over (take at (take n b) ++ x ∷ drop at (take n b)) b
put-slide x b ys n at h g e =
    let k : n + 1 - at ≡ suc (n - at) = omega arith in
    let m : at + (n - at) ≡ n = omega arith in
    let l : length (take (suc (n - at)) (drop at b)) ≡ suc (n - at) = length-take-le (suc (n - at)) (drop at b) (omega (arith, length-drop at b)) in
    let q : ys ≡ x ∷ take (n - at) (drop at b) = e ∙ rw (k, l) (ap (λ (t : List ℕ). x ∷ t) (take-take (n - at) (suc (n - at)) (drop at b) (omega arith))) in
    rw (q, k) (rw m at (put-between x b at (n - at) (omega arith)))

-- the three ways in which a number is put: no room, there already, slid in
module _ (b : List ℕ) (n x : ℕ) (small : n ≤ length b) where
  shown : length (take n b) ≡ n
  shown = length-take-le n b small

  pub put_full : n ≡ length b → Put b b n x n
  put_full e =
      let f = le-ltb (length (take n b)) (length b) (omega (arith, shown)) in
      record { written = rw (f, shown) (sym (take-append-drop n b)); count = rw f (sym shown) }

  module _ (at : ℕ) (ranked : Ranked x (take n b) at) where
    pub rank-within : at ≤ n
    rank-within = omega (arith, ranked.within, shown)

    pub put-there : n < length b → at < n → get_or b at 0 ≡ x → Put b b n x n
    put-there room h e =
        let f = lt-ltb (length (take n b)) (length b) (omega (arith, shown)) in
        let r : rank x (take n b) ≡ at = sym ranked.is in
        let i : insert x (take n b) ≡ take n b = insert-found x (take n b) (omega (arith, shown)) (rw r (get_or-take n b at 0 h ∙ e)) in
        record { written = rw (f, i, shown) (sym (take-append-drop n b)); count = rw (f, i) (sym shown) }

    pub put-new : n < length b → (at < n → get_or b at 0 ≡ x → ⊥) → (ys : List ℕ) → ys ≡ take (length (mid_of at (n + 1 - at) b)) (x ∷ mid_of at (n + 1 - at) b) → Put b (put_mid at (n + 1 - at) b ys) n x (n + 1)
    put-new room g ys e =
        let f = lt-ltb (length (take n b)) (length b) (omega (arith, shown)) in
        let r : rank x (take n b) ≡ at = sym ranked.is in
        let i : insert x (take n b) ≡ take at (take n b) ++ x ∷ drop at (take n b) = rw r at (insert-rank x (take n b) (rw r (λ (h : at < length (take n b)) (q : get_or (take n b) at 0 ≡ x). g (omega (arith, shown)) (sym (get_or-take n b at 0 (omega (arith, shown))) ∙ q)))) in
        let w = put-slide x b ys n at room rank-within e in
        record { written = rw (f, i) w; count = rw (f, i, length-append (take at (take n b)) (x ∷ drop at (take n b))) (omega (arith, ap length (take-append-drop at (take n b)), length-append (take at (take n b)) (drop at (take n b)), shown)) }

-- ---- numbers put one by one

pub put-length : (room x : ℕ) (l : List ℕ) → length l ≤ room → (length l ≤ length (put_in room x l)) × (length (put_in room x l) ≤ room)
put-length room x l h = ⊎_elim
    (λ (g : length l < room). let i = insert-length x l in rw (lt-ltb (length l) room g) (omega arith, omega arith))
    (λ (g : room ≤ length l). rw (le-ltb (length l) room g) (omega arith, h))
    (lt-or-le (length l) room)

-- there is room for a number below Z that is not there
pub put-keep : (room Z x : ℕ) (f : ℕ → Bool) → Z ≤ room → x < Z → put_in room x (keep f (upto Z)) ≡ keep (λ (z : ℕ). eqb z x || f z) (upto Z)
put-keep room Z x f h g = ⊎_elim
    (λ (l : length (keep f (upto Z)) < room). rw (lt-ltb (length (keep f (upto Z))) room l) (insert-keep f Z x g))
    (λ (l : room ≤ length (keep f (upto Z))).
    let e : keep f (upto Z) ≡ upto Z = keep-full f (upto Z) (omega (arith, length-span 0 Z)) in
    rw (le-ltb (length (keep f (upto Z))) room l) (e ∙ sym (keep_all (λ (z : ℕ). eqb z x || f z) (upto Z) (λ z m. ap (λ (t : Bool). eqb z x || t) (keep→ f (upto Z) z (subst (λ (k : List ℕ). Memᴰ z k) (sym e) m)).1 ∙ or-true (eqb z x)))))
    (lt-or-le (length (keep f (upto Z))) room)

-- the buffer was b and is b': its first n numbers are l, the rest is b's
pub record Front (b b' : List ℕ) (n : ℕ) (l : List ℕ) : Type 0 where
  pub written : b' ≡ over l b
  pub count : n ≡ length l
  pub within : length l ≤ length b

pub front-none : (b : List ℕ) → Front b b 0 []
front-none b = record { written = refl; count = refl; within = omega arith }

pub front-taken : (n : ℕ) (b : List ℕ) → n ≤ length b → Front b b n (take n b)
front-taken n b h =
    let e = length-take-le n b h in
    record { written = sym (ap (λ (m : ℕ). take n b ++ drop m b) e ∙ take-append-drop n b); count = sym e; within = omega arith }

module _ {b b' : List ℕ} {n : ℕ} {l : List ℕ} (f : Front b b' n l) where
  pub front_length : length b' ≡ length b
  front_length = ap length f.written ∙ length_over l b f.within

  pub front-within : n ≤ length b'
  front-within = omega (arith, f.count, f.within, front_length)

  pub front-shown : take n b' ≡ l
  front-shown = rw (f.written, f.count) (take-over l b)

  -- a number more
  pub front-put : {b'' : List ℕ} {x r : ℕ} → Put b' b'' n x r → Front b b'' r (put_in (length b) x l)
  front-put {x = x} u =
      let a = put-length (length b) x l f.within in
      record { written = u.written ∙ rw (front-shown, front_length, f.written) (over-over (put_in (length b) x l) l b a.0); count = u.count ∙ rw (front-shown, front_length); within = a.1 }
