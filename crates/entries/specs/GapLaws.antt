-- Laws of keys taken out by ranges: how a range moves, how a key is found, how the loop begins, turns and ends.
use Rattle.std.specs.Prelude.{◌≡◌, ℕ, zero, suc, ◌+◌, ◌-◌, ◌*◌, ◌/◌, ◌<◌, ◌≤◌, Bool, true, false, not, List, [], ◌∷◌, ◌++◌, length, take, drop, set, replicate, ◌≢◌, slice_index, slice_index_or, slice_range, slice_set, refl}
use Rattle.std.proofs.Common.{ap, ap₂, sym, ◌∙◌, ⊎_elim, arith, add-one, zero-add, length-append, length-drop, take-append-drop, drop_of_length-le, length-take-le, take_all, take-suc, take-take, take-add, take_at, drop_at, drop-cons, drop-drop, get_or-append-add, get_or-drop, get_or-take, lt-ltb, le-ltb}
use mathlib.Core.List.{append_assoc, Memᴰ}
use Rattle.std.proofs.Math.ListN.{get_or-eq_default}
use Rattle.std.proofs.Math.Seq.{drop-append-add, append_snoc}
use Rattle.std.proofs.lemmas.List.{set_at}
use borrow.Rule.Slice.PartMut.{mid_of, put_mid, mid_len}
use Rattle.order.specs.Order.{keep}
use Rattle.order.specs.Rising.{Rising, none, more}
use Rattle.order.specs.Buffer.{rank, Ranked}
use Rattle.order.specs.KeepLaws.{keep→, keep_all, keep_some}
use Rattle.order.specs.TestLaws.{lt-or-le, true-or-false}
use Rattle.tables.specs.Derived.{free}
use Rattle.starts.specs.RankLaws.{replicate→}
use Rattle.entries.specs.Drops.{of_zone, of_other, own, others, Ordered}
use Rattle.entries.specs.Gaps.{slid, SlideRoom, Skips, Finds, Closes}
use Rattle.entries.specs.DropLaws.{marked}

-- ---- a range moved down

module _ (l : List ℕ) (from end by : ℕ) (h : SlideRoom from end by l) where
  -- what stands before the end once the range is moved
  abbrev front : List ℕ
  front = take (from - by) l ++ slice_range l from end

  parts : slid from end by l ≡ front ++ drop (end - by) l
  parts = sym (append_assoc (take (from - by) l) (slice_range l from end) (drop (end - by) l))

  length_front : length front ≡ end - by
  length_front = length-append (take (from - by) l) (slice_range l from end) ∙ omega (arith, h.low, h.forward, h.within, length-drop from l, length-take-le (from - by) l (omega (arith, h.forward, h.within)), length-take-le (end - from) (drop from l) (omega (arith, h.within, length-drop from l)))

  slid-front : take (end - by) (slid from end by l) ≡ front
  slid-front = ap (take (end - by)) parts ∙ take_at front (drop (end - by) l) (end - by) length_front

  -- past the range all is as it was
  slid-rest : (q : ℕ) → end - by ≤ q → drop q (slid from end by l) ≡ drop q l
  slid-rest q g =
      let d = q - (end - by) in
      let a : q ≡ length front + d = omega (arith, length_front) in
      let b : end - by + d ≡ q = omega arith in
      ap₂ drop a parts ∙ drop-append-add front (drop (end - by) l) d ∙ drop-drop d (end - by) l ∙ ap (λ (n : ℕ). drop n l) b

  length-slid : length (slid from end by l) ≡ length l
  length-slid = ap length parts ∙ length-append front (drop (end - by) l) ∙ omega (arith, length_front, length-drop (end - by) l, h.within)

  slid-next : slice_index_or (slid from end by l) end 0 ≡ slice_index l end
  slid-next =
      let a : end ≡ length front + by = omega (arith, length_front, h.low, h.forward) in
      let b : end - by + by ≡ end = omega (arith, h.low, h.forward) in
      ap₂ (λ (m : List ℕ) (n : ℕ). slice_index m n) parts a ∙ get_or-append-add front (drop (end - by) l) by 0 ∙ get_or-drop (end - by) l by 0 ∙ ap (λ (n : ℕ). slice_index l n) b

  -- the range grows by one
  slid-more : end < length l → slice_set (slid from end by l) (end - by) (slice_index (slid from end by l) end) ≡ slid from (end + 1) by l
  slid-more g =
      let x = slice_index_or l end 0 in
      let a : suc (end - from) ≡ end + 1 - from = omega (arith, h.forward) in
      let b : suc (end - by) ≡ end + 1 - by = omega (arith, h.low, h.forward) in
      let i : from + (end - from) ≡ end = omega (arith, h.forward) in
      let one : take (suc (end - from)) (drop from l) ≡ slice_range l from end ++ (x ∷ []) = take-suc (drop from l) (end - from) 0 (omega (arith, h.forward, length-drop from l)) ∙ ap (λ (n : ℕ). slice_range l from end ++ (n ∷ [])) (get_or-drop from l (end - from) 0 ∙ ap (λ (n : ℕ). slice_index l n) i) in
      ap₂ (λ (m : List ℕ) (n : ℕ). set m (end - by) n) (parts ∙ ap (λ (m : List ℕ). front ++ m) (drop-cons l (end - by) 0 (omega arith))) slid-next
      ∙ set_at front (slice_index l (end - by)) (drop (suc (end - by)) l) x (end - by) length_front
      ∙ sym (append_snoc front x (drop (suc (end - by)) l))
      ∙ ap (λ (m : List ℕ). m ++ drop (suc (end - by)) l) (append_assoc (take (from - by) l) (slice_range l from end) (x ∷ []) ∙ ap (λ (m : List ℕ). take (from - by) l ++ m) (sym one))
      ∙ append_assoc (take (from - by) l) (take (suc (end - from)) (drop from l)) (drop (suc (end - by)) l)
      ∙ ap₂ (λ (n m : ℕ). take (from - by) l ++ (take n (drop from l) ++ drop m l)) a b

-- of the range from one place up to an end the numbers up to i are moved
pub record Sliding (l l' : List ℕ) (from end by i : ℕ) : Type 0 where
  pub is : l' ≡ slid from i by l
  pub room : SlideRoom from end by l
  pub forward : from ≤ i
  pub reached : i ≤ end

pub slide-begins : (l : List ℕ) (from end by : ℕ) → SlideRoom from end by l → Sliding l l from end by from
slide-begins l from end by h =
    let e : from - from ≡ 0 = omega arith in
    record { is = sym (take-append-drop (from - by) l) ∙ ap (λ (n : ℕ). take (from - by) l ++ (take n (drop from l) ++ drop (from - by) l)) (sym e); room = h; forward = omega arith; reached = h.forward }

module _ {l l' : List ℕ} {from end by i : ℕ} (k : Sliding l l' from end by i) where
  so_far : SlideRoom from i by l
  so_far = record { low = k.room.low; forward = k.forward; within = omega (arith, k.reached, k.room.within) }

  pub slide-long : length l' ≡ length l
  slide-long = ap length k.is ∙ length-slid l from i by so_far

  pub slide-turns : i < end → Sliding l (slice_set l' (i - by) (slice_index l' i)) from end by (i + 1)
  slide-turns h = record { is = rw k.is (slid-more l from i by so_far (omega (arith, k.room.within))); room = k.room; forward = omega (arith, k.forward); reached = omega arith }

  pub slide-ends : end ≤ i → l' ≡ slid from end by l
  slide-ends h = let e : i ≡ end = omega (arith, k.reached) in rw e at k.is

-- moved by none
pub slide-still : (l : List ℕ) (from end by : ℕ) → by ≡ 0 → SlideRoom from end by l → l ≡ slid from end by l
slide-still l from end by e h =
    let a : from ≡ from - by = omega arith in
    let b : from + (end - from) ≡ end - by = omega (arith, h.forward) in
    sym (take-append-drop from l)
    ∙ ap₂ (λ (n : ℕ) (m : List ℕ). take n l ++ m) a (sym (take-append-drop (end - from) (drop from l)) ∙ ap (λ (m : List ℕ). slice_range l from end ++ m) (drop-drop (end - from) from l ∙ ap (λ (n : ℕ). drop n l) b))

-- ---- ranks

-- past numbers that are below
pub rank-past : (x : ℕ) (l : List ℕ) (i : ℕ) → i ≤ rank x l → rank x l ≡ i + rank x (drop i l)
unfolding rank
rank-past x l zero h = sym (zero-add (rank x l))
rank-past x [] (suc i) h = absurd (omega arith)
rank-past x (y ∷ ys) (suc i) h = ⊎_elim
    (λ (b : y < x). rw (lt-ltb y x b) (let e = rank-past x ys i (let g = rw (lt-ltb y x b) at h in omega arith) in omega arith))
    (λ (b : x ≤ y). let g = rw (le-ltb y x b) at h in absurd (omega arith))
    (lt-or-le y x)

rank-front : (x : ℕ) (a m : List ℕ) → ((y : ℕ) → Memᴰ y a → y < x) → rank x (a ++ m) ≡ length a + rank x m
unfolding rank
rank-front x [] m f = sym (zero-add (rank x m))
rank-front x (y ∷ a) m f = rw (lt-ltb y x (f y (mathlib.Core.List.Memᴰ.head refl))) (let e = rank-front x a m (λ v n. f v (mathlib.Core.List.Memᴰ.tail n)) in omega arith)

-- with none more that is below
pub rank-back : (x : ℕ) (l m : List ℕ) → ((y : ℕ) → Memᴰ y m → x ≤ y) → rank x (l ++ m) ≡ rank x l
unfolding rank
rank-back x [] [] f = refl
rank-back x [] (y ∷ m) f = rw (le-ltb y x (f y (mathlib.Core.List.Memᴰ.head refl)))
rank-back x (y ∷ l) m f = rw (rank-back x l m f)

pub rank-more : (x y : ℕ) (l : List ℕ) → x ≤ y → rank x l ≤ rank y l
unfolding rank
rank-more x y [] h = omega arith
rank-more x y (v ∷ l) h = ⊎_elim
    (λ (b : v < x). rw (lt-ltb v x b, lt-ltb v y (omega arith)) (let e = rank-more x y l h in omega arith))
    (λ (b : x ≤ v). rw (le-ltb v x b) (omega arith))
    (lt-or-le v x)

-- the numbers with p and the others
pub rank_split : (p : ℕ → Bool) (x : ℕ) (l : List ℕ) → Rising l → rank x l ≡ rank x (keep (λ (y : ℕ). not (p y)) l) + rank x (keep p l)
unfolding rank keep
rank_split p x [] r = refl
rank_split p x (y ∷ ys) (more h r) = ⊎_elim
    (λ (b : y < x). ⊎_elim
    (λ (t : p y ≡ true). rw (t, lt-ltb y x b) (let e = rank_split p x ys r in omega arith))
    (λ (t : p y ≡ false). rw (t, lt-ltb y x b) (let e = rank_split p x ys r in omega arith))
    (true-or-false (p y)))
    (λ (b : x ≤ y). rw (le-ltb y x b, above (λ (v : ℕ). not (p v)) b, above p b))
    (lt-or-le y x)
  where
    above : (q : ℕ → Bool) → x ≤ y → rank x (keep q (y ∷ ys)) ≡ 0
    above q b = rank-back x [] (keep q (y ∷ ys)) (λ v m. ⊎_elim (λ (e : v ≡ y). omega arith) (λ (n : Memᴰ v ys). omega (arith, h v n)) (mathlib.Core.List.Memᴰ.cases_cons (keep→ q (y ∷ ys) v m).0))

-- the keys of zone z and the others
pub rank-parts : (z x : ℕ) (l : List ℕ) → Rising l → rank x l ≡ rank x (others z l) + rank x (own z l)
rank-parts z = rank_split (of_zone z)

-- free marks lie below no place
pub rank-marks : (x : ℕ) (l : List ℕ) (n : ℕ) → x ≤ free → rank x (l ++ replicate n free) ≡ rank x l
rank-marks x l n h = rank-back x l (replicate n free) (λ y m. let v : y ≡ free = replicate→ n free y m in omega arith)

-- ---- rising lists

rising-rest : (l : List ℕ) (n : ℕ) → Rising l → Rising (drop n l)
rising-rest l zero r = r
rising-rest [] (suc n) r = none
rising-rest (x ∷ l) (suc n) (more h r) = rising-rest l n r

rising-apart : (a m : List ℕ) → Rising (a ++ m) → (x y : ℕ) → Memᴰ x a → Memᴰ y m → x < y
rising-apart [] m r x y i j = absurd (mathlib.Core.List.Memᴰ.not-nil i)
rising-apart (v ∷ a) m (more h r) x y i j = ⊎_elim
    (λ (e : x ≡ v). rw e (h y (mathlib.Core.List.Memᴰ.append_right a j)))
    (λ (n : Memᴰ x a). rising-apart a m r x y n j)
    (mathlib.Core.List.Memᴰ.cases_cons i)

-- ---- a zone's next key

-- at r stands zone z's first key, and `later` are those after it
record Next (z : ℕ) (l later : List ℕ) (r : ℕ) : Type 0 where
  there : r < length l
  left : others z l ≡ take r l ++ others z (drop (suc r) l)
  rest : own z (drop (suc r) l) ≡ later

next : (z key : ℕ) (l later : List ℕ) → Rising l → own z l ≡ key ∷ later → Next z l later (rank key l)
unfolding rank keep
next z key [] later r e = let n = ap length e in absurd (omega arith)
next z key (y ∷ ys) later (more h r) e = ⊎_elim
    (λ (t : of_zone z y ≡ true).
    let f : y ∷ own z ys ≡ key ∷ later = rw t at e in
    let k : y ≡ key = cc in
    let m : own z ys ≡ later = cc in
    rw (le-ltb y key (omega arith)) (record { there = omega arith; left = rw t; rest = m }))
    (λ (t : of_zone z y ≡ false).
    let f : own z ys ≡ key ∷ later = rw t at e in
    let n = next z key ys later r f in
    let k : y < key = h key (keep→ (of_zone z) ys key (rw f (mathlib.Core.List.Memᴰ.head refl))).0 in
    rw (lt-ltb y key k) (record { there = let g = n.there in omega arith; left = rw t (ap (λ (m : List ℕ). y ∷ m) n.left); rest = n.rest }))
    (true-or-false (of_zone z y))

-- where zone z has no key all are of others
others-all : (z : ℕ) (l : List ℕ) → own z l ≡ [] → others z l ≡ l
others-all z l e = keep_all (of_other z) l (λ x m. ⊎_elim
    (λ (t : of_zone z x ≡ true). let n = ap length e in absurd (omega (arith, keep_some (of_zone z) l x m t)))
    (λ (t : of_zone z x ≡ false). rw t)
    (true-or-false (of_zone z x)))

-- ---- a key found

-- past the entries that the start of its place counts
pub found : {s rest : List ℕ} {n from key i r : ℕ} → Skips s n from (length rest) key i → Ranked key (mid_of i (length rest - i) rest) r → Finds s n rest from key (i + r)
found {s} {rest} {n} {from} {key} {i} {r} k f =
    let m : mid_of i (length rest - i) rest ≡ drop i rest = take_all (length rest - i) (drop i rest) (omega (arith, length-drop i rest)) in
    record {
      within = omega (arith, k.within, f.within, ap length m, length-drop i rest);
      is = λ right. ap (λ (x : ℕ). i + x) (f.is ∙ ap (rank key) m) ∙ sym (rank-past key rest i (k.low (rank key rest) right));
    }

-- ---- from key to key

-- so many of the keys are taken out of the entries in use up to `from`: what is left of those stands at the front
pub record Between (z u : ℕ) (keys e e' : List ℕ) (from gone : ℕ) : Type 0 where
  pub left : others z (take u e) ≡ take (from - gone) e' ++ others z (drop from (take u e))
  pub later : own z (drop from (take u e)) ≡ drop gone keys

pub record Closing (n u : ℕ) (s e e' : List ℕ) (from gone : ℕ) : Type 0 where
  pub rest : drop from e' ≡ drop from e
  pub long : length e' ≡ length e
  pub within : from ≤ u
  pub passed : gone ≤ from
  pub right : (z : ℕ) → Ordered n u s e → take n s ≡ own z (take u e) → Between z u (take n s) e e' from gone

pub close-begins : (n u : ℕ) (s e : List ℕ) → Closing n u s e e 0 0
close-begins n u s e = record { rest = refl; long = refl; within = omega arith; passed = omega arith; right = λ z o q. record { left = refl; later = sym q } }

module _ {n u : ℕ} {s e e' : List ℕ} {from gone : ℕ} (keys : n ≤ length s) (room : u ≤ length e) (k : Closing n u s e e' from gone) where
  -- from there on all is as it was
  rest-on : (q : ℕ) → from ≤ q → drop q e' ≡ drop q e
  rest-on q h = let a : q ≡ from + (q - from) = omega arith in rw a (sym (drop-drop (q - from) from e') ∙ ap (drop (q - from)) k.rest ∙ drop-drop (q - from) from e)

  -- the entries in use from there on, as they are lent
  in_use : mid_of from (u - from) e' ≡ drop from (take u e)
  in_use =
      let a : u ≡ from + (u - from) = omega (arith, k.within) in
      ap (take (u - from)) k.rest
      ∙ sym (ap (drop from) (ap (λ (q : ℕ). take q e) a ∙ take-add from (u - from) e) ∙ drop_at (take from e) (slice_range e from u) from (length-take-le from e (omega (arith, k.within))))

  pub slide-room : (end : ℕ) → from ≤ end → end ≤ u → SlideRoom from end gone e'
  slide-room end h g = record { low = k.passed; forward = h; within = omega (arith, k.long) }

  module _ {key r : ℕ} (more : gone < n) (is : key ≡ slice_index s gone) (f : Finds s n (mid_of from (u - from) e') from key r) where
    pub found_within : from + r ≤ u
    found_within = omega (arith, f.within, k.within, mid_len from u e' (omega (arith, k.long)))

    -- it is zone z's next key
    next-found : (z : ℕ) → Ordered n u s e → take n s ≡ own z (take u e) → Next z (drop from (take u e)) (drop (suc gone) (take n s)) r
    next-found z o q =
        let l = take u e in
        let m = drop from l in
        let b = k.right z o q in
        let first : own z m ≡ key ∷ drop (suc gone) (take n s) = b.later ∙ drop-cons (take n s) gone 0 (omega (arith, length-take-le n s keys)) ∙ ap (λ (x : ℕ). x ∷ drop (suc gone) (take n s)) (get_or-take n s gone 0 more ∙ sym is) in
        let there : Memᴰ key m = (keep→ (of_zone z) m key (rw first (mathlib.Core.List.Memᴰ.head refl))).0 in
        let apart : (y : ℕ) → Memᴰ y (take from l) → y < key = λ y i. rising-apart (take from l) m (rw (take-append-drop from l) o.rising) y key i there in
        let whole : rank key l ≡ from + rank key m = ap (rank key) (sym (take-append-drop from l)) ∙ rank-front key (take from l) m apart ∙ ap (λ (x : ℕ). x + rank key m) (length-take-le from l (omega (arith, k.within, length-take-le u e room))) in
        let start : n ≤ key / 256 → slice_index s (key / 256) ≤ from + rank key m =
        λ (h : n ≤ key / 256). ⊎_elim
        (λ (g : key / 256 < length s). omega (arith, o.starts (key / 256) h g, rank-more (key / 256 * 256) key l (omega arith), whole))
        (λ (g : length s ≤ key / 256). omega (arith, get_or-eq_default s 0 {n = key / 256} g))
        (lt-or-le (key / 256) (length s)) in
        let e : r ≡ rank key m = rw in_use at (f.is (rw in_use start)) in
        rw e (next z key m (drop (suc gone) (take n s)) (rising-rest l from o.rising) first)

    -- so it is there
    pub close-stops : from + r ≡ u → Closes n u s e e'
    close-stops h z o q = absurd (omega (arith, (next-found z o q).there, length-drop from (take u e), length-take-le u e room))

    abbrev at : ℕ
    at = from + r

    moved : SlideRoom from at gone e'
    moved = slide-room at (omega arith) found_within

    pub close-turns : {e'' : List ℕ} → (from + r ≢ u) → e'' ≡ slid from (from + r) gone e' → Closing n u s e e'' (from + r + 1) (gone + 1)
    close-turns {e''} h w = rw w (record {
      rest = slid-rest e' from at gone moved (at + 1) (omega arith) ∙ rest-on (at + 1) (omega arith);
      long = length-slid e' from at gone moved ∙ k.long;
      within = omega (arith, found_within);
      passed = omega (arith, k.passed);
      right = λ z o q.
          let l = take u e in
          let x = next-found z o q in
          let a : at + 1 - (gone + 1) ≡ at - gone = omega arith in
          let b : at - from ≡ r = omega arith in
          let c : from + suc r ≡ at + 1 = omega arith in
          let rest : drop (suc r) (drop from l) ≡ drop (at + 1) l = drop-drop (suc r) from l ∙ ap (λ (i : ℕ). drop i l) c in
          let range : take r (drop from l) ≡ take (at - from) (drop from e') = ap (take r) (sym in_use) ∙ take-take r (u - from) (drop from e') (omega (arith, found_within)) ∙ ap (λ (i : ℕ). take i (drop from e')) (sym b) in
          record {
            left =
                (k.right z o q).left
                ∙ ap (λ (i : List ℕ). take (from - gone) e' ++ i) (x.left ∙ ap₂ (λ (i j : List ℕ). i ++ others z j) range rest)
                ∙ sym (append_assoc (take (from - gone) e') (slice_range e' from at) (others z (drop (at + 1) l)))
                ∙ ap (λ (i : List ℕ). i ++ others z (drop (at + 1) l)) (sym (slid-front e' from at gone moved) ∙ ap (λ (i : ℕ). take i (slid from at gone e')) (sym a));
            later = ap (own z) (sym rest) ∙ x.rest ∙ ap (λ (i : ℕ). drop i (take n s)) (sym (add-one gone));
          };
    })

  -- what lies after the last key, and free marks
  pub close-ends : n ≤ gone → {e'' : List ℕ} → e'' ≡ slid from u gone e' → (f : List ℕ) → f ≡ replicate (length (mid_of (u - gone) (u - (u - gone)) e'')) free → Closes n u s e (put_mid (u - gone) (u - (u - gone)) e'' f)
  close-ends h {e''} w f q z o p =
      let m = drop from (take u e) in
      let moved = slide-room u k.within (omega arith) in
      let long : length e'' ≡ length e = ap length w ∙ length-slid e' from u gone moved ∙ k.long in
      let none : own z m ≡ [] = (k.right z o p).later ∙ drop_of_length-le (take n s) {i = gone} (omega (arith, length-take-le n s keys)) in
      let left : others z (take u e) ≡ take (u - gone) e'' = (k.right z o p).left ∙ ap (λ (i : List ℕ). take (from - gone) e' ++ i) (others-all z m none ∙ sym in_use) ∙ sym (slid-front e' from u gone moved) ∙ ap (take (u - gone)) (sym w) in
      let many : length (others z (take u e)) ≡ u - gone = ap length left ∙ length-take-le (u - gone) e'' (omega arith) in
      marked e'' f (u - gone) u (omega arith) (omega arith) q
      ∙ ap₂ (λ (i j : List ℕ). i ++ (replicate (u - (u - gone)) free ++ j)) (sym left) (ap (drop u) w ∙ slid-rest e' from u gone moved u (omega arith) ∙ rest-on u k.within)
      ∙ ap (λ (i : ℕ). others z (take u e) ++ (replicate (u - i) free ++ drop u e)) (sym many)
