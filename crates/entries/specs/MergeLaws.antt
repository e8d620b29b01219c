-- Laws of merging from the back: how the loop begins, turns and ends.
use Rattle.std.specs.Prelude.{◌≡◌, ℕ, zero, suc, ◌+◌, ◌-◌, ◌*◌, ◌<◌, ◌≤◌, true, false, List, [], ◌∷◌, ◌++◌, length, take, drop, set, slice_index, slice_index_or, slice_set, refl}
use Rattle.std.proofs.Common.{ap, ap₂, sym, ◌∙◌, inl, inr, ⊎_elim, arith, add-zero, length-append, length-drop, length-set, take-append-drop, length-take-le, take-suc, take-take, take_at, drop_at, get_or-drop, get_or-take, take_all, ne_eqb, lt-ltb, ltb-true, ltb-false}
use mathlib.Core.List.Memᴰ
use mathlib.Core.List.{append-nil, append_assoc, Memᴰ}
use Rattle.std.proofs.Math.ListN.{get_or-append}
use Rattle.std.proofs.Math.Seq.{append_snoc}
use Rattle.std.proofs.lemmas.List.{set_at, take-set-le, drop-set-add}
use Rattle.std.proofs.lemmas.Grind.{drop-set_at}
use Rattle.std.proofs.lemmas.List.Edits.{paste_none}
use lib.Seq.{paste}
use Rattle.order.specs.Rising.{Rising, none, more}
use Rattle.order.specs.TestLaws.{lt-or-le, true-not-false}
use Rattle.order.specs.RisingLaws.{member-at}
use Rattle.order.specs.Buffer.{ends_below}
use Rattle.entries.specs.Merge.{Apart, Union, Guided, Limit, Seat, moved_up, Merged}

-- ---- a number put after all others

rising_snoc : (l : List ℕ) (x : ℕ) → Rising l → ((y : ℕ) → Memᴰ y l → y < x) → Rising (l ++ (x ∷ []))
rising_snoc [] x r f = more (λ y m. absurd (Memᴰ.not-nil m)) none
rising_snoc (v ∷ l) x (more h r) f =
    more {x = v} (λ y m. ⊎_elim (λ (n : Memᴰ y l). h y n) (λ (n : Memᴰ y (x ∷ [])). let e : y ≡ x = Memᴰ.eq_of_singleton n in omega (arith, f v (Memᴰ.head refl))) (Memᴰ.append_cases l m))
    (rising_snoc l x r (λ y m. f y (Memᴰ.tail m)))

-- the last of a rising list is above the others
snoc-above : (l : List ℕ) (x : ℕ) → Rising (l ++ (x ∷ [])) → (y : ℕ) → Memᴰ y l → y < x
snoc-above [] x r y m = absurd (Memᴰ.not-nil m)
snoc-above (v ∷ l) x (more h r) y m = ⊎_elim (λ (e : y ≡ v). let g : v < x = h x (Memᴰ.append_right l (Memᴰ.head refl)) in omega arith) (λ (n : Memᴰ y l). snoc-above l x r y n) (Memᴰ.cases_cons m)

front→ : (l : List ℕ) (n y : ℕ) → Memᴰ y (take n l) → Memᴰ y l
front→ l zero y m = absurd (Memᴰ.not-nil m)
front→ [] (suc n) y m = m
front→ (v ∷ l) (suc n) y m = ⊎_elim (λ (e : y ≡ v). Memᴰ.head e) (λ (k : Memᴰ y (take n l)). Memᴰ.tail (front→ l n y k)) (Memᴰ.cases_cons m)

rising-front : (l : List ℕ) (n : ℕ) → Rising l → Rising (take n l)
rising-front l zero r = none
rising-front [] (suc n) r = none
rising-front (x ∷ l) (suc n) (more h r) = more {x = x} (λ y m. h y (front→ l n y m)) (rising-front l n r)

-- of a rising list the n-th number is above those before it
front_above : (l : List ℕ) (n : ℕ) → n < length l → Rising l → (y : ℕ) → Memᴰ y (take n l) → y < slice_index l n
front_above l n h r = snoc-above (take n l) (slice_index l n) (rw (take-suc l n 0 h) at (rising-front l (suc n) r))

-- and so not below any of the first n + 1
front-most : (l : List ℕ) (n : ℕ) → n < length l → Rising l → (y : ℕ) → Memᴰ y (take (suc n) l) → y ≤ slice_index l n
front-most l n h r y m = ⊎_elim (λ (k : Memᴰ y (take n l)). omega (arith, front_above l n h r y k)) (λ (k : Memᴰ y (slice_index l n ∷ [])). let e : y ≡ slice_index_or l n 0 = Memᴰ.eq_of_singleton k in omega arith) (Memᴰ.append_cases (take n l) (rw (take-suc l n 0 h) at m))

module _ (a b c : List ℕ) (u : Union a b c) (x : ℕ) (old : (y : ℕ) → Memᴰ y a → y < x) (new : (y : ℕ) → Memᴰ y b → y < x) where
  top : Rising (c ++ (x ∷ []))
  top = rising_snoc c x u.rising (λ y m. ⊎_elim (old y) (new y) (u.from y m))

  union_left : Union (a ++ (x ∷ [])) b (c ++ (x ∷ []))
  union_left = record {
    rising = top;
    from = λ y m. ⊎_elim (λ (k : Memᴰ y c). ⊎_elim (λ (n : Memᴰ y a). inl (Memᴰ.append_left (x ∷ []) n)) (λ (n : Memᴰ y b). inr n) (u.from y k)) (λ (k : Memᴰ y (x ∷ [])). inl (Memᴰ.append_right a k)) (Memᴰ.append_cases c m);
    left = λ y m. ⊎_elim (λ (k : Memᴰ y a). Memᴰ.append_left (x ∷ []) (u.left y k)) (λ (k : Memᴰ y (x ∷ [])). Memᴰ.append_right c k) (Memᴰ.append_cases a m);
    right = λ y m. Memᴰ.append_left (x ∷ []) (u.right y m);
  }

union-swap : {a b c : List ℕ} → Union a b c → Union b a c
union-swap {a} {b} {c} u = record { rising = u.rising; from = λ y m. ⊎_elim (λ (k : Memᴰ y a). inr k) (λ (k : Memᴰ y b). inl k) (u.from y m); left = u.right; right = u.left }

union-alone : (a : List ℕ) → Rising a → Union a [] a
union-alone a r = record { rising = r; from = λ y m. inl m; left = λ y m. m; right = λ y m. absurd (Memᴰ.not-nil m) }

-- ---- where a key goes

-- the last of the first i entries is below a key, or not
ends→ : (e : List ℕ) (key i n : ℕ) → i ≡ suc n → ends_below e key i ≡ true → slice_index e n < key
unfolding ends_below
ends→ e key i n h f = let q : suc n - 1 ≡ n = omega arith in ltb-true (slice_index e n) key (rw (h, ne_eqb (suc n) 0 (λ (z : suc n ≡ 0). omega arith), q) at f)

pub ends-not→ : (e : List ℕ) (key i : ℕ) → ends_below e key i ≡ false → (0 < i) × (key ≤ slice_index e (i - 1))
unfolding ends_below
ends-not→ e key zero f = absurd (true-not-false true refl f)
ends-not→ e key (suc i) f = (omega arith, ltb-false (slice_index e (suc i - 1)) key (rw (ne_eqb (suc i) 0 (λ (z : suc i ≡ 0). omega arith)) at f))

-- at the latest where a later place starts
pub limit-start : (starts : List ℕ) (n : ℕ) (e : List ℕ) (end key p : ℕ) → n ≤ p → p < length starts → key < p * 256 → slice_index starts p ≤ end → Limit starts n e end key (slice_index starts p)
limit-start starts n e end key p a b k h = record { within = h; above = λ g (i : ℕ) (l : slice_index_or starts p 0 ≤ i) (m : i < end). omega (arith, g p a b i l m) }

-- or at an entry that is not below it
pub limit-turns : {starts : List ℕ} {n : ℕ} {e : List ℕ} {end key i : ℕ} → Limit starts n e end key i → ends_below e key i ≡ false → Limit starts n e end key (i - 1)
limit-turns {starts} {n} {e} {end} {key} {i} k f =
    let last = ends-not→ e key i f in
    record {
      within = omega (arith, k.within);
      above = λ g (q : ℕ) (a : i - 1 ≤ q) (b : q < end). ⊎_elim (λ (h : q < i). let s : q ≡ i - 1 = omega arith in rw s last.1) (λ (h : i ≤ q). k.above g q h b) (lt-or-le q i);
    }

-- it is where the entry before is below the key, or where there is none
pub seat-above : {starts : List ℕ} {n : ℕ} {e : List ℕ} {end key i : ℕ} → Limit starts n e end key i → 0 < i → slice_index e (i - 1) < key → Seat starts n e end key i
unfolding ends_below
seat-above {e} {key} {i} k h g = record { limit = k; below = rw (ne_eqb i 0 (λ (z : i ≡ 0). omega arith)) (lt-ltb (slice_index e (i - 1)) key g) }

pub seat-first : {starts : List ℕ} {n : ℕ} {e : List ℕ} {end key : ℕ} → Limit starts n e end key 0 → Seat starts n e end key 0
unfolding ends_below
seat-first k = record { limit = k; below = refl }

-- as it is among the first entries alone
pub seat-front : {starts : List ℕ} {n : ℕ} (e : List ℕ) (end : ℕ) {key r : ℕ} → end ≤ length e → Seat starts n (take end e) (length (take end e)) key r → Seat starts n e end key r
unfolding ends_below
seat-front {starts} {n} e end {key} {r} h k =
    let many = length-take-le end e h in
    let same : (i : ℕ) → i < end → slice_index (take end e) i ≡ slice_index e i = λ i b. get_or-take end e i 0 b in
    record {
      limit = record {
        within = omega (arith, k.limit.within);
        above = λ g (i : ℕ) (a : r ≤ i) (b : i < end). rw (same i b) at (k.limit.above (λ p x y j z w. rw (same j (omega arith)) (g p x y j z (omega arith))) i a (omega arith));
      };
      below = ⊎_elim
          (λ (b : r < 1). let z : r ≡ 0 = omega arith in rw z)
          (λ (b : 1 ≤ r). rw (same (r - 1) (omega (arith, k.limit.within))) at k.below)
          (lt-or-le r 1);
    }

-- ---- a range moved up

pub moved_more : (from by end : ℕ) (e : List ℕ) → from < end → moved_up from by (end - from) e ≡ moved_up from by (end - 1 - from) (slice_set e (end - 1 + by) (slice_index e (end - 1)))
unfolding moved_up
moved_more from by end e h =
    let d = end - 1 - from in
    let k : end - from ≡ suc d = omega arith in
    let l : from + d ≡ end - 1 = omega arith in
    ap (λ (n : ℕ). moved_up from by n e) k ∙ ap (λ (n : ℕ). moved_up from by d (slice_set e (n + by) (slice_index e n))) l

pub moved_all : (from by end : ℕ) (e : List ℕ) → end ≤ from → moved_up from by (end - from) e ≡ e
unfolding moved_up
moved_all from by end e h = let k : end - from ≡ 0 = omega arith in rw k

-- it is a copy of the range
pub moved-over : (from by d : ℕ) (e : List ℕ) → from + d + by ≤ length e → moved_up from by d e ≡ paste e (from + by) (drop from e) d
unfolding moved_up
moved-over from by zero e h = paste_none e (from + by) (drop from e)
moved-over from by (suc d) e h =
    let k = from + d + by in
    let x = slice_index_or e (from + d) 0 in
    let at : from + by + d ≡ k = omega arith in
    let next : k + 1 ≡ from + by + suc d = omega arith in
    let below : take (from + by) (set e k x) ≡ take (from + by) e = take-set-le (from + by) e k x (omega arith) in
    let same : take d (drop from (set e k x)) ≡ take d (drop from e) = ap (λ (n : ℕ). take d (drop from (set e n x))) (omega arith) ∙ ap (take d) (drop-set-add from e (d + by) x) ∙ take-set-le d (drop from e) (d + by) x (omega arith) in
    let above : drop (from + by + d) (set e k x) ≡ x ∷ drop (k + 1) e = drop-set_at e k (from + by + d) x at (omega arith) in
    let one : take (suc d) (drop from e) ≡ take d (drop from e) ++ (x ∷ []) = take-suc (drop from e) d 0 (omega (arith, length-drop from e)) ∙ ap (λ (y : ℕ). take d (drop from e) ++ (y ∷ [])) (get_or-drop from e d 0) in
    let over : paste (set e k x) (from + by) (drop from (set e k x)) d ≡ paste e (from + by) (drop from e) (suc d) =
    ap₂ (λ (a b : List ℕ). a ++ b) (ap₂ (λ (a b : List ℕ). a ++ b) below same) above
    ∙ sym (append_snoc (take (from + by) e ++ take d (drop from e)) x (drop (k + 1) e))
    ∙ ap₂ (λ (a b : List ℕ). a ++ b) (append_assoc (take (from + by) e) (take d (drop from e)) (x ∷ []) ∙ ap (λ (a : List ℕ). take (from + by) e ++ a) (sym one)) (ap (λ (n : ℕ). drop n e) next) in
    moved-over from by d (set e k x) (omega (arith, length-set e k x)) ∙ over

-- ---- merging from the back

-- the first i of the entries and the first j of the keys are still to be merged; `out`, what is merged, stands after them
pub record Merging (starts e keys : List ℕ) (u : ℕ) (e' : List ℕ) (i j : ℕ) : Type 0 where
  pub out : List ℕ
  pub is : e' ≡ take (i + j) e ++ (out ++ drop (u + length keys) e)
  pub whole : i + j + length out ≡ u + length keys
  pub olds : i ≤ u
  pub news : j ≤ length keys
  pub room : u + length keys ≤ length e
  pub long : length e' ≡ length e
  pub right : Guided starts (length keys) u e → Apart (take u e) keys → (c : List ℕ) → Union (take i (take u e)) (take j keys) c → Union (take u e) keys (c ++ out)

pub merge-begins : (starts e : List ℕ) (n u : ℕ) → n ≤ length starts → u + n ≤ length e → Merging starts e (take n starts) u e u n
merge-begins starts e n u h g =
    let keys = take n starts in
    let count : length keys ≡ n = length-take-le n starts h in
    record {
      out = [];
      is = rw count (sym (take-append-drop (u + n) e));
      whole = omega arith;
      olds = omega arith;
      news = omega arith;
      room = omega arith;
      long = refl;
      right = λ d a c w. rw (append-nil c) (rw (take_all u (take u e) (omega (arith, length-take-le u e (omega arith))), take_all n keys (omega arith)) at w);
    }

module _ {starts e keys : List ℕ} {u : ℕ} {e' : List ℕ} {i j : ℕ} (p : Merging starts e keys u e' i j) where
  -- where i + j is one past n, the number at n is still the entries'
  stored : (n x : ℕ) → i + j ≡ suc n → slice_set e' n x ≡ take n e ++ ((x ∷ p.out) ++ drop (u + length keys) e)
  stored n x h =
      let l : n < length e = omega (arith, p.whole, p.room) in
      ap (λ (m : List ℕ). set m n x) (p.is ∙ ap (λ (k : ℕ). take k e ++ (p.out ++ drop (u + length keys) e)) h ∙ ap (λ (m : List ℕ). m ++ (p.out ++ drop (u + length keys) e)) (take-suc e n 0 l) ∙ append_snoc (take n e) (slice_index e n) (p.out ++ drop (u + length keys) e))
      ∙ set_at (take n e) (slice_index e n) (p.out ++ drop (u + length keys) e) x n (length-take-le n e (omega arith))

  -- what is still to be merged stands where it stood
  old-is : (n : ℕ) → n < i → slice_index e' n ≡ slice_index e n
  old-is n h =
      let shown : n < length (take (i + j) e) = omega (arith, length-take-le (i + j) e (omega (arith, p.whole, p.room))) in
      ap (λ (l : List ℕ). slice_index l n) p.is ∙ get_or-append (take (i + j) e) (p.out ++ drop (u + length keys) e) 0 n shown ∙ get_or-take (i + j) e n 0 (omega arith)

  old-at : (n : ℕ) → n < i → slice_index (take u e) n ≡ slice_index e' n
  old-at n h = get_or-take u e n 0 (omega (arith, p.olds)) ∙ sym (old-is n h)

  old-there : (n : ℕ) → n < i → n < length (take u e)
  old-there n h = omega (arith, p.olds, p.room, length-take-le u e (omega (arith, p.room)))

  -- a key above the entries that are left goes in
  merge-key : (n : ℕ) → j ≡ suc n → ((m : ℕ) → i ≡ suc m → slice_index e m < slice_index keys n) → Merging starts e keys u (slice_set e' (i + n) (slice_index keys n)) i n
  merge-key n h f =
      let x = slice_index_or keys n 0 in
      let there : n < length keys = omega (arith, p.news) in
      record {
        out = x ∷ p.out;
        is = stored (i + n) x (omega arith);
        whole = omega (arith, p.whole);
        olds = p.olds;
        news = omega arith;
        room = p.room;
        long = length-set e' (i + n) x ∙ p.long;
        right = λ d a c w. rw (append_snoc c x p.out) at (p.right d a (c ++ (x ∷ [])) (rw (h, take-suc keys n 0 there) (union-swap (union_left (take n keys) (take i (take u e)) c (union-swap w) x (front_above keys n there a.right) (below a i refl)))));
      }
    where
      below : Apart (take u e) keys → (m : ℕ) → m ≡ i → (y : ℕ) → Memᴰ y (take m (take u e)) → y < slice_index keys n
      below a zero q y k = absurd (Memᴰ.not-nil k)
      below a (suc m) q y k = omega (arith, front-most (take u e) m (old-there m (omega arith)) a.left y k, get_or-take u e m 0 (omega (arith, p.olds)), f m (sym q))

  -- an entry above the keys that are left goes in
  merge-entry : (n m : ℕ) → i ≡ suc n → j ≡ suc m → (Guided starts (length keys) u e → slice_index keys m ≤ slice_index e n) → Merging starts e keys u (slice_set e' (n + j) (slice_index e' n)) n j
  merge-entry n m h g f =
      let x = slice_index_or e' n 0 in
      let there = old-there n (omega arith) in
      let is_x = old-at n (omega arith) in
      record {
        out = x ∷ p.out;
        is = stored (n + j) x (omega arith);
        whole = omega (arith, p.whole);
        olds = omega (arith, p.olds);
        news = p.news;
        room = p.room;
        long = length-set e' (n + j) x ∙ p.long;
        right = λ d a c w. rw (append_snoc c x p.out) at (p.right d a (c ++ (x ∷ [])) (rw (h, take-suc (take u e) n 0 there, is_x) (union_left (take n (take u e)) (take j keys) c w x (rw is_x at (front_above (take u e) n there a.left)) (below a (f d)))));
      }
    where
      below : Apart (take u e) keys → slice_index keys m ≤ slice_index e n → (y : ℕ) → Memᴰ y (take j keys) → y < slice_index e' n
      below a least y k = ⊎_elim
          (λ (l : y < slice_index e' n). l)
          (λ (l : slice_index_or e' n 0 ≤ y).
          let most = front-most keys m (omega (arith, p.news)) a.right y (rw g at k) in
          let q : y ≡ slice_index_or (take u e) n 0 = omega (arith, old-at n (omega arith), old-is n (omega arith)) in
          absurd (a.none y (rw q (member-at (take u e) n (old-there n (omega arith)))) (front→ keys j y k)))
          (lt-or-le y (slice_index e' n))

  pub merge-ends : j ≡ 0 → Merged starts e e' u keys
  merge-ends h =
      let l : length (take (i + j) e ++ p.out) ≡ u + length keys = length-append (take (i + j) e) p.out ∙ omega (arith, length-take-le (i + j) e (omega (arith, p.whole, p.room)), p.whole) in
      let w : e' ≡ (take (i + j) e ++ p.out) ++ drop (u + length keys) e = p.is ∙ sym (append_assoc (take (i + j) e) p.out (drop (u + length keys) e)) in
      let k : i + j ≡ i = omega arith in
      let f : take (i + j) e ≡ take i (take u e) = ap (λ (n : ℕ). take n e) k ∙ sym (take-take i u e p.olds) in
      record {
        front = λ d a. rw (w, take_at (take (i + j) e ++ p.out) (drop (u + length keys) e) (u + length keys) l, f) (p.right d a (take i (take u e)) (rw h (union-alone (take i (take u e)) (rising-front (take u e) i a.left))));
        rest = ap (drop (u + length keys)) w ∙ drop_at (take (i + j) e ++ p.out) (drop (u + length keys) e) (u + length keys) l;
      }

-- the entries from `at` on go in together
merge-range : {starts e keys : List ℕ} {u j : ℕ} (d : ℕ) {e' : List ℕ} {i : ℕ} (at m : ℕ) → Merging starts e keys u e' i j → i ≡ at + d → j ≡ suc m → (Guided starts (length keys) u e → (q : ℕ) → at ≤ q → q < i → slice_index keys m ≤ slice_index e q) → Merging starts e keys u (moved_up at j d e') at j
unfolding moved_up
merge-range zero at m p k h f = rw (k, add-zero at) at p
merge-range (suc d) at m p k h f = merge-range d at m (merge-entry p (at + d) m (omega arith) h (λ g. f g (at + d) (omega arith) (omega arith))) refl h (λ g q a b. f g q a (omega arith))

-- the starts guide into what is left
guided-left : {starts e keys : List ℕ} {u : ℕ} {e' : List ℕ} {i j : ℕ} → Merging starts e keys u e' i j → Guided starts (length keys) u e → Guided starts (length keys) i e'
guided-left p g q a b n c d = rw (old-is p n d) (g q a b n c (omega (arith, p.olds)))

-- the last key goes to its seat
module _ {starts e : List ℕ} {n u : ℕ} {e' : List ℕ} {i j : ℕ} (p : Merging starts e (take n starts) u e' i j) (there : n ≤ length starts) (some : 0 < j) where
  count : length (take n starts) ≡ n
  count = length-take-le n starts there

  key-is : slice_index_or (take n starts) (j - 1) 0 ≡ slice_index starts (j - 1)
  key-is = get_or-take n starts (j - 1) 0 (omega (arith, p.news, count))

  module _ {at : ℕ} (seat : Seat starts n e' i (slice_index starts (j - 1)) at) where
    moved : Merging starts e (take n starts) u (moved_up at j (i - at) e') at j
    moved = merge-range (i - at) at (j - 1) p (omega (arith, seat.limit.within)) (omega arith) (λ g q a b. omega (arith, key-is, old-is p q b, seat.limit.above (rw count at (guided-left p g)) q a b))

    pub merge-turns : Merging starts e (take n starts) u (slice_set (moved_up at j (i - at) e') (at + (j - 1)) (slice_index starts (j - 1))) at (j - 1)
    merge-turns = rw key-is at (merge-key moved (j - 1) (omega arith) (λ m h. omega (arith, key-is, old-is p m (omega (arith, seat.limit.within)), ends→ e' (slice_index starts (j - 1)) at m h seat.below)))
