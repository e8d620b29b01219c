-- Laws of a block moved down: what the steps answer, how a range moves, how the loop begins, turns, stops and ends.
use Rattle.std.specs.Prelude.{ℕ, zero, suc, ◌+◌, ◌-◌, ◌*◌, ◌/◌, ◌<◌, ◌≤◌, ◌≡◌, refl, ◌⊎◌, true, false, List, [], ◌∷◌, ◌++◌, ltb, length, get_or, take, drop, set, replicate}
use Rattle.std.proofs.Common.{ap, sym, ◌∙◌, inl, inr, ⊎_elim, arith, add-one, length-append, length-drop, length-set, length-take-le, get_or-append-add, get_or-drop, get_or-take, get_or-set_same, get_or-set_other, ext_get_or, lt-ltb, le-ltb, ltb-true, ltb-false}
use Rattle.std.proofs.lemmas.List.{get_or-replicate, length-replicate}
use Rattle.std.proofs.Math.ListN.{get_or-append, get_or-eq_default}
use borrow.Rule.Slice.PartMut.{mid_of, put_mid, mid_len}
use Rattle.order.specs.Buffer.{rank}
use Rattle.order.specs.TestLaws.{lt-or-le, true-not-false}
use Rattle.tables.specs.Derived.{free}
use Rattle.entries.specs.Gaps.{slid, SlideRoom, Finds}
use Rattle.entries.specs.GapLaws.{rank-past, rank-more}
use Rattle.entries.specs.DropLaws.{marked}
use Rattle.rides.specs.Swap.{Split, Counts, Block}
use Rattle.rides.specs.Blocks.{Down, SinkRoom, Sinks}
use Rattle.rides.specs.Steps.{Goes, Next, FoundIn, Lower, Drawn}
use Rattle.rides.specs.SwapLaws.{between, apart, gone-low, come-low, gone-below, come-below, drop-place, drop-before, drop-after, take-place, take-before, take_after, taken_at}

-- ---- which number is next

pub goes-yes : (a i b j : ℕ) → a < i → Goes a i b j true
goes-yes a i b j h = record { on = λ e. inl h; ends = λ e. absurd (true-not-false true refl e) }

pub goes-test : (a i b j : ℕ) → i ≤ a → Goes a i b j (ltb b j)
goes-test a i b j h = record { on = λ e. inr (ltb-true b j e); ends = λ e. (h, ltb-false b j e) }

module _ (d t : List ℕ) (a i b j : ℕ) where
  pub next-taken : i ≤ a → Next d t a i b j false
  next-taken h = record { drop = λ e. absurd (true-not-false false e refl); take = λ e (g : a < i). absurd (omega arith) }

  pub next-dropped : a < i → j ≤ b → Next d t a i b j true
  next-dropped h f = record { drop = λ e. (h, λ (g : b < j). absurd (omega arith)); take = λ e. absurd (true-not-false true refl e) }

  pub next-test : a < i → b < j → Next d t a i b j (ltb (get_or d a 0) (get_or t b 0))
  next-test h f = record {
    drop = λ e. (h, λ g. ltb-true (get_or d a 0) (get_or t b 0) e);
    take = λ e g. (f, ltb-false (get_or d a 0) (get_or t b 0) e);
  }

-- ---- a key's place

-- numbers after those below a key do not count
rank-cut : (x k : ℕ) (l : List ℕ) → rank x l ≤ k → rank x (take k l) ≡ rank x l
unfolding rank
rank-cut x zero [] h = refl
rank-cut x (suc k) [] h = refl
rank-cut x zero (y ∷ l) h = omega arith
rank-cut x (suc k) (y ∷ l) h = ⊎_elim
    (λ (b : y < x). rw (lt-ltb y x b) (ap suc (rank-cut x k l (let g = rw (lt-ltb y x b) at h in omega arith))))
    (λ (b : x ≤ y). rw (le-ltb y x b))
    (lt-or-le y x)

-- the start of a key's place is not past it
start-low : (s l : List ℕ) (n key : ℕ) → Counts s n l → n ≤ key / 256 → get_or s (key / 256) 0 ≤ rank key l
start-low s l n key c h = ⊎_elim
    (λ (g : key / 256 < length s). omega (arith, c (key / 256) h g, rank-more (key / 256 * 256) key l (omega arith)))
    (λ (g : length s ≤ key / 256). omega (arith, get_or-eq_default s 0 {n = key / 256} g))
    (lt-or-le (key / 256) (length s))

module _ (e l : List ℕ) (from end : ℕ) (forward : from ≤ end) (within : end ≤ length e) where
  -- what is looked at is a part of l
  same-part : ((q : ℕ) → from ≤ q → q < end → get_or e q 0 ≡ get_or l q 0) → end ≤ length l → mid_of from (end - from) e ≡ take (end - from) (drop from l)
  same-part same long = ext_get_or 0 (mid_of from (end - from) e) (take (end - from) (drop from l))
      (mid_len from end e within ∙ sym (length-take-le (end - from) (drop from l) (omega (arith, length-drop from l))))
      (λ (q : ℕ) (h : q < length (mid_of from (end - from) e)).
      let g : q < end - from = omega (arith, mid_len from end e within) in
      get_or-take (end - from) (drop from e) q 0 g ∙ get_or-drop from e q 0 ∙ same (from + q) (omega arith) (omega arith) ∙ sym (get_or-take (end - from) (drop from l) q 0 g ∙ get_or-drop from l q 0))

  part-rank : (key : ℕ) → from ≤ rank key l → rank key l ≤ end → rank key l ≡ from + rank key (take (end - from) (drop from l))
  part-rank key low high =
      let past = rank-past key l from low in
      omega (arith, past, rank-cut key (end - from) (drop from l) (omega arith))

pub found_in : {s e : List ℕ} {n from end key r : ℕ} → from ≤ end → end ≤ length e → Finds s n (mid_of from (end - from) e) from key r → FoundIn s n e from end key (from + r)
found_in {s} {e} {n} {from} {end} {key} {r} forward within f = record {
  low = omega arith;
  seat = record {
    within = omega (arith, f.within, mid_len from end e within);
    is = λ l rising counts same long low high.
        let part = same-part e l from end forward within same long in
        let whole = part-rank e l from end forward within key low high in
        let right : rank key l ≡ from + rank key (mid_of from (end - from) e) = whole ∙ ap (λ (m : List ℕ). from + rank key m) (sym part) in
        omega (arith, right, f.is (λ (h : n ≤ key / 256). omega (arith, right, start-low s l n key counts h)));
  };
}

-- ---- a range moved down

-- the number at a place of three lists in a row
module _ (x y z : List ℕ) where
  at_first : (q : ℕ) → q < length x → get_or (x ++ (y ++ z)) q 0 ≡ get_or x q 0
  at_first q h = get_or-append x (y ++ z) 0 q h

  at_second : (q k : ℕ) → q ≡ length x + k → k < length y → get_or (x ++ (y ++ z)) q 0 ≡ get_or y k 0
  at_second q k e h = ap (λ (v : ℕ). get_or (x ++ (y ++ z)) v 0) e ∙ get_or-append-add x (y ++ z) k 0 ∙ get_or-append y z 0 k h

  at-third : (q k : ℕ) → q ≡ length x + (length y + k) → get_or (x ++ (y ++ z)) q 0 ≡ get_or z k 0
  at-third q k e = ap (λ (v : ℕ). get_or (x ++ (y ++ z)) v 0) e ∙ get_or-append-add x (y ++ z) (length y + k) 0 ∙ get_or-append-add y z k 0

module _ {l : List ℕ} {from end by : ℕ} (h : SlideRoom from end by l) where
  first-long : length (take (from - by) l) ≡ from - by
  first-long = length-take-le (from - by) l (omega (arith, h.forward, h.within))

  range-long : length (take (end - from) (drop from l)) ≡ end - from
  range-long = length-take-le (end - from) (drop from l) (omega (arith, h.within, length-drop from l))

  slid-long : length (slid from end by l) ≡ length l
  slid-long =
      length-append (take (from - by) l) (take (end - from) (drop from l) ++ drop (end - by) l)
      ∙ omega (arith, h.low, h.forward, h.within, length-append (take (end - from) (drop from l)) (drop (end - by) l), first-long, range-long, length-drop (end - by) l)

  slid-lower : Lower l (slid from end by l) from end by
  slid-lower =
      let x = take (from - by) l in
      let y = take (end - from) (drop from l) in
      let z = drop (end - by) l in
      record {
        before = λ (q : ℕ) (b : q + by < from). at_first x y z q (omega (arith, first-long)) ∙ get_or-take (from - by) l q 0 (omega arith);
        range = λ (q : ℕ) (b : from ≤ q + by) (g : q + by < end).
            let k = q - (from - by) in
            let e : from + k ≡ q + by = omega (arith, h.low) in
            at_second x y z q k (omega (arith, first-long)) (omega (arith, range-long, h.low)) ∙ get_or-take (end - from) (drop from l) k 0 (omega (arith, h.low)) ∙ get_or-drop from l k 0 ∙ ap (λ (v : ℕ). get_or l v 0) e;
        after = λ (q : ℕ) (b : end ≤ q).
            let k = q - (end - by) in
            let e : end - by + k ≡ q = omega (arith, h.low, h.forward) in
            at-third x y z q k (omega (arith, first-long, range-long, h.low, h.forward)) ∙ get_or-drop (end - by) l k 0 ∙ ap (λ (v : ℕ). get_or l v 0) e;
      }

-- and free marks after it
pub drawn : {l l' : List ℕ} {from end by : ℕ} → SlideRoom from end by l → l' ≡ slid from end by l → (f : List ℕ) → f ≡ replicate (length (mid_of (end - by) (end - (end - by)) l')) free → Drawn l (put_mid (end - by) (end - (end - by)) l' f) from end by
drawn {l} {l'} {from} {end} {by} h w f e =
    let long : length l' ≡ length l = ap length w ∙ slid-long h in
    let x = take (end - by) l' in
    let y = replicate (end - (end - by)) free in
    let z = drop end l' in
    let lower : Lower l l' from end by = rw w (slid-lower h) in
    let many : length x ≡ end - by = length-take-le (end - by) l' (omega (arith, h.within)) in
    let marks : length y ≡ end - (end - by) = length-replicate (end - (end - by)) free in
    rw (marked l' f (end - by) end (omega arith) (omega (arith, h.within)) e) (record {
      lower = record {
        before = λ (q : ℕ) (b : q + by < from). at_first x y z q (omega (arith, many, h.forward)) ∙ get_or-take (end - by) l' q 0 (omega (arith, h.forward)) ∙ lower.before q b;
        range = λ (q : ℕ) (b : from ≤ q + by) (g : q + by < end). at_first x y z q (omega (arith, many)) ∙ get_or-take (end - by) l' q 0 (omega arith) ∙ lower.range q b g;
        after = λ (q : ℕ) (b : end ≤ q).
            let k : end + (q - end) ≡ q = omega arith in
            at-third x y z q (q - end) (omega (arith, many, marks, h.low, h.forward)) ∙ get_or-drop end l' (q - end) 0 ∙ ap (λ (v : ℕ). get_or l' v 0) k ∙ lower.after q b;
      };
      marks = λ (q : ℕ) (b : end ≤ q + by) (g : q < end).
          let k = q - (end - by) in
          at_second x y z q k (omega (arith, many)) (omega (arith, marks)) ∙ get_or-replicate (end - (end - by)) k free 0 (omega arith);
    })

-- ---- the block

-- up to place `at` of l, after a numbers of d and b of t, r's numbers stand, a - b places lower
pub record Passed (l d t r e : List ℕ) (from at a b : ℕ) : Type 0 where
  pub split : Split l d t at a b
  pub done : (q : ℕ) → from ≤ q → q + (a - b) < at → get_or e q 0 ≡ get_or r q 0

-- from there on all is as it was
pub record Sinking (s : List ℕ) (n : ℕ) (d t e e' : List ℕ) (from end m i j at a b : ℕ) : Type 0 where
  pub first : m ≤ b
  pub fewer : b ≤ a
  pub gone : a ≤ i
  pub come : b ≤ j
  pub passed : from + a ≤ at + m
  pub within : at ≤ end
  pub long : length e' ≡ length e
  pub before : (q : ℕ) → q < from → get_or e' q 0 ≡ get_or e q 0
  pub rest : (q : ℕ) → at ≤ q → get_or e' q 0 ≡ get_or e q 0
  pub right : (l r : List ℕ) → Block s n l d t r e from end m i j → Down d t m j → Passed l d t r e' from at a b

pub sink_begins : {s d t e : List ℕ} {n from end m i j : ℕ} → SinkRoom d t e from end m i j → Sinking s n d t e e from end m i j from m m
sink_begins {e = e} {from = from} {m = m} room = record {
  first = omega arith;
  fewer = omega arith;
  gone = omega (arith, room.come, room.more);
  come = room.come;
  passed = omega arith;
  within = room.forward;
  long = refl;
  before = λ q h. refl;
  rest = λ q h. refl;
  right = λ l r w f. record { split = w.first; done = λ (q : ℕ) (h : from ≤ q) (g : q + (m - m) < from). absurd (omega arith) };
}

module _ {s d t e e' : List ℕ} {n from end m i j at a b : ℕ} (room : SinkRoom d t e from end m i j) (k : Sinking s n d t e e' from end m i j at a b) where
  sink-room : (p : ℕ) → at ≤ p → p ≤ end → SlideRoom at p (a - b) e'
  sink-room p f g = record { low = omega (arith, k.passed, k.first); forward = f; within = omega (arith, k.long, room.room) }

  -- a key is found where it belongs
  seated : {key p : ℕ} → FoundIn s n e' at end key p → {l r : List ℕ} → Block s n l d t r e from end m i j → at ≤ rank key l → rank key l ≤ end → p ≡ rank key l
  seated f {l} w low high =
      f.seat.is l w.swap.old w.counts (λ (q : ℕ) (c : at ≤ q) (g : q < end). k.rest q c ∙ w.same q (omega (arith, k.passed, k.first, k.fewer)) g) w.last.place low high

  -- a range with no number of either list in it is done once it is moved
  moved : {p : ℕ} {e'' : List ℕ} → p ≤ end → Lower e' e'' at p (a - b) → {l r : List ℕ} → Block s n l d t r e from end m i j → Down d t m j → Split l d t p a b → (q : ℕ) → from ≤ q → q + (a - b) < p → get_or e'' q 0 ≡ get_or r q 0
  moved {p} small low {l} {r} w f to q c g = ⊎_elim
      (λ (h : q + (a - b) < at). low.before q h ∙ (k.right l r w f).done q c h)
      (λ (h : at ≤ q + (a - b)).
      low.range q h g
      ∙ k.rest (q + (a - b)) h
      ∙ w.same (q + (a - b)) (omega arith) (omega arith)
      ∙ sym (between w.swap (k.right l r w f).split to (q + (a - b)) q h g (omega (arith, k.fewer))).0)
      (lt-or-le (q + (a - b)) at)

  -- what lies before the block stays
  stays : {p : ℕ} {e'' : List ℕ} → Lower e' e'' at p (a - b) → (q : ℕ) → q < from → get_or e'' q 0 ≡ get_or e q 0
  stays low q h = low.before q (omega (arith, k.passed, k.first)) ∙ k.before q h

  -- the next number is dropped
  module _ {p : ℕ} (next : (a < i) × (b < j → get_or d a 0 < get_or t b 0)) (f : FoundIn s n e' at end (get_or d a 0) p) where
    drop-first : {l r : List ℕ} → Block s n l d t r e from end m i j → b < length t → get_or d a 0 < get_or t b 0
    drop-first w g = ⊎_elim (λ (h : b < j). next.1 h) (λ (h : j ≤ b). gone-below w.swap w.last a b next.0 h g) (lt-or-le b j)

    drop-found : {l r : List ℕ} → Block s n l d t r e from end m i j → Down d t m j → (p ≡ rank (get_or d a 0) l) × (p < end)
    drop-found {l} {r} w g =
        let there : a < length d = omega (arith, next.0, room.all) in
        let low = gone-low w.swap w.last a next.0 in
        let is = seated f w (drop-place w.swap (k.right l r w g).split there (drop-first w)).0 (omega arith) in
        (is, omega arith)

    -- so it is there
    pub drop-stops : p ≡ end → Sinks s n d t e e' from end m i j
    drop-stops h l r w g = absurd (omega (arith, (drop-found w g).1))

    pub drop-turns : {e'' : List ℕ} → (p ≡ end → ⊥) → e'' ≡ slid at p (a - b) e' → Sinking s n d t e e'' from end m i j (p + 1) (a + 1) b
    drop-turns {e''} h v =
        let fits : p ≤ end = f.seat.within in
        let ok = sink-room p f.low fits in
        let low : Lower e' e'' at p (a - b) = rw v (slid-lower ok) in
        record {
          first = k.first;
          fewer = omega (arith, k.fewer);
          gone = omega (arith, next.0);
          come = k.come;
          passed = omega (arith, k.passed, f.low);
          within = omega arith;
          long = ap length v ∙ slid-long ok ∙ k.long;
          before = stays low;
          rest = λ (q : ℕ) (g : p + 1 ≤ q). low.after q (omega arith) ∙ k.rest q (omega (arith, f.low));
          right = λ l r w g.
              let there : a < length d = omega (arith, next.0, room.all) in
              let x = (k.right l r w g).split in
              let is = (drop-found w g).0 in
              let to : Split l d t p a b = rw is (drop-before w.swap x there (drop-first w)) in
              record {
                split = rw (is, add-one, add-one) (drop-after w.swap x there (drop-first w));
                done = λ (q : ℕ) (c : from ≤ q) (u : q + (a + 1 - b) < p + 1). moved fits low w g to q c (omega (arith, k.fewer));
              };
        }

  -- the next number is taken up
  module _ (on : (a < i) ⊎ (b < j)) (next : a < i → (b < j) × (get_or t b 0 ≤ get_or d a 0)) where
    pub take_left : b < j
    take_left = ⊎_elim (λ (h : a < i). (next h).0) (λ (h : b < j). h) on

    -- so another was dropped before
    pub take-stops : a ≡ b → Sinks s n d t e e' from end m i j
    take-stops h l r w g = absurd (⊎_elim
        (λ (c : a < i). let o : get_or d a 0 ≡ get_or d b 0 = ap (λ (v : ℕ). get_or d v 0) h in omega (arith, (next c).1, g b k.first take_left))
        (λ (c : i ≤ a). omega (arith, take_left, room.more))
        (lt-or-le a i))

    module _ {p : ℕ} (f : FoundIn s n e' at end (get_or t b 0) p) where
      there : b < length t
      there = omega (arith, take_left, room.new)

      take-first : {l r : List ℕ} → Block s n l d t r e from end m i j → a < length d → get_or t b 0 < get_or d a 0
      take-first w g = ⊎_elim
          (λ (h : a < i). ⊎_elim
          (λ (c : get_or t b 0 < get_or d a 0). c)
          (λ (c : get_or d a 0 ≤ get_or t b 0). let o : get_or d a 0 ≡ get_or t b 0 = omega (arith, (next h).1) in absurd (apart w.swap a b g there o))
          (lt-or-le (get_or t b 0) (get_or d a 0)))
          (λ (h : i ≤ a). come-below w.swap w.last b a take_left h g)
          (lt-or-le a i)

      take_found : {l r : List ℕ} → Block s n l d t r e from end m i j → Down d t m j → p ≡ rank (get_or t b 0) l
      take_found {l} {r} w g = seated f w (take-place w.swap (k.right l r w g).split there (take-first w)).0 (come-low w.swap w.last b take_left)

      pub take-turns : {e'' : List ℕ} → (a ≡ b → ⊥) → e'' ≡ slid at p (a - b) e' → Sinking s n d t e (set e'' (p - (a - b)) (get_or t b 0)) from end m i j p a (b + 1)
      take-turns {e''} h v =
          let key = get_or t b 0 in
          let o = p - (a - b) in
          let fits : p ≤ end = f.seat.within in
          let ok = sink-room p f.low fits in
          let low : Lower e' e'' at p (a - b) = rw v (slid-lower ok) in
          let long : length e'' ≡ length e = ap length v ∙ slid-long ok ∙ k.long in
          let same : (q : ℕ) → (q ≡ o → ⊥) → get_or (set e'' o key) q 0 ≡ get_or e'' q 0 = λ q c. get_or-set_other e'' o q key 0 c in
          let there-is : o + a ≡ p + b = omega (arith, k.fewer, ok.low, f.low) in
          let past : from ≤ o = omega (arith, k.passed, k.first, k.fewer, f.low) in
          let under : o < p = omega (arith, k.fewer, k.passed, k.first, f.low) in
          record {
            first = omega (arith, k.first);
            fewer = omega (arith, k.fewer);
            gone = k.gone;
            come = omega (arith, take_left);
            passed = omega (arith, k.passed, f.low);
            within = fits;
            long = length-set e'' o key ∙ long;
            before = λ (q : ℕ) (g : q < from). same q (λ (c : q ≡ o). omega arith) ∙ stays low q g;
            rest = λ (q : ℕ) (g : p ≤ q). same q (λ (c : q ≡ o). omega arith) ∙ low.after q g ∙ k.rest q (omega (arith, f.low));
            right = λ l r w g.
                let x = (k.right l r w g).split in
                let is = take_found w g in
                let to : Split l d t p a b = rw is (take-before w.swap x there (take-first w)) in
                record {
                  split = rw (is, add-one) (take_after w.swap x there (take-first w));
                  done = λ (q : ℕ) (c : from ≤ q) (u : q + (a - (b + 1)) < p). ⊎_elim
                      (λ (y : q < o). same q (λ (z : q ≡ o). omega arith) ∙ moved fits low w g to q c (omega arith))
                      (λ (y : o ≤ q).
                      let z : q ≡ o = omega (arith, k.fewer) in
                      rw z (get_or-set_same e'' o key 0 (omega (arith, room.room)) ∙ sym (taken_at w.swap x there (take-first w) o (there-is ∙ ap (λ (c : ℕ). c + b) is)).0))
                      (lt-or-le q o);
                };
          }

  -- none is left
  pub sink_ends : i ≤ a → j ≤ b → {e'' : List ℕ} → Drawn e' e'' at end (a - b) → Sinks s n d t e e'' from end m i j
  sink_ends h g c l r w f =
      let x : a ≡ i = omega (arith, k.gone) in
      let y : b ≡ j = omega (arith, k.come) in
      let to : Split l d t end a b = rw (x, y) w.last in
      let by : a - b ≡ i - j = omega arith in
      record {
        within = λ (q : ℕ) (u : from ≤ q) (v : q < end - (i - j)). moved (omega arith) c.lower w f to q u (omega arith);
        marks = λ (q : ℕ) (u : end - (i - j) ≤ q) (v : q < end). c.marks q (omega arith) v;
        before = stays c.lower;
        after = λ (q : ℕ) (u : end ≤ q). c.lower.after q u ∙ k.rest q (omega (arith, k.within));
      }
