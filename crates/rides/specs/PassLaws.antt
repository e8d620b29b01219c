-- Laws of the exchange from block to block: which way a block goes, where it ends, what it leaves.
use Rattle.std.specs.Prelude.{ℕ, suc, ◌+◌, ◌-◌, ◌*◌, ◌/◌, ◌<◌, ◌≤◌, ◌≡◌, refl, Bool, true, false, not, ltb, length, get_or, take, drop, replicate}
use Rattle.std.proofs.Common.{ap, sym, ◌∙◌, inl, inr, ⊎_elim, arith, length-append, length-drop, length-take-le, get_or-take, get_or-drop, get_or-append-add, ext_get_or}
use Rattle.std.specs.Bool.{beq}
use mathlib.Core.List.{List, ◌++◌, Memᴰ}
use Rattle.std.proofs.lemmas.List.{length-replicate, get_or-replicate}
use Rattle.std.proofs.Math.ListN.{get_or-append, get_or-eq_default}
use borrow.Author.Tests.{le-leb, lt-leb, ltb-true, ltb-false}
use borrow.Rule.Slice.PartMut.{mid_of, mid_len}
use Rattle.order.specs.Rising.{Rising}
use Rattle.order.specs.Buffer.{rank}
use Rattle.order.specs.TestLaws.{lt-or-le, true-or-false, true-not-false, fails}
use Rattle.order.specs.RisingLaws.{member-at, index_of, rising-next}
use Rattle.order.specs.RankLaws.{rank-low}
use Rattle.order.specs.BufferLaws.{rank-le}
use Rattle.tables.specs.Derived.{free}
use Rattle.entries.specs.Gaps.{Finds}
use Rattle.entries.specs.GapLaws.{rank-past, rank-more}
use Rattle.rides.specs.Swap.{Swap, Split, Counts, Done}
use Rattle.rides.specs.Blocks.{Lifts, LiftRoom, Sinks, SinkRoom, SwapRoom, Swaps}
use Rattle.rides.specs.Pass.{longer, rise, Run, Going, Swapped, Reached, StepRoom, Steps}
use Rattle.rides.specs.SwapLaws.{rank-least, rank_most, rank-own, swap-length, split-begins, split-ends, between}

-- ---- which way

module _ (d t : List ℕ) (x : ℕ) where
  pub rise-ended : length t ≤ x → false ≡ rise d t x
  unfolding rise
  rise-ended h = rw (le-leb (length t) x h)

  pub rise-alone : x < length t → length d ≤ x → true ≡ rise d t x
  unfolding rise
  rise-alone h g = rw (lt-leb (length t) x h, le-leb (length d) x g)

  pub rise-both : x < length t → x < length d → ltb (get_or t x 0) (get_or d x 0) ≡ rise d t x
  unfolding rise
  rise-both h g = rw (lt-leb (length t) x h, lt-leb (length d) x g)

  rise→ : rise d t x ≡ true → (x < length t) × (x < length d → get_or t x 0 < get_or d x 0)
  rise→ e = ⊎_elim
      (λ (h : x < length t). (h, λ (g : x < length d). ltb-true (get_or t x 0) (get_or d x 0) (rise-both h g ∙ e)))
      (λ (h : length t ≤ x). absurd (true-not-false (rise d t x) e (sym (rise-ended h))))
      (lt-or-le x (length t))

  rise-not→ : rise d t x ≡ false → x < length t → (x < length d) × (get_or d x 0 ≤ get_or t x 0)
  rise-not→ e h = ⊎_elim
      (λ (g : x < length d). (g, ltb-false (get_or t x 0) (get_or d x 0) (rise-both h g ∙ e)))
      (λ (g : length d ≤ x). absurd (true-not-false (rise d t x) (sym (rise-alone h g)) e))
      (lt-or-le x (length d))

-- two answers that differ, or not
differ→ : (a b : Bool) → not (beq a b) ≡ true → a ≡ b → ⊥
differ→ true true e f = true-not-false false e refl
differ→ true false e f = true-not-false true refl f
differ→ false true e f = true-not-false true refl (sym f)
differ→ false false e f = true-not-false false e refl

agree→ : (a b : Bool) → not (beq a b) ≡ false → a ≡ b
agree→ true true e = refl
agree→ true false e = absurd (true-not-false true refl e)
agree→ false true e = absurd (true-not-false true refl e)
agree→ false false e = refl

-- up to x each place goes one way
pub record Running (d t : List ℕ) (m x : ℕ) (up : Bool) : Type 0 where
  pub some : m < x
  pub within : x ≤ longer d t
  pub each : (y : ℕ) → m ≤ y → y < x → rise d t y ≡ up

pub run-begins : {d t : List ℕ} {m : ℕ} {up : Bool} → m < longer d t → up ≡ rise d t m → Running d t m (m + 1) up
run-begins {d} {t} {m} h e = record { some = omega arith; within = omega arith; each = λ y g i. let j : y ≡ m = omega arith in rw j (sym e) }

module _ {d t : List ℕ} {m x : ℕ} {up : Bool} (k : Running d t m x up) where
  pub run-turns : {y : Bool} → x < longer d t → y ≡ rise d t x → not (beq y up) ≡ false → Running d t m (x + 1) up
  run-turns {y} h g f = let e : rise d t x ≡ up = sym g ∙ agree→ y up f in record {
    some = omega (arith, k.some);
    within = omega arith;
    each = λ y g i. ⊎_elim (λ (j : y < x). k.each y g j) (λ (j : x ≤ y). let q : y ≡ x = omega arith in rw q e) (lt-or-le y x);
  }

  pub run-stops : {y : Bool} → y ≡ rise d t x → not (beq y up) ≡ true → Run d t m x up
  run-stops {y} g f = record { some = k.some; within = k.within; each = k.each; stops = λ h e. differ→ y up f (g ∙ e) }

  pub run_ends : longer d t ≤ x → Run d t m x up
  run_ends h = record { some = k.some; within = k.within; each = k.each; stops = λ g e. omega arith }

-- the end of a run is at most one past either list's end, unless it is the end of all
run-both : {d t : List ℕ} {m next : ℕ} {up : Bool} → Run d t m next up → next < longer d t → (next ≤ length d) × (next ≤ length t)
run-both {d} {t} {m} {next} {up} k h = ⊎_elim rising falling (true-or-false up)
  where
    last : rise d t (next - 1) ≡ up
    last = k.each (next - 1) (omega (arith, k.some)) (omega (arith, k.some))

    rising : up ≡ true → (next ≤ length d) × (next ≤ length t)
    rising e =
        let a = (rise→ d t (next - 1) (last ∙ e)).0 in
        let b : next < length t → next < length d = λ (g : next < length t). (rise-not→ d t next (fails (rise d t next) (λ f. k.stops h (f ∙ sym e))) g).0 in
        (⊎_elim (λ (g : next < length t). omega (arith, b g)) (λ (g : length t ≤ next). omega arith) (lt-or-le next (length t)), omega arith)

    falling : up ≡ false → (next ≤ length d) × (next ≤ length t)
    falling e =
        let b : next < length t = ⊎_elim (λ (g : rise d t next ≡ true). (rise→ d t next g).0) (λ (g : rise d t next ≡ false). absurd (k.stops h (g ∙ sym e))) (true-or-false (rise d t next)) in
        (omega (arith, rise-not→ d t (next - 1) (last ∙ e) (omega arith)), omega arith)

-- ---- ranks in a rising list

module _ {l : List ℕ} (h : Rising l) (x : ℕ) where
  rank-on : (q : ℕ) → rank x l ≤ q → q < length l → x ≤ get_or l q 0
  rank-on q a b = ⊎_elim
      (λ (g : get_or l q 0 < x). let e : suc q - 1 ≡ q = omega arith in absurd (omega (arith, rank-least h x (suc q) (omega arith) (λ _. rw e g))))
      (λ (g : x ≤ get_or l q 0). g)
      (lt-or-le (get_or l q 0) x)

  -- a number of the list stands at its rank, and above it what follows
  rank-here : Memᴰ x l → (rank x l < length l) × (get_or l (rank x l) 0 ≡ x)
  rank-here m =
      let i = index_of l x m in
      let e : rank x l ≡ i.0 = ap (λ (y : ℕ). rank y l) (sym i.2) ∙ rank-own h i.0 i.1 in
      rw e (i.1, i.2)

  rank-after : (q : ℕ) → rank x l < q → q < length l → x < get_or l q 0
  rank-after q a b = ⊎_elim
      (λ (g : x < get_or l q 0). g)
      (λ (g : get_or l q 0 ≤ x). let e : get_or l q 0 ≡ x = omega (arith, rank-on q (omega arith) b) in absurd (omega (arith, ap (λ (y : ℕ). rank y l) e, rank-own h q b)))
      (lt-or-le x (get_or l q 0))

  -- one that is not in it is below what stands from its rank on
  rank-off : (Memᴰ x l → ⊥) → (q : ℕ) → rank x l ≤ q → q < length l → x < get_or l q 0
  rank-off f q a b = ⊎_elim
      (λ (g : x < get_or l q 0). g)
      (λ (g : get_or l q 0 ≤ x). let e : get_or l q 0 ≡ x = omega (arith, rank-on q a b) in absurd (f (rw e at (member-at l q b))))
      (lt-or-le x (get_or l q 0))

-- numbers that at most m of a list lie before are below those from place m of it on
passed : {l a : List ℕ} → Rising l → Rising a → (from m next : ℕ) → m < next → next ≤ length a → from ≤ length l → ((q : ℕ) → q < from → rank (suc (get_or l q 0)) a ≤ m) → from ≤ rank (get_or a (next - 1) 0) l
passed {l} {a} h g from m next i j k f = rank-least h (get_or a (next - 1) 0) from k (λ (z : 0 < from). ⊎_elim
    (λ (b : get_or l (from - 1) 0 < get_or a (next - 1) 0). b)
    (λ (b : get_or a (next - 1) 0 ≤ get_or l (from - 1) 0). absurd (omega (arith, f (from - 1) (omega arith), rank-least g (suc (get_or l (from - 1) 0)) next j (λ _. omega arith))))
    (lt-or-le (get_or l (from - 1) 0) (get_or a (next - 1) 0)))

-- the place after which the numbers are above a key, where the first i of both lists are not
split_at : {l d t : List ℕ} → Rising d → Rising t → (key p i : ℕ) → p ≤ length l → i ≤ length d → i ≤ length t → get_or d (i - 1) 0 ≤ key → get_or t (i - 1) 0 ≤ key → (i < length d → key < get_or d i 0) → (i < length t → key < get_or t i 0) → ((q : ℕ) → q < p → get_or l q 0 ≤ key) → ((q : ℕ) → p ≤ q → q < length l → key < get_or l q 0) → Split l d t p i i
split_at {l} {d} {t} a b key p i h g k dl tl dh th low high = record {
  place = h;
  gone = g;
  come = k;
  below = λ q j. (rank_most a (suc (get_or l q 0)) i (λ f. omega (arith, dh f, low q j)), rank_most b (suc (get_or l q 0)) i (λ f. omega (arith, th f, low q j)));
  above = λ q j f. (rank-least a (get_or l q 0) i g (λ _. omega (arith, high q j f)), rank-least b (get_or l q 0) i k (λ _. omega (arith, high q j f)));
}

-- ---- a key found

module _ {s : List ℕ} {n : ℕ} (l e : List ℕ) {from u key k : ℕ} (counts : Counts s n l) (long : length l ≡ u) (within : u ≤ length e) (same : (q : ℕ) → from ≤ q → q < length l → get_or e q 0 ≡ get_or l q 0) (past : from ≤ rank key l) (f : Finds s n (mid_of from (u - from) e) from key k) where
  lent : mid_of from (u - from) e ≡ drop from l
  lent = ext_get_or 0 (mid_of from (u - from) e) (drop from l) (mid_len from u e within ∙ omega (arith, length-drop from l)) (λ (i : ℕ) (h : i < length (mid_of from (u - from) e)).
      let g : i < u - from = omega (arith, mid_len from u e within) in
      get_or-take (u - from) (drop from e) i 0 g ∙ get_or-drop from e i 0 ∙ same (from + i) (omega arith) (omega arith) ∙ sym (get_or-drop from l i 0))

  start : n ≤ key / 256 → get_or s (key / 256) 0 ≤ from + rank key (drop from l)
  start h = ⊎_elim
      (λ (g : key / 256 < length s). omega (arith, counts (key / 256) h g, rank-more (key / 256 * 256) key l (omega arith), rank-past key l from past))
      (λ (g : length s ≤ key / 256). omega (arith, get_or-eq_default s 0 {n = key / 256} g))
      (lt-or-le (key / 256) (length s))

  found_at : from + k ≡ rank key l
  found_at = let e : k ≡ rank key (drop from l) = rw lent at (f.is (rw lent start)) in omega (arith, rank-past key l from past)

-- ---- what a block leaves

-- the entries are r's up to the end of a block, which as many numbers of both lists lie before
goes : {s : List ℕ} {n : ℕ} {l d t r e e' : List ℕ} {from m end next : ℕ} → Going s n l d t r e from m → from ≤ end → Split l d t end next next → length e' ≡ length e → Done r e e' from end → Going s n l d t r e' end next
goes {from = from} w h a long k = record {
  swap = w.swap;
  counts = w.counts;
  split = a;
  before = λ q g. ⊎_elim (λ (i : q < from). k.before q i ∙ w.before q i) (λ (i : from ≤ q). k.within q i g) (lt-or-le q from);
  rest = λ q g i. k.after q g ∙ w.rest q (omega arith) i;
  marks = λ q g i. k.after q (omega (arith, a.place)) ∙ w.marks q g (omega arith);
}

-- with all numbers exchanged nothing is left to move
all-swapped : {s : List ℕ} {n : ℕ} {l d t r e : List ℕ} {from m : ℕ} → Going s n l d t r e from m → longer d t ≤ m → Swapped r e
all-swapped {l = l} {d} {t} {r} {e} {from} {m} w h =
    let a : length d ≡ m = omega (arith, w.split.gone, w.split.come) in
    let b : length t ≡ m = omega (arith, w.split.gone, w.split.come) in
    let c : length r ≡ length l = omega (arith, swap-length w.swap) in
    let last : Split l d t (length l) m m = rw (a, b) at (split-ends w.swap) in
    record {
      front = λ q g. ⊎_elim (λ (i : q < from). w.before q i) (λ (i : from ≤ q). w.rest q i (omega arith) ∙ sym (between w.swap w.split last q q i (omega arith) refl).0) (lt-or-le q from);
      marks = λ q g i. w.marks q (omega arith) i;
    }

-- ---- a block moved up

module _ {d t e : List ℕ} {from u m next : ℕ} (a : StepRoom d t e from u m next true) where
  ups : (x : ℕ) → m ≤ x → x < next → (x < length t) × (x < length d → get_or t x 0 < get_or d x 0)
  ups x h g = rise→ d t x (a.run.each x h g)

  up-most : next ≤ length t
  up-most = omega (arith, a.run.some, (ups (next - 1) (omega (arith, a.run.some)) (omega (arith, a.run.some))).0)

  -- up to the end of all
  module _ (h : length d < next) where
    up-all : next ≡ length t
    up-all = ⊎_elim
        (λ (g : next < length t). absurd (a.run.stops (omega arith) (sym (rise-alone d t next g (omega arith)))))
        (λ (g : length t ≤ next). omega (arith, up-most))
        (lt-or-le next (length t))

    pub up_ends : {s : List ℕ} {n : ℕ} {e' : List ℕ} → length e' ≡ length e → Lifts s n d t e e' from u m (length d) next → Steps s n d t e e' from u m next u
    up_ends long f = record {
      within = omega arith;
      right = λ l r i w.
          let c = f l r (record { swap = w.swap; counts = w.counts; forward = a.forward; first = w.split; last = rw (i, sym up-all) at (split-ends w.swap); same = λ q g j. w.rest q g (omega arith) }) (λ x g j. (ups x g (omega arith)).1 j) in
          let many : u + (next - length d) ≡ length r = omega (arith, up-all, swap-length w.swap) in
          inr (
            omega (arith, up-all),
            record {
              front = λ q g. ⊎_elim (λ (j : q < from). c.before q j ∙ w.before q j) (λ (j : from ≤ q). c.within q j (omega arith)) (lt-or-le q from);
              marks = λ q g j. c.after q (omega arith) ∙ w.marks q (omega arith) (omega arith);
            },
          );
    }

  -- up to a number that is dropped
  module _ {s : List ℕ} {n k : ℕ} (h : next ≤ length d) (f : Finds s n (mid_of from (u - from) e) from (get_or d (next - 1) 0) k) where
    abbrev last-gone : ℕ
    last-gone = get_or d (next - 1) 0

    module _ {l r : List ℕ} (i : length l ≡ u) (w : Going s n l d t r e from m) where
      gone-there : (rank last-gone l < length l) × (get_or l (rank last-gone l) 0 ≡ last-gone)
      gone-there = rank-here w.swap.old last-gone (w.swap.there last-gone (member-at d (next - 1) (omega (arith, a.run.some))))

      gone_at : from + k ≡ rank last-gone l
      gone_at = found_at l e w.counts i a.room.within w.rest (passed w.swap.old w.swap.gone from m next a.run.some h w.split.place (λ q g. (w.split.below q g).0)) f

      gone-split : Split l d t (from + k + 1) next next
      gone-split =
          let x = last-gone in
          let e : suc (next - 1) ≡ next = omega (arith, a.run.some) in
          let dn : next < length d → x < get_or d next 0 = λ (g : next < length d). rw e at (rising-next w.swap.gone (next - 1) (omega arith)) in
          let stop : next < length t → (next < length d) × (get_or d next 0 ≤ get_or t next 0) = λ (g : next < length t). rise-not→ d t next (fails (rise d t next) (a.run.stops (omega arith))) g in
          split_at w.swap.gone w.swap.come x (from + k + 1) next
          (omega (arith, gone_at, gone-there.0)) h up-most (omega arith)
          (omega (arith, a.run.some, (ups (next - 1) (omega (arith, a.run.some)) (omega (arith, a.run.some))).1 (omega (arith, a.run.some))))
          dn
          (λ g. omega (arith, (stop g).1, dn (stop g).0))
          (λ q g. ⊎_elim (λ (j : q < rank x l). omega (arith, rank-low x l q j)) (λ (j : rank x l ≤ q). let y : q ≡ rank x l = omega (arith, gone_at) in rw y (omega (arith, gone-there.1))) (lt-or-le q (rank x l)))
          (λ q g j. rank-after w.swap.old x q (omega (arith, gone_at)) j)

    pub up-stops : from + k ≡ u → Steps s n d t e e from u m next u
    up-stops g = record { within = omega arith; right = λ l r i w. absurd (omega (arith, gone_at i w, (gone-there i w).0)) }

    up-within : (from + k ≡ u → ⊥) → from + k + 1 ≤ u
    up-within g = ⊎_elim (λ (j : from + k < u). omega arith) (λ (j : u ≤ from + k). absurd (g (omega (arith, f.within, a.forward, mid_len from u e a.room.within)))) (lt-or-le (from + k) u)

    pub lift-room : (from + k ≡ u → ⊥) → LiftRoom d t e from (from + k + 1) m next next
    lift-room g = record { forward = omega arith; gone = omega (arith, a.run.some); more = omega arith; all = h; new = up-most; room = omega (arith, up-within g, a.room.within) }

    pub up-turns : {e' : List ℕ} → (from + k ≡ u → ⊥) → length e' ≡ length e → Lifts s n d t e e' from (from + k + 1) m next next → Steps s n d t e e' from u m next (from + k + 1)
    up-turns {e'} g long j = record {
      within = up-within g;
      right = λ l r i w.
          let none : from + k + 1 + (next - next) ≡ from + k + 1 = omega arith in
          let c = j l r (record { swap = w.swap; counts = w.counts; forward = omega arith; first = w.split; last = gone-split i w; same = λ q b v. w.rest q b (omega (arith, up-within g)) }) (λ x b v. (ups x b v).1 (omega arith)) in
          inl (goes w (omega arith) (gone-split i w) long (rw none at c));
    }

-- ---- a block moved down

module _ {d t e : List ℕ} {from u m next : ℕ} (a : StepRoom d t e from u m next false) where
  down-most : next ≤ length d
  down-most = ⊎_elim
      (λ (g : next - 1 < length t). omega (arith, a.run.some, (rise-not→ d t (next - 1) (a.run.each (next - 1) (omega (arith, a.run.some)) (omega (arith, a.run.some))) g).0))
      (λ (g : length t ≤ next - 1). omega (arith, a.run.some, a.run.within))
      (lt-or-le (next - 1) (length t))

  -- a number that is dropped is in l, one that is taken up is not
  downs : {l r : List ℕ} → Swap l d t r → (x : ℕ) → m ≤ x → x < next → x < length t → get_or d x 0 < get_or t x 0
  downs {l} w x h g i =
      let c = rise-not→ d t x (a.run.each x h g) i in
      ⊎_elim
      (λ (j : get_or d x 0 < get_or t x 0). j)
      (λ (j : get_or t x 0 ≤ get_or d x 0).
      let e : get_or d x 0 ≡ get_or t x 0 = omega (arith, c.1) in
      absurd (w.fresh (get_or t x 0) (member-at t x i) (rw e at (w.there (get_or d x 0) (member-at d x c.0)))))
      (lt-or-le (get_or d x 0) (get_or t x 0))

  -- down to the end of all
  module _ (h : length t < next) where
    down-all : next ≡ length d
    down-all = ⊎_elim
        (λ (g : next < length d). absurd (a.run.stops (omega arith) (sym (rise-ended d t next (omega arith)))))
        (λ (g : length d ≤ next). omega (arith, down-most))
        (lt-or-le next (length d))

    pub down_ends : {s : List ℕ} {n : ℕ} {e' : List ℕ} → length e' ≡ length e → Sinks s n d t e e' from u m next (length t) → Steps s n d t e e' from u m next u
    down_ends long f = record {
      within = omega arith;
      right = λ l r i w.
          let c = f l r (record { swap = w.swap; counts = w.counts; forward = a.forward; first = w.split; last = rw (i, sym down-all) at (split-ends w.swap); same = λ q g j. w.rest q g (omega arith) }) (λ x g j. downs w.swap x g (omega arith) j) in
          let many : u - (next - length t) ≡ length r = omega (arith, down-all, swap-length w.swap) in
          inr (
            omega (arith, down-all),
            record {
              front = λ q g. ⊎_elim (λ (j : q < from). c.before q j ∙ w.before q j) (λ (j : from ≤ q). c.within q j (omega arith)) (lt-or-le q from);
              marks = λ q g j. ⊎_elim (λ (v : q < u). c.marks q (omega arith) v) (λ (v : u ≤ q). c.after q v ∙ w.marks q (omega arith) (omega arith)) (lt-or-le q u);
            },
          );
    }

  -- down to a number that is taken up
  module _ {s : List ℕ} {n k : ℕ} (h : next ≤ length t) (f : Finds s n (mid_of from (u - from) e) from (get_or t (next - 1) 0) k) where
    abbrev last-come : ℕ
    last-come = get_or t (next - 1) 0

    module _ {l r : List ℕ} (i : length l ≡ u) (w : Going s n l d t r e from m) where
      come-at : from + k ≡ rank last-come l
      come-at = found_at l e w.counts i a.room.within w.rest (passed w.swap.old w.swap.come from m next a.run.some h w.split.place (λ q g. (w.split.below q g).1)) f

      come-split : Split l d t (from + k) next next
      come-split =
          let x = last-come in
          let e : suc (next - 1) ≡ next = omega (arith, a.run.some) in
          let tn : next < length t → x < get_or t next 0 = λ (g : next < length t). rw e at (rising-next w.swap.come (next - 1) (omega arith)) in
          let stop : next < length d → (next < length t) × (next < length d → get_or t next 0 < get_or d next 0) = λ (g : next < length d). ⊎_elim (λ (j : rise d t next ≡ true). rise→ d t next j) (λ (j : rise d t next ≡ false). absurd (a.run.stops (omega arith) j)) (true-or-false (rise d t next)) in
          split_at w.swap.gone w.swap.come x (from + k) next
          (omega (arith, come-at, rank-le x l)) down-most h
          (omega (arith, downs w.swap (next - 1) (omega (arith, a.run.some)) (omega (arith, a.run.some)) (omega (arith, a.run.some))))
          (omega arith)
          (λ g. omega (arith, (stop g).1 g, tn (stop g).0))
          tn
          (λ q g. omega (arith, rank-low x l q (omega (arith, come-at))))
          (λ q g j. rank-off w.swap.old x (w.swap.fresh x (member-at t (next - 1) (omega (arith, a.run.some)))) q (omega (arith, come-at)) j)

    down-within : from + k ≤ u
    down-within = omega (arith, f.within, a.forward, mid_len from u e a.room.within)

    pub sink-room : SinkRoom d t e from (from + k) m next next
    sink-room = record { forward = omega arith; come = omega (arith, a.run.some); more = omega arith; all = down-most; new = h; room = omega (arith, down-within, a.room.within) }

    pub down-turns : {e' : List ℕ} → length e' ≡ length e → Sinks s n d t e e' from (from + k) m next next → Steps s n d t e e' from u m next (from + k)
    down-turns {e'} long j = record {
      within = down-within;
      right = λ l r i w.
          let c = j l r (record { swap = w.swap; counts = w.counts; forward = omega arith; first = w.split; last = come-split i w; same = λ q b v. w.rest q b (omega (arith, down-within)) }) (λ x b v. downs w.swap x b v (omega arith)) in
          inl (goes w (omega arith) (come-split i w) long (record { within = λ q b v. c.within q b (omega arith); before = c.before; after = c.after }));
    }

-- ---- all blocks

-- m numbers of both lists are exchanged in the first u of the entries e, up to `from`
pub record Passing (s : List ℕ) (n : ℕ) (d t : List ℕ) (u : ℕ) (e e' : List ℕ) (from m : ℕ) : Type 0 where
  pub long : length e' ≡ length e
  pub within : from ≤ u
  pub both : m < longer d t → (m ≤ length d) × (m ≤ length t)
  pub right : (r : List ℕ) → Swap (take u e) d t r → Counts s n (take u e) → drop u e ≡ replicate (length e - u) free → Reached s n (take u e) d t r e' from m

in_use : {d t e : List ℕ} {u : ℕ} → SwapRoom d t e u → length (take u e) ≡ u
in_use {d} {t} {e} {u} room = length-take-le u e room.within

module _ {s : List ℕ} {n : ℕ} {d t : List ℕ} {u : ℕ} {e : List ℕ} (room : SwapRoom d t e u) where
  pub pass-begins : Passing s n d t u e e 0 0
  pass-begins = record {
    long = refl;
    within = omega arith;
    both = λ _. (omega arith, omega arith);
    right = λ r w c f. inl (record {
      swap = w;
      counts = c;
      split = split-begins w;
      before = λ q h. absurd (omega arith);
      rest = λ q h g. sym (get_or-take u e q 0 (omega (arith, in_use room)));
      marks = λ q h g.
          let a : u + (q - u) ≡ q = omega (arith, in_use room) in
          ap (λ (i : ℕ). get_or e i 0) (sym a) ∙ sym (get_or-drop u e (q - u) 0) ∙ ap (λ (i : List ℕ). get_or i (q - u) 0) f ∙ get_or-replicate (length e - u) (q - u) free 0 (omega (arith, in_use room));
    });
  }

  module _ {e' : List ℕ} {from m : ℕ} (k : Passing s n d t u e e' from m) where
    pub pass-room : {next : ℕ} {up : Bool} → m < longer d t → Run d t m next up → StepRoom d t e' from u m next up
    pass-room h g = record { room = record { within = omega (arith, k.long, room.within); room = omega (arith, k.long, room.room) }; run = g; forward = k.within; gone = (k.both h).0; come = (k.both h).1 }

    pub pass-turns : {next at : ℕ} {up : Bool} {e'' : List ℕ} → m < longer d t → Run d t m next up → length e'' ≡ length e' → Steps s n d t e' e'' from u m next at → Passing s n d t u e e'' at next
    pass-turns {next} {at} {up} {e''} h g long f = record {
      long = long ∙ k.long;
      within = f.within;
      both = run-both g;
      right = λ r w c b. ⊎_elim
          (λ (i : Going s n (take u e) d t r e' from m). f.right (take u e) r (in_use room) i)
          (λ (i : (longer d t ≤ m) × Swapped r e'). absurd (omega (arith, i.0)))
          (k.right r w c b);
    }

    pub pass-ends : longer d t ≤ m → Swaps s n d t u e e'
    pass-ends h r w c f =
        let x : Swapped r e' = ⊎_elim (λ (i : Going s n (take u e) d t r e' from m). all-swapped i h) (λ (i : (longer d t ≤ m) × Swapped r e'). i.1) (k.right r w c f) in
        let rest = replicate (length e - length r) free in
        let fits : length r ≤ length e = omega (arith, swap-length w, room.room, in_use room) in
        let many : length (r ++ rest) ≡ length e = length-append r rest ∙ omega (arith, length-replicate (length e - length r) free) in
        ext_get_or 0 e' (r ++ rest) (k.long ∙ sym many) (λ (q : ℕ) (g : q < length e'). ⊎_elim
        (λ (i : q < length r). x.front q i ∙ sym (get_or-append r rest 0 q i))
        (λ (i : length r ≤ q).
        let a : length r + (q - length r) ≡ q = omega arith in
        x.marks q i g ∙ sym (ap (λ (j : ℕ). get_or (r ++ rest) j 0) (sym a) ∙ get_or-append-add r rest (q - length r) 0 ∙ get_or-replicate (length e - length r) (q - length r) free 0 (omega (arith, k.long))))
        (lt-or-le q (length r)))
