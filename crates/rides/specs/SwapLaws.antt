-- Laws of numbers taken out of a rising list and others put in.
use Rattle.std.specs.Prelude.{ℕ, zero, suc, ◌+◌, ◌-◌, ◌<◌, ◌≤◌, ◌≡◌, length, get_or}
use Rattle.std.proofs.Common.{ap, sym, ◌∙◌, ⊎_elim, arith}
use mathlib.Core.List.{List, Memᴰ}
use Rattle.order.specs.Rising.{Rising, none, more}
use Rattle.order.specs.Buffer.{rank}
use Rattle.order.specs.TestLaws.{lt-or-le}
use Rattle.order.specs.RisingLaws.{member-at, index_of, rising-next}
use Rattle.order.specs.BufferLaws.{rank-le}
use Rattle.order.specs.RankLaws.{rank_is, rank-low, rank-high}
use Rattle.entries.specs.GapLaws.{rank-more}
use Rattle.rides.specs.Swap.{Swap, Split}

-- ---- ranks in a rising list

-- later numbers are greater
rising-lt : {l : List ℕ} → Rising l → (a b : ℕ) → a < b → b < length l → get_or l a 0 < get_or l b 0
rising-lt none a b h g = absurd (omega arith)
rising-lt (more f r) zero zero h g = absurd (omega arith)
rising-lt (more {xs = xs} f r) zero (suc b) h g = f (get_or xs b 0) (member-at xs b (omega arith))
rising-lt (more f r) (suc a) zero h g = absurd (omega arith)
rising-lt (more f r) (suc a) (suc b) h g = rising-lt r a b (omega arith) (omega arith)

rising_le : {l : List ℕ} → Rising l → (a b : ℕ) → a ≤ b → b < length l → get_or l a 0 ≤ get_or l b 0
rising_le {l} r a b h g = ⊎_elim
    (λ (k : a < b). omega (arith, rising-lt r a b k g))
    (λ (k : b ≤ a). let e : a ≡ b = omega arith in omega (arith, ap (λ (x : ℕ). get_or l x 0) e))
    (lt-or-le a b)

-- i numbers lie below x just if the one before place i does, and at most i just if the one at place i does not
pub rank-least : {l : List ℕ} → Rising l → (x i : ℕ) → i ≤ length l → (0 < i → get_or l (i - 1) 0 < x) → i ≤ rank x l
rank-least {l} h x i g f = ⊎_elim
    (λ (k : rank x l < i). absurd (omega (arith, rank-high x l (omega arith), rising_le h (rank x l) (i - 1) (omega arith) (omega arith), f (omega arith))))
    (λ (k : i ≤ rank x l). k)
    (lt-or-le (rank x l) i)

pub rank_most : {l : List ℕ} → Rising l → (x i : ℕ) → (i < length l → x ≤ get_or l i 0) → rank x l ≤ i
rank_most {l} h x i f = ⊎_elim
    (λ (k : i < rank x l). absurd (omega (arith, rank-low x l i k, f (omega (arith, rank-le x l)))))
    (λ (k : rank x l ≤ i). k)
    (lt-or-le i (rank x l))

-- the rank of a number of the list is its place
pub rank-own : {l : List ℕ} → Rising l → (i : ℕ) → i < length l → rank (get_or l i 0) l ≡ i
rank-own {l} h i g = sym (rank_is (get_or l i 0) l i h (omega arith) (λ (k : ℕ) (e : suc k ≡ i). rising-lt h k i (omega arith) g) (λ k. omega arith))

-- and one more lies below the next number
pub rank-past : {l : List ℕ} → Rising l → (i : ℕ) → i < length l → rank (suc (get_or l i 0)) l ≡ suc i
rank-past {l} h i g =
    let x = get_or l i 0 in
    omega (
      arith,
      rank-least h (suc x) (suc i) (omega arith) (λ k. let e : suc i - 1 ≡ i = omega arith in omega (arith, ap (λ (q : ℕ). get_or l q 0) e)),
      rank_most h (suc x) (suc i) (λ (k : suc i < length l). omega (arith, rising-lt h i (suc i) (omega arith) k)),
    )

-- from the rank on all are at least x
pub from-rank : {l : List ℕ} → Rising l → (x q : ℕ) → rank x l ≤ q → q < length l → x ≤ get_or l q 0
from-rank {l} h x q a b = omega (arith, rank-high x l (omega arith), rising_le h (rank x l) q a b)

-- the number x is there, at its rank
pub rank-there : {l : List ℕ} → Rising l → (x : ℕ) → Memᴰ x l → (rank x l < length l) × (get_or l (rank x l) 0 ≡ x)
rank-there {l} h x m =
    let k = index_of l x m in
    let e : rank x l ≡ k.0 = ap (λ (y : ℕ). rank y l) (sym k.2) ∙ rank-own h k.0 k.1 in
    (omega (arith, e, k.1), ap (λ (q : ℕ). get_or l q 0) e ∙ k.2)

-- below a number that is greater than the last of them lie all
rank-all : {l : List ℕ} → Rising l → (x : ℕ) → get_or l (length l - 1) 0 < x → rank x l ≡ length l
rank-all {l} h x g = omega (arith, rank-least h x (length l) (omega arith) (λ k. g), rank-le x l)

-- where one more lies below suc x than below x, there is x
at-rank : {l : List ℕ} → Rising l → (x v : ℕ) → rank x l ≡ v → rank (suc x) l ≡ suc v → (get_or l v 0 ≡ x) × (v < length l)
at-rank {l} h x v a b =
    let there : v < length l = omega (arith, rank-le (suc x) l) in
    (omega (arith, from-rank h x v (omega arith) there, rank-low (suc x) l v (omega arith)), there)

-- a number below x lies before x's rank
rank-before : {l : List ℕ} → Rising l → (x q : ℕ) → q < length l → get_or l q 0 < x → q < rank x l
rank-before {l} h x q g f =
    let e : suc q - 1 ≡ q = omega arith in
    omega (arith, rank-least h x (suc q) (omega arith) (λ (_ : 0 < suc q). rw e f))

-- as many lie below the next number where x is not in the list
rank-skips : {l : List ℕ} → Rising l → (x : ℕ) → (Memᴰ x l → ⊥) → rank (suc x) l ≡ rank x l
rank-skips {l} h x out = omega (arith, most, least)
  where
    most : rank (suc x) l ≤ rank x l
    most = rank_most h (suc x) (rank x l) (λ (g : rank x l < length l). ⊎_elim
        (λ (b : x < get_or l (rank x l) 0). omega arith)
        (λ (b : get_or l (rank x l) 0 ≤ x).
        let e : get_or l (rank x l) 0 ≡ x = omega (arith, rank-high x l g) in
        absurd (out (rw e at (member-at l (rank x l) g))))
        (lt-or-le x (get_or l (rank x l) 0)))

    least : rank x l ≤ rank (suc x) l
    least = rank-least h (suc x) (rank x l) (rank-le x l) (λ (g : 0 < rank x l). omega (arith, rank-low x l (rank x l - 1) (omega arith)))

module _ {l d t r : List ℕ} (h : Swap l d t r) where
  pub swap-length : length r + length d ≡ length l + length t
  swap-length =
      let x = suc (get_or l (length l - 1) 0 + get_or d (length d - 1) 0 + get_or t (length t - 1) 0 + get_or r (length r - 1) 0) in
      omega (arith, h.each x, rank-all h.old x (omega arith), rank-all h.gone x (omega arith), rank-all h.come x (omega arith), rank-all h.new x (omega arith))

  pub split-begins : Split l d t 0 0 0
  split-begins = record {
    place = omega arith;
    gone = omega arith;
    come = omega arith;
    below = λ (q : ℕ) (b : q < 0). absurd (omega arith);
    above = λ q b g. (omega arith, omega arith);
  }

  pub split-ends : Split l d t (length l) (length d) (length t)
  split-ends = record {
    place = omega arith;
    gone = omega arith;
    come = omega arith;
    below = λ q b. (rank-le (suc (get_or l q 0)) d, rank-le (suc (get_or l q 0)) t);
    above = λ (q : ℕ) (b : length l ≤ q) (g : q < length l). absurd (omega arith);
  }

  -- between two places with the same numbers before them r has what l has, so many places further on
  pub between : {p p' i j : ℕ} → Split l d t p i j → Split l d t p' i j → (q v : ℕ) → p ≤ q → q < p' → v + i ≡ q + j → (get_or r v 0 ≡ get_or l q 0) × (v < length r)
  between {p} {p'} {i} {j} a b q v low high e =
      let x = get_or l q 0 in
      let there : q < length l = omega (arith, b.place) in
      let up = a.above q low there in
      let down = b.below q high in
      let one : rank x r ≡ v = omega (arith, h.each x, rank-own h.old q there, up, down, rank-more x (suc x) d (omega arith), rank-more x (suc x) t (omega arith)) in
      let two : rank (suc x) r ≡ suc v = omega (arith, h.each (suc x), rank-past h.old q there, up, down, rank-more x (suc x) d (omega arith), rank-more x (suc x) t (omega arith)) in
      at-rank h.new x v one two

  -- ---- where the numbers of both lists lie

  -- a number that is dropped stands at its rank
  gone_at : (x : ℕ) → x < length d → (rank (get_or d x 0) l < length l) × (get_or l (rank (get_or d x 0) l) 0 ≡ get_or d x 0)
  gone_at x g =
      let k = index_of l (get_or d x 0) (h.there (get_or d x 0) (member-at d x g)) in
      let e : rank (get_or d x 0) l ≡ k.0 = ap (λ (y : ℕ). rank y l) (sym k.2) ∙ rank-own h.old k.0 k.1 in
      rw e (k.1, k.2)

  -- no number is in both lists
  pub apart : (x y : ℕ) → x < length d → y < length t → get_or d x 0 ≡ get_or t y 0 → ⊥
  apart x y f g e = h.fresh (get_or t y 0) (member-at t y g) (h.there (get_or t y 0) (rw e at (member-at d x f)))

  module _ {p i j : ℕ} (a : Split l d t p i j) where
    -- those dropped before place p, and the others
    pub gone-low : (x : ℕ) → x < i → rank (get_or d x 0) l < p
    gone-low x f =
        let q = rank (get_or d x 0) l in
        let g : x < length d = omega (arith, a.gone) in
        ⊎_elim
        (λ (b : q < p). b)
        (λ (b : p ≤ q). absurd (omega (arith, (a.above q b (gone_at x g).0).0, ap (λ (y : ℕ). rank y d) (gone_at x g).1, rank-own h.gone x g)))
        (lt-or-le q p)

    gone-high : (x : ℕ) → i ≤ x → x < length d → p ≤ rank (get_or d x 0) l
    gone-high x f g =
        let q = rank (get_or d x 0) l in
        ⊎_elim
        (λ (b : q < p). absurd (omega (arith, (a.below q b).0, ap (λ (y : ℕ). rank (suc y) d) (gone_at x g).1, rank-before h.gone (suc (get_or d x 0)) x g (omega arith))))
        (λ (b : p ≤ q). b)
        (lt-or-le q p)

    -- those taken up before it, and the others
    pub come-low : (x : ℕ) → x < j → rank (get_or t x 0) l ≤ p
    come-low x f = rank_most h.old (get_or t x 0) p (λ (g : p < length l). omega (arith, rank-low (get_or l p 0) t x (omega (arith, (a.above p (omega arith) g).1))))

    come-high : (x : ℕ) → j ≤ x → x < length t → (q : ℕ) → q < p → get_or l q 0 < get_or t x 0
    come-high x f g q b = ⊎_elim
        (λ (k : get_or l q 0 < get_or t x 0). k)
        (λ (k : get_or t x 0 ≤ get_or l q 0). absurd (omega (arith, (a.below q b).1, rank-before h.come (suc (get_or l q 0)) x g (omega arith))))
        (lt-or-le (get_or l q 0) (get_or t x 0))

    -- numbers of one list before it are below numbers of the other after it
    pub gone-below : (x y : ℕ) → x < i → j ≤ y → y < length t → get_or d x 0 < get_or t y 0
    gone-below x y f b g = omega (arith, come-high y b g (rank (get_or d x 0) l) (gone-low x f), (gone_at x (omega (arith, a.gone))).1)

    pub come-below : (x y : ℕ) → x < j → i ≤ y → y < length d → get_or t x 0 < get_or d y 0
    come-below x y f b g =
        let q = rank (get_or d y 0) l in
        let k = gone_at y g in
        omega (arith, k.1, rank-low (get_or l q 0) t x (omega (arith, (a.above q (gone-high y b g) k.0).1)))

  -- ---- forward: the next number

  -- the next one is dropped
  module _ {p i j : ℕ} (a : Split l d t p i j) (there : i < length d) (next : j < length t → get_or d i 0 < get_or t j 0) where
    pub drop-place : (p ≤ rank (get_or d i 0) l) × (rank (get_or d i 0) l < length l) × (get_or l (rank (get_or d i 0) l) 0 ≡ get_or d i 0)
    drop-place = let k = gone_at i there in (gone-high a i (omega arith) there, k.0, k.1)

    -- the numbers of both lists up to those at i and j lie before an entry that is below the next one
    under : (q : ℕ) → get_or l q 0 < get_or d i 0 → (rank (suc (get_or l q 0)) d ≤ i) × (rank (suc (get_or l q 0)) t ≤ j)
    under q b = (rank_most h.gone (suc (get_or l q 0)) i (λ _. omega arith), rank_most h.come (suc (get_or l q 0)) j (λ (g : j < length t). omega (arith, next g)))

    pub drop-before : Split l d t (rank (get_or d i 0) l) i j
    drop-before = record {
      place = omega (arith, drop-place.1);
      gone = a.gone;
      come = a.come;
      below = λ (q : ℕ) (b : q < rank (get_or d i 0) l). under q (rank-low (get_or d i 0) l q b);
      above = λ (q : ℕ) (b : rank (get_or d i 0) l ≤ q) (g : q < length l). a.above q (omega (arith, drop-place.0)) g;
    }

    pub drop-after : Split l d t (suc (rank (get_or d i 0) l)) (suc i) j
    drop-after = record {
      place = omega (arith, drop-place.1);
      gone = omega arith;
      come = a.come;
      below = λ (q : ℕ) (b : q < suc (rank (get_or d i 0) l)).
          let k : get_or l q 0 ≤ get_or d i 0 = low q b in
          (rank_most h.gone (suc (get_or l q 0)) (suc i) (λ (g : suc i < length d). omega (arith, rising-next h.gone i g)), rank_most h.come (suc (get_or l q 0)) j (λ (g : j < length t). omega (arith, next g)));
      above = λ (q : ℕ) (b : suc (rank (get_or d i 0) l) ≤ q) (g : q < length l).
          let k : get_or d i 0 < get_or l q 0 = high q b g in
          (omega (arith, rank-before h.gone (get_or l q 0) i there k), (a.above q (omega (arith, drop-place.0)) g).1);
    }
      where
        low : (q : ℕ) → q < suc (rank (get_or d i 0) l) → get_or l q 0 ≤ get_or d i 0
        low q b = ⊎_elim
            (λ (k : q < rank (get_or d i 0) l). omega (arith, rank-low (get_or d i 0) l q k))
            (λ (k : rank (get_or d i 0) l ≤ q). let e : q ≡ rank (get_or d i 0) l = omega arith in rw e (omega (arith, drop-place.2)))
            (lt-or-le q (rank (get_or d i 0) l))

        high : (q : ℕ) → suc (rank (get_or d i 0) l) ≤ q → q < length l → get_or d i 0 < get_or l q 0
        high q b g = ⊎_elim
            (λ (k : get_or d i 0 < get_or l q 0). k)
            (λ (k : get_or l q 0 ≤ get_or d i 0).
            let e : get_or l q 0 ≡ get_or d i 0 = omega (arith, from-rank h.old (get_or d i 0) q (omega arith) g) in
            absurd (omega (arith, rank-own h.old q g, ap (λ (y : ℕ). rank y l) e)))
            (lt-or-le (get_or d i 0) (get_or l q 0))

  -- the next one is taken up
  module _ {p i j : ℕ} (a : Split l d t p i j) (there : j < length t) (next : i < length d → get_or t j 0 < get_or d i 0) where
    pub take-place : (p ≤ rank (get_or t j 0) l) × (rank (get_or t j 0) l ≤ length l)
    take-place = (rank-least h.old (get_or t j 0) p a.place (λ (g : 0 < p). come-high a j (omega arith) there (p - 1) (omega arith)), rank-le (get_or t j 0) l)

    pub take-before : Split l d t (rank (get_or t j 0) l) i j
    take-before = record {
      place = take-place.1;
      gone = a.gone;
      come = a.come;
      below = λ (q : ℕ) (b : q < rank (get_or t j 0) l).
          let k = rank-low (get_or t j 0) l q b in
          (rank_most h.gone (suc (get_or l q 0)) i (λ (g : i < length d). omega (arith, next g)), rank_most h.come (suc (get_or l q 0)) j (λ _. omega arith));
      above = λ (q : ℕ) (b : rank (get_or t j 0) l ≤ q) (g : q < length l). a.above q (omega (arith, take-place.0)) g;
    }

    pub take_after : Split l d t (rank (get_or t j 0) l) i (suc j)
    take_after = record {
      place = take-place.1;
      gone = a.gone;
      come = omega arith;
      below = λ (q : ℕ) (b : q < rank (get_or t j 0) l). let k = take-before.below q b in (k.0, omega (arith, k.1));
      above = λ (q : ℕ) (b : rank (get_or t j 0) l ≤ q) (g : q < length l). ((take-before.above q b g).0, omega (arith, rank-before h.come (get_or l q 0) j there (high q b g)));
    }
      where
        high : (q : ℕ) → rank (get_or t j 0) l ≤ q → q < length l → get_or t j 0 < get_or l q 0
        high q b g = ⊎_elim
            (λ (k : get_or t j 0 < get_or l q 0). k)
            (λ (k : get_or l q 0 ≤ get_or t j 0).
            let e : get_or l q 0 ≡ get_or t j 0 = omega (arith, from-rank h.old (get_or t j 0) q b g) in
            absurd (h.fresh (get_or t j 0) (member-at t j there) (rw e at (member-at l q g))))
            (lt-or-le (get_or t j 0) (get_or l q 0))

    -- i numbers of d lie below it
    gone-under : rank (get_or t j 0) d ≡ i
    gone-under = omega (arith, rank_most h.gone (get_or t j 0) i (λ (g : i < length d). omega (arith, next g)), rank-least h.gone (get_or t j 0) i a.gone (λ (g : 0 < i). gone-below a (i - 1) j (omega arith) (omega arith) there))

    pub taken_at : (v : ℕ) → v + i ≡ rank (get_or t j 0) l + j → (get_or r v 0 ≡ get_or t j 0) × (v < length r)
    taken_at v e =
        let x = get_or t j 0 in
        let new = member-at t j there in
        let at : v ≡ rank x r = omega (arith, h.each x, gone-under, rank-own h.come j there) in
        let one : rank (suc x) t ≡ suc j = omega (arith, rank-before h.come (suc x) j there (omega arith), rank_most h.come (suc x) (suc j) (λ (g : suc j < length t). omega (arith, rising-next h.come j g))) in
        let two : rank (suc x) r ≡ suc v = omega (arith, h.each (suc x), one, gone-under, rank-skips h.old x (h.fresh x new), rank-skips h.gone x (λ m. h.fresh x new (h.there x m))) in
        at-rank h.new x v (sym at) two

  -- ---- backward: the last number

  -- the last one was dropped
  module _ {end i j : ℕ} (a : Split l d t end (suc i) j) (next : 0 < j → get_or t (j - 1) 0 < get_or d i 0) where
    -- it is a number of l
    dropped-there : (rank (get_or d i 0) l < length l) × (get_or l (rank (get_or d i 0) l) 0 ≡ get_or d i 0)
    dropped-there = rank-there h.old (get_or d i 0) (h.there (get_or d i 0) (member-at d i (omega (arith, a.gone))))

    pub dropped-place : (rank (get_or d i 0) l < end) × (get_or l (rank (get_or d i 0) l) 0 ≡ get_or d i 0)
    dropped-place =
        let x = get_or d i 0 in
        let k = dropped-there in (
          ⊎_elim
              (λ (g : rank x l < end). g)
              (λ (g : end ≤ rank x l). absurd (omega (arith, (a.above (rank x l) g k.0).0, rank-own h.gone i (omega (arith, a.gone)), ap (λ (y : ℕ). rank y d) k.1)))
              (lt-or-le (rank x l) end),
          k.1,
        )

    pub dropped-after : Split l d t (suc (rank (get_or d i 0) l)) (suc i) j
    dropped-after =
        let x = get_or d i 0 in
        let k = dropped-place in
        let later : (q : ℕ) → suc (rank x l) ≤ q → q < length l → x < get_or l q 0 = λ (q : ℕ) (low : suc (rank x l) ≤ q) (high : q < length l). omega (arith, k.1, rising-lt h.old (rank x l) q low high) in
        record {
          place = omega (arith, k.0, a.place);
          gone = a.gone;
          come = a.come;
          below = λ (q : ℕ) (g : q < suc (rank x l)). a.below q (omega (arith, k.0));
          above = λ (q : ℕ) (low : suc (rank x l) ≤ q) (high : q < length l). (
            rank-least h.gone (get_or l q 0) (suc i) a.gone (λ z. let e : suc i - 1 ≡ i = omega arith in omega (arith, ap (λ (w : ℕ). get_or d w 0) e, later q low high)),
            rank-least h.come (get_or l q 0) j a.come (λ z. omega (arith, next z, later q low high)),
          );
        }

    pub dropped-before : Split l d t (rank (get_or d i 0) l) i j
    dropped-before =
        let x = get_or d i 0 in
        let k = dropped-place in
        record {
          place = omega (arith, k.0, a.place);
          gone = omega (arith, a.gone);
          come = a.come;
          below = λ (q : ℕ) (g : q < rank x l). (
            rank_most h.gone (suc (get_or l q 0)) i (λ z. omega (arith, rank-low x l q g)),
            (a.below q (omega (arith, k.0))).1,
          );
          above = λ (q : ℕ) (low : rank x l ≤ q) (high : q < length l).
              let b : x ≤ get_or l q 0 = from-rank h.old x q low high in (
                rank-least h.gone (get_or l q 0) i (omega (arith, a.gone)) (λ z. omega (arith, b, rising-lt h.gone (i - 1) i (omega arith) a.gone)),
                rank-least h.come (get_or l q 0) j a.come (λ z. omega (arith, b, next z)),
              );
        }

  -- the last one was taken up
  module _ {end i j : ℕ} (a : Split l d t end i (suc j)) (next : 0 < i → get_or d (i - 1) 0 < get_or t j 0) where
    pub taken-place : rank (get_or t j 0) l ≤ end
    taken-place = rank_most h.old (get_or t j 0) end (λ (g : end < length l). omega (arith, rank-low (get_or l end 0) t j (omega (arith, (a.above end (omega arith) g).1))))

    -- it is not a number of l: from its rank on all are greater
    taken-apart : (q : ℕ) → rank (get_or t j 0) l ≤ q → q < length l → get_or t j 0 < get_or l q 0
    taken-apart q low high = ⊎_elim
        (λ (g : get_or t j 0 < get_or l q 0). g)
        (λ (g : get_or l q 0 ≤ get_or t j 0).
        let e : get_or l q 0 ≡ get_or t j 0 = omega (arith, from-rank h.old (get_or t j 0) q low high) in
        absurd (h.fresh (get_or l q 0) (rw e (member-at t j a.come)) (member-at l q high)))
        (lt-or-le (get_or t j 0) (get_or l q 0))

    -- the next number dropped lies after it
    taken_next : i < length d → get_or t j 0 < get_or d i 0
    taken_next g =
        let x = get_or d i 0 in
        let k = rank-there h.old x (h.there x (member-at d i g)) in
        ⊎_elim
        (λ (b : rank x l < end). absurd (omega (arith, (a.below (rank x l) b).0, rank-past h.gone i g, ap (λ (y : ℕ). rank (suc y) d) k.1)))
        (λ (b : end ≤ rank x l). omega (arith, k.1, taken-apart (rank x l) (omega (arith, taken-place)) k.0))
        (lt-or-le (rank x l) end)

    pub taken-after : Split l d t (rank (get_or t j 0) l) i (suc j)
    taken-after =
        let y = get_or t j 0 in
        record {
          place = rank-le y l;
          gone = a.gone;
          come = a.come;
          below = λ (q : ℕ) (g : q < rank y l). a.below q (omega (arith, taken-place));
          above = λ (q : ℕ) (low : rank y l ≤ q) (high : q < length l).
              let b : y < get_or l q 0 = taken-apart q low high in (
                rank-least h.gone (get_or l q 0) i a.gone (λ z. omega (arith, b, next z)),
                rank-least h.come (get_or l q 0) (suc j) a.come (λ z. let e : suc j - 1 ≡ j = omega arith in omega (arith, b, ap (λ (w : ℕ). get_or t w 0) e)),
              );
        }

    pub taken-before : Split l d t (rank (get_or t j 0) l) i j
    taken-before =
        let y = get_or t j 0 in
        let k = taken-after in
        record {
          place = k.place;
          gone = k.gone;
          come = omega (arith, k.come);
          below = λ (q : ℕ) (g : q < rank y l). ((k.below q g).0, rank_most h.come (suc (get_or l q 0)) j (λ z. omega (arith, rank-low y l q g)));
          above = λ (q : ℕ) (low : rank y l ≤ q) (high : q < length l). let b = k.above q low high in (b.0, omega (arith, b.1));
        }

    pub was-taken-at : (v : ℕ) → v + i ≡ rank (get_or t j 0) l + j → (get_or r v 0 ≡ get_or t j 0) × (v < length r)
    was-taken-at v e =
        let y = get_or t j 0 in
        let dropped : (i ≤ rank y d) × (rank (suc y) d ≤ i) = (rank-least h.gone y i a.gone next, rank_most h.gone (suc y) i (λ z. omega (arith, taken_next z))) in
        let up : rank y d ≤ rank (suc y) d = rank-more y (suc y) d (omega arith) in
        let same : rank (suc y) l ≡ rank y l = omega (arith, rank-more y (suc y) l (omega arith), rank_most h.old (suc y) (rank y l) (λ z. omega (arith, taken-apart (rank y l) (omega arith) z))) in
        let one : rank y r ≡ v = omega (arith, h.each y, rank-own h.come j a.come, dropped, up) in
        let two : rank (suc y) r ≡ suc v = omega (arith, h.each (suc y), rank-past h.come j a.come, dropped, up, same) in
        at-rank h.new y v one two
