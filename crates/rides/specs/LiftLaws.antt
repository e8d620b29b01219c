-- Laws of a block moved up: how a range moves, how a key's place is found, how the loop begins, turns and ends.
use Rattle.std.specs.Prelude.{ℕ, zero, suc, ◌+◌, ◌-◌, ◌*◌, ◌<◌, ◌≤◌, ◌≡◌, refl, false, List, [], length, get_or, set}
use Rattle.std.proofs.Common.{ap, sym, ◌∙◌, ⊎_elim, arith, length-set, get_or-set_same, get_or-set_other}
use Rattle.order.specs.Rising.{Rising}
use Rattle.order.specs.Buffer.{rank}
use Rattle.order.specs.TestLaws.{lt-or-le, true-not-false}
use Rattle.order.specs.RisingLaws.{member-at}
use Rattle.entries.specs.Merge.{Guided, Limit, moved_up}
use Rattle.rides.specs.Swap.{Swap, Split, Counts, Block}
use Rattle.rides.specs.Blocks.{SeatIn, Up, LastDrop, LiftRoom, Lifts}
use Rattle.rides.specs.SwapLaws.{rank-least, rank_most, rank-own, rank-past, rank-there, from-rank, between, dropped-place, dropped-after, dropped-before, taken-place, taken-after, taken-before, was-taken-at}

-- ---- a range moved up

-- e' is e with the numbers from one place up to an end moved up by so many places; what they leave behind stands
record Raised (e e' : List ℕ) (from end by : ℕ) : Type 0 where
  long : length e' ≡ length e
  before : (q : ℕ) → q < from + by → get_or e' q 0 ≡ get_or e q 0
  moved : (q : ℕ) → from ≤ q → q < end → get_or e' (q + by) 0 ≡ get_or e q 0
  after : (q : ℕ) → end + by ≤ q → get_or e' q 0 ≡ get_or e q 0

raise : (from by d : ℕ) (e : List ℕ) → from + d + by ≤ length e → Raised e (moved_up from by d e) from (from + d) by
unfolding moved_up
raise from by zero e h = record { long = refl; before = λ q a. refl; moved = λ (q : ℕ) (a : from ≤ q) (b : q < from + 0). absurd (omega arith); after = λ q a. refl }
raise from by (suc d) e h =
    let top = from + d + by in
    let x = get_or e (from + d) 0 in
    let e₁ = set e top x in
    let other : (q : ℕ) → (q ≡ top → ⊥) → get_or e₁ q 0 ≡ get_or e q 0 = λ q f. get_or-set_other e top q x 0 f in
    let k = raise from by d e₁ (omega (arith, length-set e top x)) in
    record {
      long = k.long ∙ length-set e top x;
      before = λ (q : ℕ) (a : q < from + by). k.before q a ∙ other q (λ (z : q ≡ top). omega arith);
      moved = λ (q : ℕ) (a : from ≤ q) (b : q < from + suc d). ⊎_elim
          (λ (g : q < from + d). k.moved q a g ∙ other q (λ (z : q ≡ top). omega arith))
          (λ (g : from + d ≤ q). let z : q ≡ from + d = omega arith in rw z (k.after top (omega arith) ∙ get_or-set_same e top x 0 (omega arith)))
          (lt-or-le q (from + d));
      after = λ (q : ℕ) (a : from + suc d + by ≤ q). k.after q (omega arith) ∙ other q (λ (z : q ≡ top). omega arith);
    }

raised : {e e' : List ℕ} {from end by : ℕ} → from ≤ end → end + by ≤ length e → e' ≡ moved_up from by (end - from) e → Raised e e' from end by
raised {e} {e'} {from} {end} {by} h g w =
    let z : from + (end - from) ≡ end = omega arith in
    rw w (rw z at (raise from by (end - from) e (omega arith)))

-- ---- a key's place

-- where the starts count they guide
guides : (s l : List ℕ) (n end : ℕ) → Rising l → Counts s n l → end ≤ length l → Guided s n end l
guides s l n end h c g p a b i low high = from-rank h (p * 256) i (omega (arith, c p a b)) (omega arith)

-- of the entries up to an end no more than i lie before the key
pub record Most (s : List ℕ) (n : ℕ) (e : List ℕ) (from end key i : ℕ) : Type 0 where
  pub within : i ≤ end
  pub most : (l : List ℕ) → Rising l → Counts s n l → ((q : ℕ) → from ≤ q → q < end → get_or e q 0 ≡ get_or l q 0) → end ≤ length l → rank key l ≤ end → rank key l ≤ i

pub most-begins : {s : List ℕ} {n : ℕ} {e : List ℕ} {from end key i : ℕ} → ((l : List ℕ) → Limit s n l end key i) → Most s n e from end key i
most-begins {s} {n} {e} {from} {end} {key} {i} f = record {
  within = (f []).within;
  most = λ l h c same g k. ⊎_elim
      (λ (a : i < end). rank_most h key i (λ z. (f l).above (guides s l n end h c g) i (omega arith) a))
      (λ (a : end ≤ i). omega arith)
      (lt-or-le i end);
}

module _ {s : List ℕ} {n : ℕ} {e : List ℕ} {from end key i : ℕ} (p : Most s n e from end key i) where
  pub most-turns : from < i → key ≤ get_or e (i - 1) 0 → Most s n e from end key (i - 1)
  most-turns a b = record {
    within = omega (arith, p.within);
    most = λ l h c same g k. rank_most h key (i - 1) (λ z. omega (arith, same (i - 1) (omega arith) (omega (arith, p.within))));
  }

  pub most-found : from < i → get_or e (i - 1) 0 < key → SeatIn s n e from end key i
  most-found a b = record {
    within = p.within;
    is = λ l h c same g low k. omega (arith, p.most l h c same g k, rank-least h key i (omega (arith, p.within)) (λ z. omega (arith, same (i - 1) (omega arith) (omega (arith, p.within)))));
  }

  pub most-ends : i ≤ from → SeatIn s n e from end key i
  most-ends a = record { within = p.within; is = λ l h c same g low k. omega (arith, p.most l h c same g k) }

-- ---- the last number

-- none is left that is dropped
pub no_drop : (d t : List ℕ) (m i j : ℕ) → i ≤ m → LastDrop d t m i j false
no_drop d t m i j h = record { yes = λ e. absurd (true-not-false false e refl); no = λ e g. absurd (omega arith) }

module _ {l d t r : List ℕ} (h : Swap l d t r) where
  -- after a place that lies after m numbers of each
  module _ {p m : ℕ} (a : Split l d t p m m) where
    -- a number that is dropped later lies
    dropped-from : (i : ℕ) → m ≤ i → i < length d → p ≤ rank (get_or d i 0) l
    dropped-from i low high =
        let x = get_or d i 0 in
        let k = rank-there h.old x (h.there x (member-at d i high)) in
        ⊎_elim
        (λ (g : rank x l < p). absurd (omega (arith, (a.below (rank x l) g).0, rank-past h.gone i high, ap (λ (y : ℕ). rank (suc y) d) k.1)))
        (λ (g : p ≤ rank x l). g)
        (lt-or-le (rank x l) p)

    -- and one that is taken up later
    taken-from : (j : ℕ) → m ≤ j → j < length t → p ≤ rank (get_or t j 0) l
    taken-from j low high = rank-least h.old (get_or t j 0) p a.place (λ z. let y = get_or l (p - 1) 0 in omega (arith, from-rank h.come (suc y) j (omega (arith, (a.below (p - 1) (omega arith)).1)) high))

    -- which is above those dropped before
    taken-above : (i j : ℕ) → suc i ≡ m → m ≤ j → j < length t → get_or d i 0 < get_or t j 0
    taken-above i j e low high =
        let x = get_or d i 0 in
        let there : i < length d = omega (arith, a.gone) in
        let k = rank-there h.old x (h.there x (member-at d i there)) in
        ⊎_elim
        (λ (g : rank x l < p). from-rank h.come (suc x) j (omega (arith, (a.below (rank x l) g).1, ap (λ (y : ℕ). rank (suc y) t) k.1)) high)
        (λ (g : p ≤ rank x l). absurd (omega (arith, (a.above (rank x l) g k.0).0, rank-own h.gone i there, ap (λ (y : ℕ). rank y d) k.1)))
        (lt-or-le (rank x l) p)

  -- a number dropped is not one taken up
  apart : (i j : ℕ) → i < length d → j < length t → get_or d i 0 ≡ get_or t j 0 → ⊥
  apart i j a b e = h.fresh (get_or d i 0) (rw e (member-at t j b)) (h.there (get_or d i 0) (member-at d i a))

-- ---- a block moved up

-- what is left of the block lies before an end, after i numbers dropped and j taken up; after that r's stand, up to `top`
pub record Left (l d t r e e' : List ℕ) (from top end i j : ℕ) : Type 0 where
  pub split : Split l d t end i j
  pub forward : from ≤ end
  pub done : (q : ℕ) → end + (j - i) ≤ q → q < top → get_or e' q 0 ≡ get_or r q 0
  pub rest : (q : ℕ) → top ≤ q → get_or e' q 0 ≡ get_or e q 0

-- the block as it was given, and where its moving has come to
pub record Lifting (s : List ℕ) (n : ℕ) (d t e e' : List ℕ) (from end₀ m i₀ j₀ end i j : ℕ) : Type 0 where
  pub given : LiftRoom d t e from end₀ m i₀ j₀
  pub low : m ≤ i
  pub more : i ≤ j
  pub all : i ≤ i₀
  pub new : j ≤ j₀
  pub reached : end ≤ end₀
  pub within : end + (j - i) ≤ end₀ + (j₀ - i₀)
  pub long : length e' ≡ length e
  pub still : (q : ℕ) → q < end → get_or e' q 0 ≡ get_or e q 0
  pub right : (l r : List ℕ) → Block s n l d t r e from end₀ m i₀ j₀ → Up d t m i₀ → Left l d t r e e' from (end₀ + (j₀ - i₀)) end i j

pub lift-begins : {s : List ℕ} {n : ℕ} {d t e : List ℕ} {from end m i j : ℕ} → LiftRoom d t e from end m i j → Lifting s n d t e e from end m i j end i j
lift-begins {end = end} {i = i} {j = j} h = record {
  given = h;
  low = h.gone;
  more = h.more;
  all = omega arith;
  new = omega arith;
  reached = omega arith;
  within = omega arith;
  long = refl;
  still = λ q a. refl;
  right = λ l r b u. record {
    split = b.last;
    forward = b.forward;
    done = λ (q : ℕ) (low : end + (j - i) ≤ q) (high : q < end + (j - i)). absurd (omega arith);
    rest = λ q a. refl;
  };
}

module _ {s : List ℕ} {n : ℕ} {d t e e' : List ℕ} {from end₀ m i₀ j₀ end i j : ℕ} (p : Lifting s n d t e e' from end₀ m i₀ j₀ end i j) where
  abbrev top : ℕ
  top = end₀ + (j₀ - i₀)

  -- the range and the places that it moves over are there
  lift-room : end + (j - i) ≤ length e'
  lift-room = omega (arith, p.within, p.given.room, p.long)

  module _ {l r : List ℕ} (b : Block s n l d t r e from end₀ m i₀ j₀) (u : Up d t m i₀) where
    here : Left l d t r e e' from top end i j
    here = p.right l r b u

    same : (q : ℕ) → from ≤ q → q < end → get_or e' q 0 ≡ get_or l q 0
    same q low high = p.still q high ∙ b.same q low (omega (arith, p.reached))

    seat : {key at : ℕ} → SeatIn s n e' from end key at → from ≤ rank key l → rank key l ≤ end → at ≡ rank key l
    seat k low high = k.is l b.swap.old b.counts same here.split.place low high

    -- a range up to the end with as many before it, moved up
    range : {e'' : List ℕ} {at lo : ℕ} → Raised e' e'' at end (j - i) → Split l d t lo i j → at ≤ lo → from ≤ lo → (q : ℕ) → lo + (j - i) ≤ q → q < top → get_or e'' q 0 ≡ get_or r q 0
    range {e''} {at} {lo} k f g low q a c = ⊎_elim
        (λ (z : q < end + (j - i)).
        let w : q - (j - i) + (j - i) ≡ q = omega arith in
        ap (λ (v : ℕ). get_or e'' v 0) (sym w)
        ∙ k.moved (q - (j - i)) (omega arith) (omega arith)
        ∙ same (q - (j - i)) (omega arith) (omega arith)
        ∙ sym (between b.swap f here.split (q - (j - i)) q (omega arith) (omega arith) (omega (arith, p.more))).0)
        (λ (z : end + (j - i) ≤ q). k.after q z ∙ here.done q z c)
        (lt-or-le q (end + (j - i)))

    beyond : {e'' : List ℕ} {at : ℕ} → Raised e' e'' at end (j - i) → (q : ℕ) → top ≤ q → get_or e'' q 0 ≡ get_or e q 0
    beyond k q a = k.after q (omega (arith, p.within)) ∙ here.rest q a

  -- ---- the last number was dropped

  module _ {at i' : ℕ} (is : i ≡ suc i') (some : m ≤ i') (new : m < j) (next : get_or t (j - 1) 0 < get_or d i' 0) (k : SeatIn s n e' from end (get_or d i' 0) at) where
    before-drop : {l r : List ℕ} → Block s n l d t r e from end₀ m i₀ j₀ → Up d t m i₀ → Split l d t end (suc i') j
    before-drop b u = rw is at (here b u).split

    drop-seat : {l r : List ℕ} → Block s n l d t r e from end₀ m i₀ j₀ → Up d t m i₀ → (from ≤ at) × (at ≡ rank (get_or d i' 0) l) × (at < end)
    drop-seat {l} b u =
        let x = get_or d i' 0 in
        let f : from ≤ rank x l = dropped-from b.swap b.first i' some (before-drop b u).gone in
        let g : rank x l < end = (dropped-place b.swap (before-drop b u) (λ z. next)).0 in
        let e : at ≡ rank x l = seat b u k f (omega arith) in
        (omega arith, e, omega arith)

    -- so it is there
    pub lift-stops : at ≡ end → Lifts s n d t e e' from end₀ m i₀ j₀
    lift-stops h l r b u = absurd (omega (arith, (drop-seat b u).2))

    pub lift-drops : {e'' : List ℕ} → (at ≡ end → ⊥) → e'' ≡ moved_up at (j - i) (end - at) e' → Lifting s n d t e e'' from end₀ m i₀ j₀ at i' j
    lift-drops {e''} h w =
        let v = raised k.within lift-room w in
        record {
          given = p.given;
          low = some;
          more = omega (arith, p.more);
          all = omega (arith, p.all);
          new = p.new;
          reached = omega (arith, k.within, p.reached);
          within = omega (arith, k.within, p.within, p.more);
          long = v.long ∙ p.long;
          still = λ (q : ℕ) (a : q < at). v.before q (omega arith) ∙ p.still q (omega (arith, k.within));
          right = λ l r b u.
              let z = drop-seat b u in
              let f = before-drop b u in
              let first = dropped-before b.swap f (λ y. next) in
              let after = dropped-after b.swap f (λ y. next) in
              record {
                split = rw (sym z.1) at first;
                forward = z.0;
                done = λ (q : ℕ) (a : at + (j - i') ≤ q) (c : q < top). range b u v (rw (sym z.1, sym is) at after) (omega arith) (omega (arith, z.0)) q (omega (arith, p.more)) c;
                rest = beyond b u v;
              };
        }

  -- ---- the last number was taken up

  module _ {j' : ℕ} (is : j ≡ suc j') (new : m ≤ j') (next : m < i → get_or d (i - 1) 0 ≤ get_or t j' 0) where
    before-take : {l r : List ℕ} → Block s n l d t r e from end₀ m i₀ j₀ → Up d t m i₀ → Split l d t end i (suc j')
    before-take b u = rw is at (here b u).split

    take_last : {l r : List ℕ} → Block s n l d t r e from end₀ m i₀ j₀ → Up d t m i₀ → 0 < i → get_or d (i - 1) 0 < get_or t j' 0
    take_last b u z =
        let f = before-take b u in
        ⊎_elim
        (λ (g : m < i). ⊎_elim
        (λ (y : get_or d (i - 1) 0 < get_or t j' 0). y)
        (λ (y : get_or t j' 0 ≤ get_or d (i - 1) 0). absurd (apart b.swap (i - 1) j' (omega (arith, f.gone)) f.come (omega (arith, next g))))
        (lt-or-le (get_or d (i - 1) 0) (get_or t j' 0)))
        (λ (g : i ≤ m). taken-above b.swap b.first (i - 1) j' (omega (arith, p.low)) new f.come)
        (lt-or-le m i)

    -- as many dropped as taken up: then the last one was dropped
    pub lift-none : j - i ≡ 0 → Lifts s n d t e e' from end₀ m i₀ j₀
    lift-none h l r b u =
        let z : i - 1 ≡ j' = omega (arith, p.more) in
        absurd (omega (arith, next (omega (arith, p.more)), u (i - 1) (omega (arith, p.more)) (omega (arith, p.all, p.more)), ap (λ (y : ℕ). get_or t y 0) z))

    module _ {at : ℕ} (k : SeatIn s n e' from end (get_or t j' 0) at) where
      take-seat : {l r : List ℕ} → Block s n l d t r e from end₀ m i₀ j₀ → Up d t m i₀ → (from ≤ at) × (at ≡ rank (get_or t j' 0) l)
      take-seat {l} b u =
          let y = get_or t j' 0 in
          let f : from ≤ rank y l = taken-from b.swap b.first j' new (before-take b u).come in
          let e : at ≡ rank y l = seat b u k f (taken-place b.swap (before-take b u) (take_last b u)) in
          (omega arith, e)

      pub lift-takes : {e'' : List ℕ} → (j - i ≡ 0 → ⊥) → e'' ≡ moved_up at (j - i) (end - at) e' → Lifting s n d t e (set e'' (at + (j - i) - 1) (get_or t j' 0)) from end₀ m i₀ j₀ at i j'
      lift-takes {e''} h w =
          let v = raised k.within lift-room w in
          let y = get_or t j' 0 in
          let o = at + (j - i) - 1 in
          let other : (q : ℕ) → (q ≡ o → ⊥) → get_or (set e'' o y) q 0 ≡ get_or e'' q 0 = λ q f. get_or-set_other e'' o q y 0 f in
          let there : o < length e'' = omega (arith, lift-room, v.long, k.within) in
          record {
            given = p.given;
            low = p.low;
            more = omega (arith, p.more);
            all = p.all;
            new = omega (arith, p.new);
            reached = omega (arith, k.within, p.reached);
            within = omega (arith, k.within, p.within, p.more);
            long = length-set e'' o y ∙ v.long ∙ p.long;
            still = λ (q : ℕ) (a : q < at). other q (λ (z : q ≡ o). omega arith) ∙ v.before q (omega arith) ∙ p.still q (omega (arith, k.within));
            right = λ l r b u.
                let z = take-seat b u in
                let f = before-take b u in
                let last = take_last b u in
                record {
                  split = rw (sym z.1) at (taken-before b.swap f last);
                  forward = z.0;
                  done = λ (q : ℕ) (a : at + (j' - i) ≤ q) (c : q < top). ⊎_elim
                      (λ (g : q < at + (j - i)).
                      let e : q ≡ o = omega arith in
                      rw e (get_or-set_same e'' o y 0 there ∙ sym (was-taken-at b.swap f last o (omega (arith, z.1, p.more))).0))
                      (λ (g : at + (j - i) ≤ q). other q (λ (x : q ≡ o). omega arith) ∙ range b u v (rw (sym z.1, sym is) at (taken-after b.swap f last)) (omega arith) z.0 q g c)
                      (lt-or-le q (at + (j - i)));
                  rest = λ (q : ℕ) (a : top ≤ q). other q (λ (x : q ≡ o). omega (arith, k.within, p.within)) ∙ beyond b u v q a;
                };
          }

  -- ---- none is left

  pub lift-ends : j ≤ m → Lifts s n d t e e' from end₀ m i₀ j₀
  lift-ends h l r b u =
      let k = here b u in
      let x : i ≡ m = omega (arith, p.low, p.more) in
      let y : j ≡ m = omega (arith, p.low, p.more) in
      record {
        within = λ (q : ℕ) (a : from ≤ q) (c : q < top). ⊎_elim
            (λ (z : q < end). same b u q a z ∙ sym (between b.swap b.first (rw (x, y) at k.split) q q a z refl).0)
            (λ (z : end ≤ q). k.done q (omega arith) c)
            (lt-or-le q end);
        before = λ (q : ℕ) (a : q < from). p.still q (omega (arith, k.forward));
        after = k.rest;
      }
