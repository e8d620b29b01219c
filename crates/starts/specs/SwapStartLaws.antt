-- Laws of starts moved by keys that are dropped and others that are taken up: from key to key, the lower of the next two first.
use Rattle.std.specs.Prelude.{◌≡◌, ℕ, ◌+◌, ◌-◌, ◌*◌, ◌%◌, ◌^◌, ◌<◌, ◌≤◌, Bool, true, false, List, length, take, drop, slice_index, refl}
use Rattle.std.proofs.Common.{ap, ap₂, sym, ◌∙◌, ⊎_elim, arith, add-one, zero-add, add-zero, length-drop, get_or-take, get_or-drop, length-take-le}
use Rattle.order.specs.TestLaws.{lt-or-le}
use Rattle.order.specs.Buffer.{rank, Lower}
use Rattle.order.specs.BufferLaws.{rank-stop, rank-go, rank-end}
use Rattle.starts.specs.Starts.{Reaches}
use Rattle.starts.specs.Shift.{shifted, Shifts, plus, less}
use Rattle.starts.specs.SwapStarts.{SwapKeys, Swapped}

-- ---- the next key

-- one of two keys is left: the next is the one at i, or else the one at j, which is not above the other
pub record NextKey (l : List ℕ) (i gone j end : ℕ) (r : Bool) : Type 0 where
  pub first : r ≡ true → (i < gone) × (j < end → slice_index l i ≤ slice_index l j)
  pub second : r ≡ false → (j < end) × (i < gone → slice_index l j ≤ slice_index l i)

pub next-key : {l : List ℕ} {i gone j end : ℕ} {r : Bool} → i + j < gone + end → Lower l i gone j end r → NextKey l i gone j end r
next-key {i = i} {gone = gone} h k = record {
  first = λ e. ((k.yes e).0, λ g. omega (arith, (k.yes e).1 g));
  second = λ e. (⊎_elim (λ (g : i < gone). (k.no e g).0) (λ (g : gone ≤ i). omega arith) (lt-or-le i gone), λ g. (k.no e g).1);
}

-- ---- down by i and up by j at once

abbrev pub both : ℕ → ℕ → ℕ
both i j = (less i + plus j) % 2 ^ 32

both-shift : (i j x : ℕ) → shifted (both i j) x ≡ shifted (less i) (shifted (plus j) x)
both-shift i j x = omega arith

both-down : (i j v v' : ℕ) → v' < 2 ^ 32 → (v' + 1) % 2 ^ 32 ≡ v → v ≡ both i j → v' ≡ both (i + 1) j
both-down i j v v' h e f = back (less i) (less (i + 1)) (omega arith) e f
  where
    back : (a b : ℕ) → (b + 1) % 2 ^ 32 ≡ a → (v' + 1) % 2 ^ 32 ≡ v → v ≡ (a + j) % 2 ^ 32 → v' ≡ (b + j) % 2 ^ 32
    back a b x y z = omega arith

both-up : (i j v v' : ℕ) → v' ≡ (v + 1) % 2 ^ 32 → v ≡ both i j → v' ≡ both i (j + 1)
both-up i j v v' e f = omega arith

-- ---- from key to key

rank-stops : (x : ℕ) (l : List ℕ) (i : ℕ) → (i < length l → x ≤ slice_index l i) → i + rank x (drop i l) ≡ i
rank-stops x l i h = ap (λ (n : ℕ). i + n) (⊎_elim (λ (g : i < length l). rank-stop x l i g (h g)) (λ (g : length l ≤ i). rank-end x l i g) (lt-or-le i (length l))) ∙ add-zero i

rank-goes : (x : ℕ) (l : List ℕ) (i : ℕ) → i < length l → slice_index l i < x → i + rank x (drop i l) ≡ i + 1 + rank x (drop (i + 1) l)
rank-goes x l i h g = ap (λ (n : ℕ). i + n) (rank-go x l i h g) ∙ rw (add-one i) (omega arith)

-- From place lo on the numbers up to p are moved; i of d and j of t are passed, and those lie before every place from p on.
pub record Swapping (d t s l : List ℕ) (lo p i j : ℕ) : Type 0 where
  pub moved : (q : ℕ) → lo ≤ q → q < p → slice_index l q ≡ shifted (less (rank (q * 256) d)) (shifted (plus (rank (q * 256) t)) (slice_index s q))
  pub before : (q : ℕ) → q < lo → slice_index l q ≡ slice_index s q
  pub after : (q : ℕ) → p ≤ q → slice_index l q ≡ slice_index s q
  pub long : length l ≡ length s
  pub low : lo ≤ p
  pub most : p ≤ length s
  pub gone : (q : ℕ) → p ≤ q → q < length s → rank (q * 256) d ≡ i + rank (q * 256) (drop i d)
  pub come : (q : ℕ) → p ≤ q → q < length s → rank (q * 256) t ≡ j + rank (q * 256) (drop j t)

swap_begins : (d t s : List ℕ) (lo : ℕ) → lo ≤ length s → Swapping d t s s lo lo 0 0
swap_begins d t s lo h = record {
  moved = λ (q : ℕ) (a : lo ≤ q) (b : q < lo). absurd (omega arith);
  before = λ q a. refl;
  after = λ q a. refl;
  long = refl;
  low = omega arith;
  most = h;
  gone = λ q a b. sym (zero-add (rank (q * 256) d));
  come = λ q a b. sym (zero-add (rank (q * 256) t));
}

module _ {d t s l : List ℕ} {lo p i j : ℕ} (k : Swapping d t s l lo p i j) where
  -- a range of places that no other key lies before
  swap-on : {l' : List ℕ} {end v r : ℕ} → v ≡ both i j → Shifts l l' p end v r → ((q : ℕ) → q < end → i < length d → q * 256 ≤ slice_index d i) → ((q : ℕ) → q < end → j < length t → q * 256 ≤ slice_index t j) → Swapping d t s l' lo r i j
  swap-on {l'} {end} {v} {r} e f no-d no-t = record {
    moved = λ (q : ℕ) (a : lo ≤ q) (b : q < r). ⊎_elim (λ (h : q < p). f.part.before q h ∙ k.moved q a h) (λ (h : p ≤ q). here q h b) (lt-or-le q p);
    before = λ (q : ℕ) (a : q < lo). f.part.before q (omega (arith, k.low)) ∙ k.before q a;
    after = λ (q : ℕ) (a : r ≤ q). f.part.after q a ∙ k.after q (omega (arith, f.part.low));
    long = f.part.long ∙ k.long;
    low = omega (arith, f.part.low, k.low);
    most = omega (arith, f.part.most, k.long);
    gone = λ (q : ℕ) (a : r ≤ q) b. k.gone q (omega (arith, f.part.low)) b;
    come = λ (q : ℕ) (a : r ≤ q) b. k.come q (omega (arith, f.part.low)) b;
  }
    where
      here : (q : ℕ) → p ≤ q → q < r → slice_index l' q ≡ shifted (less (rank (q * 256) d)) (shifted (plus (rank (q * 256) t)) (slice_index s q))
      here q h b =
          let m : q < length s = omega (arith, f.part.most, k.long) in
          let x : rank (q * 256) d ≡ i = k.gone q h m ∙ rank-stops (q * 256) d i (no-d q (f.part.no_more q h b)) in
          let y : rank (q * 256) t ≡ j = k.come q h m ∙ rank-stops (q * 256) t j (no-t q (f.part.no_more q h b)) in
          rw (x, y) (f.part.moved q h b ∙ ap₂ shifted e (k.after q h) ∙ both-shift i j (slice_index s q))

  -- a key that lies before every place from p on is passed
  gone-on : i < length d → ((q : ℕ) → p ≤ q → q < length s → slice_index d i < q * 256) → Swapping d t s l lo p (i + 1) j
  gone-on h g = record { moved = k.moved; before = k.before; after = k.after; long = k.long; low = k.low; most = k.most; gone = λ q a b. k.gone q a b ∙ rank-goes (q * 256) d i h (g q a b); come = k.come }

  come-on : j < length t → ((q : ℕ) → p ≤ q → q < length s → slice_index t j < q * 256) → Swapping d t s l lo p i (j + 1)
  come-on h g = record { moved = k.moved; before = k.before; after = k.after; long = k.long; low = k.low; most = k.most; gone = k.gone; come = λ q a b. k.come q a b ∙ rank-goes (q * 256) t j h (g q a b) }

  -- the places after the last keys
  swap_ends : {l' : List ℕ} {v r : ℕ} → v ≡ both i j → length d ≤ i → length t ≤ j → Shifts l l' p (length s) v r → Swapped d t lo s l'
  swap_ends {l'} {v} {r} e h g f =
      let o = swap-on e f (λ (q : ℕ) (a : q < length s) (b : i < length d). absurd (omega arith)) (λ (q : ℕ) (a : q < length s) (b : j < length t). absurd (omega arith)) in
      record { each = λ (q : ℕ) (a : lo ≤ q) (b : q < length s). o.moved q a (omega (arith, f.reached)); long = o.long }

-- ---- keys that lie in the starts themselves

-- The keys dropped are the first ones, those taken up lie from place `at` on; the next two are at i and j.
pub record Passing (gone at come n : ℕ) (s l : List ℕ) (p by i j : ℕ) : Type 0 where
  pub part : Swapping (take gone s) (take come (drop at s)) s l n p i (j - at)
  pub moves : by ≡ both i (j - at)
  pub first : i ≤ gone
  pub from : at ≤ j
  pub second : j ≤ at + come

module _ {gone at come n : ℕ} {s : List ℕ} (w : SwapKeys gone at come n s) where
  pub pass-begins : Passing gone at come n s s n 0 0 at
  pass-begins = let e : at - at ≡ 0 = omega arith in record { part = rw e (swap_begins (take gone s) (take come (drop at s)) s n w.within); moves = rw e (omega arith); first = omega arith; from = omega arith; second = omega arith }

  many-first : length (take gone s) ≡ gone
  many-first = length-take-le gone s (omega (arith, w.dropped, w.within))

  many-second : length (take come (drop at s)) ≡ come
  many-second = length-take-le come (drop at s) (omega (arith, length-drop at s, w.taken, w.within))

  module _ {l : List ℕ} {p by i j : ℕ} (k : Passing gone at come n s l p by i j) where
    pub next-room : (gone ≤ length l) × (at + come ≤ length l)
    next-room = (omega (arith, w.dropped, w.within, k.part.long), omega (arith, w.taken, w.within, k.part.long))

    -- the next key lies among the numbers
    pub first-in : {b : Bool} → NextKey l i gone j (at + come) b → b ≡ true → i < length l
    first-in next e = omega (arith, (next.first e).0, w.dropped, w.within, k.part.long)

    pub second-in : {b : Bool} → NextKey l i gone j (at + come) b → b ≡ false → j < length l
    second-in next e = omega (arith, (next.second e).0, w.taken, w.within, k.part.long)

    first_key : i < gone → slice_index (take gone s) i ≡ slice_index l i
    first_key h = get_or-take gone s i 0 h ∙ sym (k.part.before i (omega (arith, w.dropped)))

    second_key : j < at + come → slice_index (take come (drop at s)) (j - at) ≡ slice_index l j
    second_key h =
        let e : at + (j - at) ≡ j = omega (arith, k.from) in
        get_or-take come (drop at s) (j - at) 0 (omega (arith, k.from)) ∙ get_or-drop at s (j - at) 0 ∙ ap (λ (m : ℕ). slice_index s m) e ∙ sym (k.part.before j (omega (arith, w.taken)))

    module _ {l' : List ℕ} {v r by' : ℕ} {b : Bool} (next : NextKey l i gone j (at + come) b) (f : Shifts l l' p v by r) where
      pub pass-drops : b ≡ true → Reaches (slice_index l i) (length s) v → by' < 2 ^ 32 → (by' + 1) % 2 ^ 32 ≡ by → Passing gone at come n s l' r by' (i + 1) j
      pass-drops e reach small back =
          let a = next.first e in
          let own = first_key a.0 in
          record {
            part = gone-on
                (swap-on k.part k.moves f
                (λ (q : ℕ) (h : q < v) (g : i < length (take gone s)). omega (arith, reach.own q h))
                (λ (q : ℕ) (h : q < v) (g : j - at < length (take come (drop at s))). omega (arith, reach.own q h, many-second, second_key (omega (arith, many-second)), a.1 (omega (arith, many-second)))))
                (omega (arith, many-first))
                (λ (q : ℕ) (h : r ≤ q) (g : q < length s). omega (arith, reach.after q (omega (arith, f.reached)) g));
            moves = both-down i (j - at) by by' small back k.moves;
            first = omega arith;
            from = k.from;
            second = k.second;
          }

      pub pass-takes : b ≡ false → Reaches (slice_index l j) (length s) v → by' ≡ (by + 1) % 2 ^ 32 → Passing gone at come n s l' r by' i (j + 1)
      pass-takes e reach on =
          let a = next.second e in
          let own = second_key a.0 in
          let m : j + 1 - at ≡ j - at + 1 = omega (arith, k.from) in
          record {
            part = rw m (come-on
                (swap-on k.part k.moves f
                (λ (q : ℕ) (h : q < v) (g : i < length (take gone s)). omega (arith, reach.own q h, first_key (omega (arith, many-first)), a.1 (omega (arith, many-first))))
                (λ (q : ℕ) (h : q < v) (g : j - at < length (take come (drop at s))). omega (arith, reach.own q h)))
                (omega (arith, many-second, k.from))
                (λ (q : ℕ) (h : r ≤ q) (g : q < length s). omega (arith, reach.after q (omega (arith, f.reached)) g)));
            moves = rw m (both-up i (j - at) by by' on k.moves);
            first = k.first;
            from = omega (arith, k.from);
            second = omega arith;
          }

    pub pass-ends : {l' : List ℕ} {r : ℕ} → gone + (at + come) ≤ i + j → Shifts l l' p (length s) by r → Swapped (take gone s) (take come (drop at s)) n s l'
    pass-ends h f = swap_ends k.part k.moves (omega (arith, many-first, k.first, k.second)) (omega (arith, many-second, k.first, k.second)) f
