-- Laws of numbers moved by ranges: from one key's place to the next by one more.
use Rattle.std.specs.Prelude.{◌≡◌, ℕ, ◌+◌, ◌*◌, ◌%◌, ◌^◌, ◌<◌, ◌≤◌, List, length, take, drop, slice_index, slice_set, refl}
use Rattle.std.proofs.Common.{ap, ap₂, sym, ◌∙◌, arith, add-one, zero-add, add-zero, suc-mul, length-set, get_or-set_same, get_or-set_other, get_or-take, ⊎_elim}
use Rattle.order.specs.TestLaws.{lt-or-le}
use Rattle.order.specs.Buffer.{rank}
use Rattle.order.specs.BufferLaws.{rank-stop, rank-go, rank-end}
use Rattle.starts.specs.Starts.{Reaches}
use Rattle.starts.specs.Shift.{shifted, Shifting, Shifts, plus, less, steps, Moved}

-- ---- one range

pub shift-begins : (d : List ℕ) (p end v : ℕ) → p ≤ length d → Shifting d d p end v p
shift-begins d p end v h = record { moved = λ (n : ℕ) (a : p ≤ n) (b : n < p). absurd (omega arith); before = λ n a. refl; after = λ n a. refl; long = refl; low = omega arith; most = h; no_more = λ (n : ℕ) (a : p ≤ n) (b : n < p). absurd (omega arith) }

-- a range of none
pub shift_none : (d : List ℕ) (p end v : ℕ) → p ≤ length d → end ≤ p → Shifts d d p end v p
shift_none d p end v h g = record { part = shift-begins d p end v h; reached = g }

-- moved by 0 the numbers are as they were
pub shift-still : (d : List ℕ) (p end v : ℕ) → end ≤ length d → p < end → v ≡ 0 → ((n : ℕ) → slice_index d n < 2 ^ 32) → Shifts d d p end v end
shift-still d p end v h g e small = record {
  part = record { moved = λ (n : ℕ) (a : p ≤ n) (b : n < end). omega (arith, small n); before = λ n a. refl; after = λ n a. refl; long = refl; low = omega arith; most = h; no_more = λ (n : ℕ) (a : p ≤ n) (b : n < end). b };
  reached = omega arith;
}

module _ {d l : List ℕ} {p end v q : ℕ} (k : Shifting d l p end v q) where
  pub shift-turns : q < end → end ≤ length d → (x : ℕ) → x ≡ (slice_index l q + v) % 2 ^ 32 → Shifting d (slice_set l q x) p end v (q + 1)
  shift-turns h g x e = record {
    moved = λ (n : ℕ) (a : p ≤ n) (b : n < q + 1). now n a b;
    before = λ (n : ℕ) (a : n < p). get_or-set_other l q n x 0 (λ (z : n ≡ q). omega (arith, k.low)) ∙ k.before n a;
    after = λ (n : ℕ) (a : q + 1 ≤ n). get_or-set_other l q n x 0 (λ (z : n ≡ q). omega arith) ∙ k.after n (omega arith);
    long = length-set l q x ∙ k.long;
    low = omega (arith, k.low);
    most = omega arith;
    no_more = λ (n : ℕ) (a : p ≤ n) (b : n < q + 1). omega arith;
  }
    where
      now : (n : ℕ) → p ≤ n → n < q + 1 → slice_index (slice_set l q x) n ≡ shifted v (slice_index d n)
      now n a b = ⊎_elim (λ (m : n < q). get_or-set_other l q n x 0 (λ (z : n ≡ q). omega arith) ∙ k.moved n a m) (λ (m : q ≤ n). let z : n ≡ q = omega arith in rw z (get_or-set_same l q x 0 (omega (arith, k.long, h, g)) ∙ e ∙ ap (shifted v) (k.after q (omega arith)))) (lt-or-le n q)

-- ---- from key to key

-- From place lo on the numbers up to p are moved, each by what c makes of how many of the keys lie before its place;
-- j keys are passed, and those lie before every place from p on.
pub record Moving (c : ℕ → ℕ) (keys d l : List ℕ) (lo p j : ℕ) : Type 0 where
  pub moved : (q : ℕ) → lo ≤ q → q < p → slice_index l q ≡ shifted (c (rank (q * 256) keys)) (slice_index d q)
  pub before : (q : ℕ) → q < lo → slice_index l q ≡ slice_index d q
  pub after : (q : ℕ) → p ≤ q → slice_index l q ≡ slice_index d q
  pub long : length l ≡ length d
  pub low : lo ≤ p
  pub most : p ≤ length d
  pub few : j ≤ length keys
  pub passed : (q : ℕ) → p ≤ q → q < length d → rank (q * 256) keys ≡ j + rank (q * 256) (drop j keys)

pub move-begins : (c : ℕ → ℕ) (keys d : List ℕ) (lo : ℕ) → lo ≤ length d → Moving c keys d d lo lo 0
move-begins c keys d lo h = record { moved = λ (q : ℕ) (a : lo ≤ q) (b : q < lo). absurd (omega arith); before = λ q a. refl; after = λ q a. refl; long = refl; low = omega arith; most = h; few = omega arith; passed = λ q a b. sym (zero-add (rank (q * 256) keys)) }

module _ {c : ℕ → ℕ} {keys d l : List ℕ} {lo p j : ℕ} (k : Moving c keys d l lo p j) where
  -- a range of places that have j keys before them
  move-range : {l' : List ℕ} {end v r : ℕ} → v ≡ c j → Shifts l l' p end v r → ((q : ℕ) → p ≤ q → q < r → rank (q * 256) keys ≡ j) → (q : ℕ) → lo ≤ q → q < r → slice_index l' q ≡ shifted (c (rank (q * 256) keys)) (slice_index d q)
  move-range {l'} {end} {v} {r} e f same q a b = ⊎_elim
      (λ (h : q < p). f.part.before q h ∙ k.moved q a h)
      (λ (h : p ≤ q). rw (same q h b) (f.part.moved q h b ∙ ap₂ shifted e (k.after q h)))
      (lt-or-le q p)

  pub move-turns : {l' : List ℕ} {end v r : ℕ} → v ≡ c j → j < length keys → Reaches (slice_index keys j) (length d) end → Shifts l l' p end v r → Moving c keys d l' lo r (j + 1)
  move-turns {l'} {end} {v} {r} e h reach f = record {
    moved = move-range e f (λ q a b. k.passed q a (omega (arith, f.part.most, k.long)) ∙ ap (λ (n : ℕ). j + n) (rank-stop (q * 256) keys j h (reach.own q (f.part.no_more q a b))) ∙ add-zero j);
    before = λ (q : ℕ) (a : q < lo). f.part.before q (omega (arith, k.low)) ∙ k.before q a;
    after = λ (q : ℕ) (a : r ≤ q). f.part.after q a ∙ k.after q (omega (arith, f.part.low));
    long = f.part.long ∙ k.long;
    low = omega (arith, f.part.low, k.low);
    most = omega (arith, f.part.most, k.long);
    few = omega arith;
    passed = λ q a b. k.passed q (omega (arith, f.part.low)) b ∙ ap (λ (n : ℕ). j + n) (rank-go (q * 256) keys j h (reach.after q (omega (arith, f.reached)) b)) ∙ rw (add-one j) (omega arith);
  }

  -- the places after the last key
  pub move-ends : {l' : List ℕ} {v r : ℕ} → v ≡ c j → length keys ≤ j → Shifts l l' p (length d) v r → Moved c keys lo d l'
  move-ends {l'} {v} {r} e h f =
      let all : r ≡ length d = omega (arith, f.reached, f.part.most, k.long) in
      record {
        each = λ (q : ℕ) (a : lo ≤ q) (b : q < length d). move-range e f (λ (m : ℕ) (x : p ≤ m) (y : m < r). k.passed m x (omega arith) ∙ ap (λ (n : ℕ). j + n) (rank-end (m * 256) keys j h) ∙ add-zero j) q a (omega arith);
        long = f.part.long ∙ k.long;
      }

-- ---- the keys at the front

-- a key as the loop reads it
pub key-there : {c : ℕ → ℕ} {d l : List ℕ} {n p j : ℕ} → Moving c (take n d) d l n p j → j < n → slice_index l j ≡ slice_index (take n d) j
key-there {d = d} {n = n} {j = j} k g = k.before j g ∙ sym (get_or-take n d j 0 g)

-- ---- a step for each key

pub steps-more : (step j : ℕ) {v v' : ℕ} → v ≡ steps step j → v' ≡ (v + step) % 2 ^ 32 → v' ≡ steps step (j + 1)
steps-more step j {v} {v'} e f = let m : (j + 1) * step ≡ j * step + step = rw (add-one j) (suc-mul j step) in rw m (omega arith)

pub steps_up : (n x : ℕ) → shifted (steps 1 n) x ≡ shifted (plus n) x
steps_up n x = omega arith

pub steps-down : (n x : ℕ) → shifted (steps 4294967295 n) x ≡ shifted (less n) x
steps-down n x = omega arith

pub moved_as : {b c : ℕ → ℕ} {keys s s' : List ℕ} {lo : ℕ} → ((n x : ℕ) → shifted (b n) x ≡ shifted (c n) x) → Moved b keys lo s s' → Moved c keys lo s s'
moved_as {keys = keys} {s = s} same m = record { each = λ q a h. m.each q a h ∙ same (rank (q * 256) keys) (slice_index s q); long = m.long }

-- down by one more for each key
pub less-more : (n v v' : ℕ) → v' < 2 ^ 32 → (v' + 1) % 2 ^ 32 ≡ v → v ≡ less n → v' ≡ less (n + 1)
less-more n v v' h e f = omega arith
