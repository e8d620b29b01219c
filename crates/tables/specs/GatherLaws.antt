-- Laws of gathering: how the loop begins, turns and ends, and what sound tables give.
use Rattle.std.specs.Prelude.{◌≡◌, ℕ, suc, ◌+◌, ◌-◌, ◌*◌, ◌%◌, ◌<◌, ◌≤◌, Bool, true, false, not, ◌&&◌, ◌||◌, List, [], ◌∷◌, length, take, drop, ◌==◌, nat_eq, slice_index, slice_index_or, slice_range, refl}
use Rattle.std.proofs.Math.Path.{ap, sym, subst}
use Rattle.std.proofs.Common.{◌∙◌, length-take-le, le-leb, lt-ltb, le-ltb, eq-eqb, eqb-true}
use Rattle.std.proofs.Math.Logic.{⊎_elim}
use Rattle.std.proofs.Math.Bool.{or-false, or-true}
use mathlib.Core.List.Memᴰ
use mathlib.Core.List.{Memᴰ}
use native.Mathlib.Omega.{arith}
use Rattle.std.proofs.Math.Numerals.{add-one}
use Rattle.std.proofs.Math.Arith.{digits_mod}
use Rattle.std.proofs.Math.Seq.{drop-cons}
use Rattle.std.proofs.lemmas.Bool.{lt-leb}
use Rattle.order.specs.Order.{span, upto, keep, over}
use Rattle.order.specs.Buffer.{put_in, Put}
use Rattle.order.specs.BufferLaws.{over-over, put-length, Front, front-taken, front_length, front-shown, front-put, put-keep}
use Rattle.order.specs.TestLaws.{true-or-false, true-not-false, both_ways, and→}
use Rattle.order.specs.KeepLaws.{span→, →span, keep→, →keep, keep-yes, keep-no, keep-ext}
use Rattle.squares.specs.Squares.{squares}
use Rattle.squares.specs.declared.shape.Rect.{Rect}
use Rattle.squares.specs.Shape.{holds}
use Rattle.tables.specs.Tables.{Tables, shape_of, rect_in, zone_room}
use Rattle.tables.specs.Derived.{on}
use Rattle.tables.specs.Sound.{Sound}
use Rattle.tables.specs.RunLaws.{keys_at, start-at, start-within, run-keys, zone-below}
use Rattle.tables.specs.CheckLaws.{size_of}
use Rattle.tables.specs.Runs.{run, gathered, only, any, outside, PutIf, Gathers}

-- ---- a run gathered

gathered-length : (room : ℕ) (keys l : List ℕ) → length l ≤ room → (length l ≤ length (gathered room keys l)) × (length (gathered room keys l) ≤ room)
unfolding gathered
gathered-length room [] l h = (omega arith, h)
gathered-length room (key ∷ keys) l h =
    let a = put-length room (key % 256) l h in
    let b = gathered-length room keys (put_in room (key % 256) l) a.1 in
    (omega arith, b.1)

module _ {b b' : List ℕ} {n : ℕ} {l : List ℕ} (f : Front b b' n l) where
  -- a run more
  pub front-gather : (has : ℕ → Bool) {starts entries b'' : List ℕ} {p r : ℕ} → Gathers has starts entries p b' b'' n r → Front b b'' r (gathered (length b) (only has (run starts entries p)) l)
  front-gather has {starts} {entries} {p = p} u =
      let a = gathered-length (length b) (only has (run starts entries p)) l f.within in
      record { written = u.written ∙ rw (front-shown f, front_length f, f.written) (over-over (gathered (length b) (only has (run starts entries p)) l) l b a.0); count = u.count ∙ rw (front-shown f, front_length f); within = a.1 }

-- ---- the loop

-- what is gathered so far stands at the front, and gathering what is left gives all
pub record Gathering (f : ℕ → Bool) (starts entries : List ℕ) (p : ℕ) (b : List ℕ) (n : ℕ) (b' : List ℕ) (i end m : ℕ) : Type 0 where
  pub now : List ℕ
  pub front : Front b b' m now
  pub left : gathered (length b) (only f (slice_range entries i end)) now ≡ gathered (length b) (only f (run starts entries p)) (take n b)
  pub listed : end ≤ length entries

module _ {f : ℕ → Bool} {starts entries : List ℕ} {p : ℕ} {b : List ℕ} {n : ℕ} {b' : List ℕ} {i end m : ℕ} (g : Gathering f starts entries p b n b' i end m) where
  pub gather-turns : {b'' : List ℕ} {r : ℕ} → i < end → PutIf (f (slice_index entries i % 256)) b' b'' m (slice_index entries i % 256) r → Gathering f starts entries p b n b'' (i + 1) end r
  unfolding gathered
  gather-turns {b''} {r} h u =
      let k : end - i ≡ suc (end - (i + 1)) = omega arith in
      let l = rw (k, drop-cons entries i 0 (omega (arith, g.listed)), ← add-one i) at g.left in
      let rest = take (end - (i + 1)) (drop (i + 1) entries) in
      ⊎_elim
      (λ (e : f (slice_index entries i % 256) ≡ true). record {
        now = put_in (length b) (slice_index entries i % 256) g.now;
        front = front-put g.front (u.taken e);
        left = sym (ap (λ (q : List ℕ). gathered (length b) q g.now) (keep-yes (λ (key : ℕ). f (key % 256)) (slice_index entries i) rest e)) ∙ l;
        listed = g.listed;
      })
      (λ (e : f (slice_index entries i % 256) ≡ false).
      let same = u.passed e in
      record {
        now = g.now;
        front = subst (λ (q : List ℕ). Front b q r g.now) (sym same.0) (subst (λ (q : ℕ). Front b b' q g.now) (sym same.1) g.front);
        left = sym (ap (λ (q : List ℕ). gathered (length b) q g.now) (keep-no (λ (key : ℕ). f (key % 256)) (slice_index entries i) rest e)) ∙ l;
        listed = g.listed;
      })
      (true-or-false (f (slice_index entries i % 256)))

  pub gather-ends : end ≤ i → Gathers f starts entries p b b' n m
  unfolding gathered keep
  gather-ends h =
      let k : end - i ≡ 0 = omega arith in
      let e : g.now ≡ gathered (length b) (only f (run starts entries p)) (take n b) = rw k at g.left in
      record { written = g.front.written ∙ ap (λ (l : List ℕ). over l b) e; count = g.front.count ∙ ap length e; within = omega (arith, g.front.count, g.front.within) }

-- a number that every zone's test lets through
pub put-any : {b b' : List ℕ} {n x r : ℕ} → n ≤ length b → Put b b' n x r → PutIf (any x) b b' n x r
put-any {b} {b'} {n} {x} h u =
    let a = put-length (length b) x (take n b) (omega (arith, length-take-le n b h)) in
    record { taken = λ e. u; passed = λ e. absurd (true-not-false true refl e); within = omega (arith, u.count, a.1) }

module _ (f : ℕ → Bool) (starts entries : List ℕ) (p : ℕ) (b : List ℕ) (n : ℕ) (small : n ≤ length b) where
  pub gather-begins : slice_index_or starts (p + 1) 0 ≤ length entries → Gathering f starts entries p b n b (slice_index starts p) (slice_index starts (p + 1)) n
  unfolding run
  gather-begins h = record { now = take n b; front = front-taken n b small; left = rw (le-leb (slice_index starts (p + 1)) (length entries) h); listed = h }

  pub gather_none : length entries < slice_index starts (p + 1) → Gathers f starts entries p b b n n
  unfolding run gathered keep
  gather_none h =
      let g = front-taken n b small in
      let e : gathered (length b) (only f (run starts entries p)) (take n b) ≡ take n b = rw (lt-leb (slice_index starts (p + 1)) (length entries) h) in
      record { written = g.written ∙ ap (λ (l : List ℕ). over l b) (sym e); count = g.count ∙ sym (ap length e); within = small }

-- whether a zone holds a cell, beyond the table and in it
pub outside-beyond : (zones : List ℕ) (x y z : ℕ) → length zones ≤ 4 * z + 3 → true ≡ outside zones x y z
unfolding outside
outside-beyond zones x y z h = rw (le-ltb (4 * z + 3) (length zones) h)

pub outside-in : (zones : List ℕ) (x y z : ℕ) {r : Rect} {held : Bool} → 4 * z + 3 < length zones → held ≡ holds r x y → r ≡ rect_in zones z → not held ≡ outside zones x y z
unfolding outside
outside-in zones x y z h e f = rw (e, f, lt-ltb (4 * z + 3) (length zones) h)

-- a number put where its zone does not hold a cell
module _ {b : List ℕ} {n x : ℕ} (small : n ≤ length b) where
  pub put-passed : {test : Bool} → test ≡ false → PutIf test b b n x n
  put-passed {test} e = record { taken = λ (q : test ≡ true). absurd (true-not-false test q e); passed = λ q. (refl, refl); within = small }

  pub put-taken : {b' : List ℕ} {r : ℕ} {test : Bool} → test ≡ true → Put b b' n x r → PutIf test b b' n x r
  put-taken {test = test} e u = record { taken = λ q. u; passed = λ (q : test ≡ false). absurd (true-not-false test e q); within = (put-any small u).within }

-- ---- what is gathered from keys into the numbers below Z with f

-- one of the keys is of zone z
unfoldable named : List ℕ → ℕ → Bool
named [] z = false
named (key ∷ keys) z = z == key % 256 || named keys z

named→ : (keys : List ℕ) (z : ℕ) → named keys z ≡ true → (key : ℕ) × Memᴰ key keys × (z ≡ key % 256)
unfolding named
named→ [] z e = absurd (true-not-false false e refl)
named→ (key ∷ keys) z e = ⊎_elim
    (λ (q : nat_eq z (key % 256) ≡ true). (key, Memᴰ.head refl, eqb-true z (key % 256) q))
    (λ (q : nat_eq z (key % 256) ≡ false). let a = named→ keys z (sym (ap (λ (t : Bool). t || named keys z) q) ∙ e) in (a.0, Memᴰ.tail a.1, a.2))
    (true-or-false (z == key % 256))

→named : (keys : List ℕ) (key : ℕ) → Memᴰ key keys → named keys (key % 256) ≡ true
unfolding named
→named [] key m = absurd (Memᴰ.not-nil m)
→named (k ∷ keys) key m = ⊎_elim
    (λ (e : key ≡ k). rw (eq-eqb (key % 256) (k % 256) (ap (λ (n : ℕ). n % 256) e)))
    (λ (h : Memᴰ key keys). ap (λ (t : Bool). (key % 256 == k % 256) || t) (→named keys key h) ∙ or-true (key % 256 == k % 256))
    (Memᴰ.cases_cons m)

gathered-keep : (room Z : ℕ) → Z ≤ room → (keys : List ℕ) → ((key : ℕ) → Memᴰ key keys → key % 256 < Z) → (f : ℕ → Bool) → gathered room keys (keep f (upto Z)) ≡ keep (λ (z : ℕ). f z || named keys z) (upto Z)
unfolding gathered named
gathered-keep room Z h [] b f = keep-ext f (λ (z : ℕ). f z || false) (upto Z) (λ z m. sym (or-false (f z)))
gathered-keep room Z h (key ∷ keys) b f =
    let x = key % 256 in
    rw (put-keep room Z x f h (b key (Memᴰ.head refl)))
    (gathered-keep room Z h keys (λ k m. b k (Memᴰ.tail m)) (λ (z : ℕ). (z == x) || f z) ∙ keep-ext (λ (z : ℕ). (z == x || f z) || named keys z) (λ (z : ℕ). f z || (z == x || named keys z)) (upto Z) (λ z m. swap (z == x) (f z) (named keys z)))
  where
    swap : (a b c : Bool) → ((a || b) || c) ≡ (b || (a || c))
    swap true true c = refl
    swap true false c = refl
    swap false true c = refl
    swap false false c = refl

-- ---- on sound tables

module _ {t : Tables} (sound : Sound t) (p : ℕ) (there : p < squares (shape_of t)) where
  pub run_sound : run t.derived.starts t.derived.entries p ≡ keys_at t p
  unfolding run
  run_sound = rw (le-leb (slice_index t.derived.starts (p + 1)) (length t.derived.entries) (omega (arith, start-at sound (p + 1) (omega arith), start-within sound (p + 1) (omega arith)))) (run-keys sound p there)

  key-named : (z : ℕ) → z < 256 → named (keys_at t p) z ≡ on t (p * 256 + z)
  key-named z h = both_ways (named (keys_at t p) z) (on t (p * 256 + z))
      (λ (e : named (keys_at t p) z ≡ true).
      let a = named→ (keys_at t p) z e in
      let b = keep→ (on t) (span (p * 256) 256) a.0 a.1 in
      let c = span→ (p * 256) 256 a.0 b.0 in
      let k : p * 256 + z ≡ a.0 = omega (arith, a.2) in
      ap (on t) k ∙ b.1)
      (λ (e : on t (p * 256 + z) ≡ true). rw (digits_mod p h) at (→named (keys_at t p) (p * 256 + z) (→keep (on t) (span (p * 256) 256) (p * 256 + z) (→span (p * 256) 256 (p * 256 + z) (omega arith) (omega arith)) e)))

  only-named : (has : ℕ → Bool) (z : ℕ) → z < 256 → named (only has (keys_at t p)) z ≡ (on t (p * 256 + z) && has z)
  only-named has z h =
      let sel : ℕ → Bool = λ (key : ℕ). has (key % 256) in
      both_ways (named (only has (keys_at t p)) z) (on t (p * 256 + z) && has z)
      (λ (e : named (only has (keys_at t p)) z ≡ true).
      let a = named→ (only has (keys_at t p)) z e in
      let b = keep→ sel (keys_at t p) a.0 a.1 in
      rw (sym (key-named z h) ∙ ap (named (keys_at t p)) a.2 ∙ →named (keys_at t p) a.0 b.0) (ap has a.2 ∙ b.1))
      (λ (e : (on t (p * 256 + z) && has z) ≡ true).
      let a = and→ (on t (p * 256 + z)) (has z) e in
      let b = named→ (keys_at t p) z (key-named z h ∙ a.0) in
      ap (named (only has (keys_at t p))) b.2 ∙ →named (only has (keys_at t p)) b.0 (→keep sel (keys_at t p) b.0 b.1 (ap has (sym b.2) ∙ a.1)))

  -- the zones with f and those on the place's list
  pub gathered-sound : (room : ℕ) → zone_room t ≤ room → (has f : ℕ → Bool) → gathered room (only has (run t.derived.starts t.derived.entries p)) (keep f (upto (zone_room t))) ≡ keep (λ (z : ℕ). f z || (on t (p * 256 + z) && has z)) (upto (zone_room t))
  gathered-sound room h has f =
      let keys = only has (keys_at t p) in
      rw run_sound
      (gathered-keep room (zone_room t) h keys (λ k m. zone-below t k (size_of sound) (keep→ (on t) (span (p * 256) 256) k (keep→ (λ (key : ℕ). has (key % 256)) (keys_at t p) k m).0).1) f ∙ keep-ext (λ (z : ℕ). f z || named keys z) (λ (z : ℕ). f z || (on t (p * 256 + z) && has z)) (upto (zone_room t)) (λ z m. ap (λ (b : Bool). f z || b) (only-named has z (omega (arith, span→ 0 (zone_room t) z m, (size_of sound).room.zones-few)))))
