-- Laws of a zone's keys: they are those of the places in the cut, and how they are written.
use Rattle.std.specs.Prelude.{◌≡◌, ℕ, zero, suc, ◌+◌, ◌*◌, ◌/◌, ◌%◌, ◌<◌, ◌≤◌, Bool, true, false, cond, List, [], ◌∷◌, ◌++◌, map, length, take, drop, slice_index, refl}
use Rattle.std.proofs.Common.{ap, subst, ◌∙◌, arith, add-zero, add-suc, div-add-mod'}
use Rattle.std.proofs.Math.Path.{ap₂, sym}
use mathlib.Core.List.Memᴰ
use mathlib.Core.List.{map-map, map-append, Memᴰ}
use Rattle.std.proofs.Math.Nat.{zero-add}
use Rattle.std.proofs.Math.Arith.{digits_div, digits_mod}
use Rattle.std.proofs.lemmas.List.{length-map}
use Rattle.order.specs.Order.{upto, span, keep}
use Rattle.order.specs.Rising.{Rising, none, more}
use Rattle.order.specs.RisingLaws.{rising-span, rising-keep, member-at}
use Rattle.order.specs.Order.{Wrote}
use Rattle.order.specs.BufferLaws.{take-over, drop-over, wrote-over, wrote-length}
use Rattle.order.specs.KeepLaws.{span-add, span→, →span, keep→, →keep, keep_append, keep-ext, length-keep, length-span}
use Rattle.squares.specs.declared.shape.Shape.{Shape}
use Rattle.squares.specs.declared.shape.Rect.{Rect}
use Rattle.squares.specs.Bounds.{Allowed}
use Rattle.squares.specs.Squares.{squares, squares_on}
use Rattle.cuts.specs.Cut.{in_cut, code, cut_on, cut_to, cut}
use Rattle.cuts.specs.CutLaws.{cut→}
use Rattle.squares.specs.ShapeLaws.{squares-small}
use Rattle.tables.specs.Derived.{before, level_at, number_at}
use Rattle.tables.specs.PlaceLaws.{before_more, before-none, before-all, level-place, number-place}
use Rattle.starts.specs.RankLaws.{map_same}
use Rattle.starts.specs.Starts.{ranks}
use Rattle.starts.specs.Shift.{plus, Moved}
use Rattle.entries.specs.Merge.{Merged}
use Rattle.entries.specs.FrontLaws.{keys-shown, starts-kept, starts-long, counted-all, counted-front, moved-after}
use Rattle.entries.specs.Keys.{code_place, code_key, zone_keys, Coded, KeyRoom, KeySpace, Keyed, AddRoom, KeysAdded}

-- ---- shifted spans

span-map : (lo n : ℕ) → span lo n ≡ map (λ (x : ℕ). lo + x) (upto n)
unfolding span
span-map lo n = rw (add-zero lo) at (go 0 n)
  where
    go : (d n : ℕ) → span (lo + d) n ≡ map (λ (x : ℕ). lo + x) (span d n)
    go d zero = refl
    go d (suc n) = ap (λ (l : List ℕ). (lo + d) ∷ l) (rw (add-suc lo d) at (go (suc d) n))

pub keep-map : (p : ℕ → Bool) (f : ℕ → ℕ) (l : List ℕ) → keep p (map f l) ≡ map f (keep (λ (x : ℕ). p (f x)) l)
unfolding keep
keep-map p f [] = refl
keep-map p f (x ∷ l) = go (p (f x)) (keep-map p f l)
  where
    go : (t : Bool) → keep p (map f l) ≡ map f (keep (λ (y : ℕ). p (f y)) l) → cond t (f x ∷ keep p (map f l)) (keep p (map f l)) ≡ map f (cond t (x ∷ keep (λ (y : ℕ). p (f y)) l) (keep (λ (y : ℕ). p (f y)) l))
    go true e = ap (λ (m : List ℕ). f x ∷ m) e
    go false e = e

-- ---- a mapped list

rising-map : (f : ℕ → ℕ) → ((x y : ℕ) → x < y → f x < f y) → (l : List ℕ) → Rising l → Rising (map f l)
rising-map f up [] r = none
rising-map f up (x ∷ l) (more h r) = more {x = f x} (λ y m. let a = Memᴰ.of_map f l m in rw (← a.2) (up x a.0 (h a.0 a.1))) (rising-map f up l r)

-- ---- the places of a cut

-- the square at a place is in the cut
abbrev pub cut_at : Shape → Rect → ℕ → Bool
cut_at s r p = in_cut s r (level_at s p) (number_at s p)

module _ (s : Shape) (r : Rect) (allowed : Allowed s) where
  on-level : (m : ℕ) → m ≤ s.k → map (code_place s) (cut_on s r m) ≡ keep (cut_at s r) (span (before s m) (squares_on s m))
  on-level m h =
      let N = squares_on s m in
      let here = keep (in_cut s r m) (upto N) in
      let small = squares-small s allowed m h in
      map-map (code_place s) (code m) here
      ∙ map_same (λ (n : ℕ). code_place s (code m n)) (λ (n : ℕ). before s m + n) here (λ n k. let b : n < 1048576 = omega (arith, span→ 0 N n (keep→ (in_cut s r m) (upto N) n k).0) in rw (digits_div m b, digits_mod m b))
      ∙ ap (map (λ (n : ℕ). before s m + n)) (keep-ext (in_cut s r m) (λ (n : ℕ). cut_at s r (before s m + n)) (upto N) (λ n k. let b : n < N = omega (arith, span→ 0 N n k) in sym (ap₂ (in_cut s r) (level-place s m n h b) (number-place s m n h b))))
      ∙ sym (keep-map (cut_at s r) (λ (n : ℕ). before s m + n) (upto N))
      ∙ ap (keep (cut_at s r)) (sym (span-map (before s m) N))

  to_level : (m : ℕ) → m ≤ suc s.k → map (code_place s) (cut_to s r m) ≡ keep (cut_at s r) (upto (before s m))
  unfolding cut_to span keep
  to_level zero h = rw (before-none s)
  to_level (suc m) h =
      map-append (code_place s) (cut_to s r m) (cut_on s r m)
      ∙ ap₂ ◌++◌ (to_level m (omega arith)) (on-level m (omega arith))
      ∙ sym (ap (λ (n : ℕ). keep (cut_at s r) (upto n)) (before_more s m) ∙ rw (span-add 0 (before s m) (squares_on s m), zero-add (before s m)) (keep_append (cut_at s r) (upto (before s m)) (span (before s m) (squares_on s m))))

  -- the squares of the cut are listed by their places
  cut-places : map (code_place s) (cut s r) ≡ keep (cut_at s r) (upto (squares s))
  cut-places = to_level (suc s.k) (omega arith) ∙ ap (λ (n : ℕ). keep (cut_at s r) (upto n)) (before-all s)

  pub zone-keys : (z : ℕ) → zone_keys s r z ≡ map (λ (p : ℕ). p * 256 + z) (keep (cut_at s r) (upto (squares s)))
  zone-keys z = sym (map-map (λ (p : ℕ). p * 256 + z) (code_place s) (cut s r)) ∙ ap (map (λ (p : ℕ). p * 256 + z)) cut-places

  pub length-keys : (z : ℕ) → length (zone_keys s r z) ≡ length (cut s r)
  length-keys z = length-map (cut s r) (code_key s z)

  -- no more than the town has squares
  pub cut-few : length (cut s r) ≤ squares s
  cut-few = omega (arith, length-map (cut s r) (code_place s), ap length cut-places, length-keep (cut_at s r) (upto (squares s)), length-span 0 (squares s))

  pub keys-rise : (z : ℕ) → Rising (zone_keys s r z)
  keys-rise z = rw (zone-keys z) (rising-map (λ (p : ℕ). p * 256 + z) (λ x y h. omega arith) (keep (cut_at s r) (upto (squares s))) (rising-keep (cut_at s r) (upto (squares s)) (rising-span 0 (squares s))))

  -- a key's place is in the cut, and its zone is z
  pub keys→ : (z : ℕ) → z < 256 → (key : ℕ) → Memᴰ key (zone_keys s r z) → (key / 256 < squares s) × ((key % 256 ≡ z) × (cut_at s r (key / 256) ≡ true))
  keys→ z h key m =
      let a = Memᴰ.of_map (λ (p : ℕ). p * 256 + z) (keep (cut_at s r) (upto (squares s))) (rw (zone-keys z) at m) in
      let b = keep→ (cut_at s r) (upto (squares s)) a.0 a.1 in
      let d : key / 256 ≡ a.0 = ap (λ (k : ℕ). k / 256) (sym a.2) ∙ digits_div a.0 h in
      (omega (arith, span→ 0 (squares s) a.0 b.0), (ap (λ (k : ℕ). k % 256) (sym a.2) ∙ digits_mod a.0 h, rw d b.1))

  pub →keys : (z key : ℕ) → key / 256 < squares s → key % 256 ≡ z → cut_at s r (key / 256) ≡ true → Memᴰ key (zone_keys s r z)
  →keys z key h e f =
      let q : key ≡ key / 256 * 256 + z = rw (← e) (sym (div-add-mod' key 256)) in
      let m = Memᴰ.map (λ (p : ℕ). p * 256 + z) (→keep (cut_at s r) (upto (squares s)) (key / 256) (→span 0 (squares s) (key / 256) (omega arith) (omega arith)) f) in
      subst (λ (l : List ℕ). Memᴰ key l) (sym (zone-keys z)) (subst (λ (k : ℕ). Memᴰ k (map (λ (p : ℕ). p * 256 + z) (keep (cut_at s r) (upto (squares s))))) (sym q) m)

  -- each number of the cut is a square's
  pub cut-coded : (z : ℕ) → z < 256 → (c : ℕ) → Memᴰ c (cut s r) → Coded s z c
  cut-coded z h c m =
      let a = cut→ s r c m in
      let b : a.1 < 1048576 = omega (arith, squares-small s allowed a.0 a.2, a.3) in
      let i : c / 1048576 ≡ a.0 = ap (λ (k : ℕ). k / 1048576) a.5 ∙ digits_div a.0 b in
      let n : c % 1048576 ≡ a.1 = ap (λ (k : ℕ). k % 1048576) a.5 ∙ digits_mod a.0 b in
      record { shape = allowed; zone = h; level = rw i a.2; number = rw (i, n) a.3 }

-- ---- keys written

-- squares turned into keys one by one
abbrev pub key_at : Shape → ℕ → List ℕ → ℕ → ℕ
key_at s z codes i = code_key s z (slice_index codes i)

pub key-space : {s : Shape} {r : Rect} {z : ℕ} {b : List ℕ} → KeyRoom s r z b → KeySpace s r z b
key-space {s} {r} k = record { shape = k.shape; rect = k.rect; zone = k.zone; room = omega (arith, cut-few s r k.shape, k.room) }

-- the cut stored at the front of a buffer, and its squares turned into keys
module _ {s : Shape} {r : Rect} {z : ℕ} {b : List ℕ} (k : KeySpace s r z b) where
  cut_fits : length (cut s r) ≤ length b
  cut_fits = k.room

  module _ {b' : List ℕ} {n : ℕ} (w : Wrote b b' 0 n (cut s r)) where
    pub cut-count : n ≡ length (cut s r)
    cut-count = w.next ∙ zero-add (length (cut s r))

    pub cut-shown : take n b' ≡ cut s r
    cut-shown = rw (wrote-over w cut_fits, cut-count) (take-over (cut s r) b)

    pub keys-fit : n ≤ length b'
    keys-fit = omega (arith, cut-count, cut_fits, wrote-length w)

    pub codes-there : (i : ℕ) → i < length (take n b') → Coded s z (slice_index (take n b') i)
    codes-there i h = rw cut-shown (cut-coded s r k.shape z k.zone (slice_index (cut s r) i) (member-at (cut s r) i (rw cut-shown at h)))

    pub keys-written : (l : List ℕ) → l ≡ map (code_key s z) (take n b') → Keyed s r z b (l ++ drop n b') n
    keys-written l e =
        let m : l ≡ zone_keys s r z = e ∙ ap (map (code_key s z)) cut-shown in
        let c : n ≡ length (zone_keys s r z) = cut-count ∙ sym (length-keys s r k.shape z) in
        let d : drop n b' ≡ drop n b = rw (wrote-over w cut_fits, cut-count) (drop-over (cut s r) b) in
        record { written = ap₂ ◌++◌ m (d ∙ ap (λ (i : ℕ). drop i b) c); count = c; within = omega (arith, cut-count, cut_fits) }

-- the keys merged from there
module _ {s : Shape} {r : Rect} {z u : ℕ} {starts entries : List ℕ} (k : AddRoom s r z u starts entries) {starts' : List ℕ} {n : ℕ} (w : Keyed s r z starts starts' n) where
  pub merge-room : u + n ≤ length entries
  merge-room = omega (arith, w.count, k.room, length-keys s r k.shape z)

  -- the starts after the keys guide the merge as they did
  keys-merged : {e : List ℕ} → Merged starts' entries e u (take n starts') → Merged starts entries e u (zone_keys s r z)
  keys-merged {e} m =
      let k = rw (keys-shown w) at m in
      record { front = λ g. k.front (λ p a b i c d. g p a (omega (arith, starts-long w)) i (rw (starts-kept w p (omega (arith, w.count))) at c) d); rest = k.rest }

  pub keys-added : {e l f : List ℕ} → Merged starts' entries e u (take n starts') → Moved plus (take n starts') n starts' l → f ≡ ranks e (length (take n l)) → KeysAdded s r z u starts (f ++ drop n l) entries e
  keys-added {e} {l} {f} m d q = record {
    merged = keys-merged m;
    long = counted-all w e d q;
    counted = λ (p : ℕ) (a : p < length (zone_keys s r z)). counted-front w e d q p (omega (arith, w.count));
    raised = λ (p : ℕ) (a : length (zone_keys s r z) ≤ p) (b : p < length starts). moved-after w e d q p (omega (arith, w.count)) b;
  }
