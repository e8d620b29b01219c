-- Laws of the starts: how many entries lie before each place, counted in one pass, and what the records give.
use Rattle.std.specs.Prelude.{◌≡◌, ℕ, zero, suc, ◌+◌, ◌-◌, ◌*◌, ◌/◌, ◌<◌, ◌≤◌, List, [], ◌∷◌, ◌++◌, map, length, drop, replicate, slice_index, refl}
use Rattle.std.proofs.Common.{ap, ap₂, sym, ◌∙◌, ⊎_elim, arith, add-one, zero-add, add-zero, length-drop, length-append, take_at, drop-drop}
use mathlib.Core.List.Memᴰ
use mathlib.Core.List.{append-nil, append_assoc, map-append, Memᴰ}
use Rattle.std.proofs.lemmas.List.{length-map, length-replicate}
use Rattle.std.proofs.lemmas.List.Edits.{sets, sets-eq}
use Rattle.std.proofs.Math.Seq.{length-sets, drop-append-add, drop-length}
use borrow.Rule.Slice.PartMut.{mid_of, put_mid, mid_len}
use Rattle.order.specs.Order.{span, upto}
use Rattle.order.specs.Buffer.{rank}
use Rattle.order.specs.BufferLaws.{rank-stop, rank-go, rank-end}
use Rattle.order.specs.RankLaws.{rank-append}
use Rattle.order.specs.KeepLaws.{span-add, span→, keep→, length-span}
use Rattle.squares.specs.Squares.{squares}
use Rattle.squares.specs.ShapeLaws.{squares-few}
use Rattle.tables.specs.Tables.{Tables, shape_of, entry_room}
use Rattle.tables.specs.Sizes.{Sized}
use Rattle.tables.specs.Derived.{on, keys_to, used, free, entries_of}
use Rattle.starts.specs.Starts.{ranks, Reaches, Fills}
use Rattle.tables.specs.RowLaws.{part-stored}
use Rattle.tables.specs.RunLaws.{keys_from, keys-add}

-- ---- the starts set range by range

pub reach-most : (key many : ℕ) → many < key / 256 + 1 → Reaches key many many
reach-most key many h = record { most = omega arith; own = λ (p : ℕ) (l : p < many). omega arith; after = λ (p : ℕ) (l : many ≤ p) (g : p < many). absurd (omega arith) }

pub reach-own : (key many : ℕ) → key / 256 + 1 ≤ many → Reaches key many (key / 256 + 1)
reach-own key many h = record { most = h; own = λ (p : ℕ) (l : p < key / 256 + 1). omega arith; after = λ (p : ℕ) (l : key / 256 + 1 ≤ p) (g : p < many). omega arith }

pub fill_none : (s : List ℕ) (p end v : ℕ) → p ≤ length s → end ≤ p → Fills s s p end v p
fill_none s p end v h g = let e : p - p ≡ 0 = omega arith in record { is = rw e; low = omega arith; most = h; reached = g; no_more = λ (q : ℕ) (a : p ≤ q) (b : q < p). absurd (omega arith) }

pub fill-part : (s f : List ℕ) (p end v : ℕ) → end ≤ length s → p < end → f ≡ replicate (length (mid_of p (end - p) s)) v → Fills s (put_mid p (end - p) s f) p end v end
fill-part s f p end v h g e =
    let n : length (mid_of p (end - p) s) ≡ end - p = mid_len p end s h in
    let k : f ≡ replicate (end - p) v = e ∙ ap (λ (m : ℕ). replicate m v) n in
    record { is = part-stored s f p end (omega arith) h (ap length k ∙ length-replicate (end - p) v) ∙ ap (sets s p) k; low = omega arith; most = h; reached = omega arith; no_more = λ (q : ℕ) (a : p ≤ q) (b : q < end). b }

-- of the starts s the first p are set, i entries are passed, and those lie before every place from p on
pub record Ranking (s l s' : List ℕ) (p i : ℕ) : Type 0 where
  pub done : s' ≡ ranks l p ++ drop p s
  pub long : length s' ≡ length s
  pub within : p ≤ length s
  pub few : i ≤ length l
  pub passed : (q : ℕ) → p ≤ q → q < length s → rank (q * 256) l ≡ i + rank (q * 256) (drop i l)

pub rank-begins : (s l : List ℕ) → Ranking s l s 0 0
unfolding span
rank-begins s l = record { done = refl; long = refl; within = omega arith; few = omega arith; passed = λ q h g. sym (zero-add (rank (q * 256) l)) }

map-const : (f : ℕ → ℕ) (v lo n : ℕ) → ((q : ℕ) → lo ≤ q → q < lo + n → f q ≡ v) → map f (span lo n) ≡ replicate n v
unfolding span
map-const f v lo zero h = refl
map-const f v lo (suc n) h = ap₂ (λ (x : ℕ) (m : List ℕ). x ∷ m) (h lo (omega arith) (omega arith)) (map-const f v (suc lo) n (λ q a b. h q (omega arith) (omega arith)))

module _ {s l s' : List ℕ} {p i : ℕ} (k : Ranking s l s' p i) where
  -- a range of places that have i entries before them
  rank-range : {s'' : List ℕ} {end r : ℕ} → Fills s' s'' p end i r → ((q : ℕ) → p ≤ q → q < r → rank (q * 256) l ≡ i) → s'' ≡ ranks l r ++ drop r s
  rank-range {s''} {end} {r} f same =
      let e : p + (r - p) ≡ r = omega (arith, f.low) in
      let shown : length (ranks l p) ≡ p = length-map (upto p) (λ (n : ℕ). rank (n * 256) l) ∙ length-span 0 p in
      let part : map (λ (q : ℕ). rank (q * 256) l) (span p (r - p)) ≡ replicate (r - p) i = map-const (λ (q : ℕ). rank (q * 256) l) i p (r - p) (λ q a b. same q a (omega arith)) in
      let all : ranks l r ≡ ranks l p ++ replicate (r - p) i = ap (λ (n : ℕ). ranks l n) (sym e) ∙ ap (map (λ (q : ℕ). rank (q * 256) l)) (span-add 0 p (r - p) ∙ ap (λ (n : ℕ). upto p ++ span n (r - p)) (zero-add p)) ∙ map-append (λ (q : ℕ). rank (q * 256) l) (upto p) (span p (r - p)) ∙ ap (λ (m : List ℕ). ranks l p ++ m) part in
      f.is ∙ ap (λ (m : List ℕ). sets m p (replicate (r - p) i)) k.done
      ∙ sets-eq (replicate (r - p) i) (ranks l p ++ drop p s) p (omega (arith, length-append (ranks l p) (drop p s), shown, length-drop p s, length-replicate (r - p) i, f.most, k.long))
      ∙ ap₂ (λ (a b : List ℕ). (a ++ replicate (r - p) i) ++ b) (take_at (ranks l p) (drop p s) p shown) (ap (λ (n : ℕ). drop n (ranks l p ++ drop p s)) (ap (λ (n : ℕ). p + n) (length-replicate (r - p) i)) ∙ beyond (r - p) shown ∙ ap (λ (n : ℕ). drop n s) e)
      ∙ ap (λ (m : List ℕ). m ++ drop r s) (sym all)
    where
      beyond : (d : ℕ) → length (ranks l p) ≡ p → drop (p + d) (ranks l p ++ drop p s) ≡ drop (p + d) s
      beyond d shown = ap (λ (n : ℕ). drop (n + d) (ranks l p ++ drop p s)) (sym shown) ∙ drop-append-add (ranks l p) (drop p s) d ∙ drop-drop d p s

  pub rank-turns : {s'' : List ℕ} {end r : ℕ} → i < length l → Reaches (slice_index l i) (length s) end → Fills s' s'' p end i r → Ranking s l s'' r (i + 1)
  rank-turns {s''} {end} {r} h reach f = record {
    done = rank-range f (λ q a b. k.passed q a (omega (arith, f.most, k.long)) ∙ ap (λ (n : ℕ). i + n) (rank-stop (q * 256) l i h (reach.own q (f.no_more q a b))) ∙ add-zero i);
    long = ap length f.is ∙ length-sets s' p (replicate (r - p) i) ∙ k.long;
    within = omega (arith, f.most, k.long);
    few = omega arith;
    passed = λ q a b. k.passed q (omega (arith, f.low)) b ∙ ap (λ (n : ℕ). i + n) (rank-go (q * 256) l i h (reach.after q (omega (arith, f.reached)) b)) ∙ rw (add-one i) (omega arith);
  }

  pub rank-full : p ≡ length s → s' ≡ ranks l (length s)
  rank-full e = k.done ∙ rw e (ap (λ (m : List ℕ). ranks l (length s) ++ m) (drop-length s) ∙ append-nil (ranks l (length s)))

  -- the places after the last entry
  pub rank-ends : {s'' : List ℕ} {r : ℕ} → length l ≤ i → Fills s' s'' p (length s) i r → s'' ≡ ranks l (length s)
  rank-ends {s''} {r} h f =
      let e : r ≡ length s = omega (arith, f.reached, f.most, k.long) in
      rank-range f (λ q a b. k.passed q a (omega arith) ∙ ap (λ (n : ℕ). i + n) (rank-end (q * 256) l i h) ∙ add-zero i) ∙ rw e (ap (λ (m : List ℕ). ranks l (length s) ++ m) (drop-length s) ∙ append-nil (ranks l (length s)))

-- ---- on tables

pub map_same : (f g : ℕ → ℕ) (l : List ℕ) → ((x : ℕ) → Memᴰ x l → f x ≡ g x) → map f l ≡ map g l
map_same f g [] h = refl
map_same f g (x ∷ l) h = rw (h x (Memᴰ.head refl), map_same f g l (λ y m. h y (Memᴰ.tail m)))

pub replicate→ : (n v y : ℕ) → Memᴰ y (replicate n v) → y ≡ v
replicate→ zero v y m = absurd (Memᴰ.not-nil m)
replicate→ (suc n) v y m = ⊎_elim (λ (e : y ≡ v). e) (λ (h : Memᴰ y (replicate n v)). replicate→ n v y h) (Memᴰ.cases_cons m)

-- before a place lie the keys of the places below it
pub rank-start : (t : Tables) → Sized t → (p : ℕ) → p ≤ squares (shape_of t) → rank (p * 256) (entries_of t) ≡ length (keys_to t p)
rank-start t size p h =
    let d = squares (shape_of t) - p in
    let e : squares (shape_of t) ≡ p + d = omega arith in
    let marks = replicate (entry_room t - length (used t)) free in
    let rest = keys_from t p d ++ marks in
    let parts : entries_of t ≡ keys_to t p ++ rest = ap (λ (l : List ℕ). l ++ marks) (ap (keys_to t) e ∙ keys-add t p d) ∙ append_assoc (keys_to t p) (keys_from t p d) marks in
    ap (rank (p * 256)) parts
    ∙ rank-append (p * 256) (keys_to t p) rest
    (λ y m. omega (arith, span→ 0 (p * 256) y (keep→ (on t) (upto (p * 256)) y m).0))
    (λ y m. ⊎_elim
    (λ (g : Memᴰ y (keys_from t p d)). (span→ (p * 256) (d * 256) y (keep→ (on t) (span (p * 256) (d * 256)) y g).0).0)
    (λ (g : Memᴰ y marks). omega (arith, replicate→ (entry_room t - length (used t)) free y g, squares-few (shape_of t) size.shape))
    (Memᴰ.append_cases (keys_from t p d) m))
