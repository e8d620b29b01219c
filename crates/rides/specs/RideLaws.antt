-- Laws of a zone's keys exchanged: how many squares are dropped and taken up, the entries that are left, and the starts.
use Rattle.std.specs.Prelude.{ℕ, ◌+◌, ◌-◌, ◌*◌, ◌/◌, ◌%◌, ◌<◌, ◌≤◌, ◌≡◌, Bool, not, eqb, length, get_or, take, drop, replicate}
use Rattle.std.proofs.Math.Path.{refl}
use Rattle.std.proofs.Common.{ap, ap₂, sym, ◌∙◌, ⊎_elim, arith, div-add-mod', length-take, length-drop, length-take-le, eqb-true, eq-eqb}
use mathlib.Core.List.{List, [], ◌∷◌, ◌++◌, map, Memᴰ}
use Rattle.std.proofs.Math.Arith.{digits_div}
use Rattle.std.proofs.lemmas.List.{length-map}
use Rattle.order.specs.Order.{keep, has, lacks}
use Rattle.order.specs.Rising.{Rising}
use Rattle.order.specs.Buffer.{rank}
use Rattle.order.specs.BufferLaws.{rank-le}
use Rattle.order.specs.TestLaws.{lt-or-le, both_ways}
use Rattle.order.specs.HasLaws.{has→, →has, lacks→}
use Rattle.order.specs.KeepLaws.{keep→, →keep, keep-ext}
use Rattle.order.specs.RisingLaws.{rising-keep, rising-ext}
use Rattle.squares.specs.declared.shape.Shape.{Shape}
use Rattle.squares.specs.declared.shape.Rect.{Rect}
use Rattle.squares.specs.Bounds.{Allowed}
use Rattle.squares.specs.ShapeLaws.{squares-few}
use Rattle.cuts.specs.Cut.{code, cut}
use Rattle.tables.specs.Derived.{free, place, level_at, number_at}
use Rattle.tables.specs.PlaceLaws.{level-place, number-place}
use Rattle.tables.specs.RowLaws.{mapped}
use Rattle.starts.specs.Starts.{ranks}
use Rattle.starts.specs.Shift.{shifted, plus, less}
use Rattle.starts.specs.SwapStarts.{SwapKeys, Swapped}
use Rattle.entries.specs.Keys.{code_key, zone_keys}
use Rattle.entries.specs.KeyLaws.{keep-map, cut-coded, length-keys, keys-rise}
use Rattle.entries.specs.Drops.{of_zone, own, others, Listed}
use Rattle.entries.specs.GapLaws.{rank_split, rank-parts, rank-marks}
use Rattle.entries.specs.FrontLaws.{anew-all, anew-front, anew-after}
use Rattle.rides.specs.Swap.{Swap, Counts}
use Rattle.rides.specs.Blocks.{SwapRoom, Swaps}
use Rattle.rides.specs.Changes.{Changed, RideRoom, KeysRidden}
use Rattle.rides.specs.SwapLaws.{swap-length}

-- ---- mapped lists, where g finds the number from what f makes of it

module _ (f g : ℕ → ℕ) where
  same-mapped : (x y : ℕ) → g (f x) ≡ x → g (f y) ≡ y → eqb (f y) (f x) ≡ eqb y x
  same-mapped x y a b = both_ways (eqb (f y) (f x)) (eqb y x)
      (λ e. eq-eqb y x (sym b ∙ ap g (eqb-true (f y) (f x) e) ∙ a))
      (λ e. eq-eqb (f y) (f x) (ap f (eqb-true y x e)))

  has-map : (l : List ℕ) (x : ℕ) → g (f x) ≡ x → ((y : ℕ) → Memᴰ y l → g (f y) ≡ y) → has (map f l) (f x) ≡ has l x
  unfolding has
  has-map [] x a h = refl
  has-map (y ∷ l) x a h = rw (same-mapped x y a (h y (Memᴰ.head refl)), has-map l x a (λ v m. h v (Memᴰ.tail m)))

  lacks-map : (b a : List ℕ) → ((y : ℕ) → Memᴰ y b → g (f y) ≡ y) → ((x : ℕ) → Memᴰ x a → g (f x) ≡ x) → length (lacks (map f b) (map f a)) ≡ length (lacks b a)
  lacks-map b a h k =
      let p : ℕ → Bool = λ (y : ℕ). not (has (map f b) y) in
      ap length (keep-map p f a)
      ∙ length-map (keep (λ (x : ℕ). p (f x)) a) f
      ∙ ap length (keep-ext (λ (x : ℕ). p (f x)) (λ (x : ℕ). not (has b x)) a (λ x m. ap not (has-map b x (k x m) h)))

-- ---- the squares of a cut, by their keys

-- the square of a key
abbrev key_code : Shape → ℕ → ℕ
key_code s key = code (level_at s (key / 256)) (number_at s (key / 256))

module _ (s : Shape) (z : ℕ) (allowed : Allowed s) (zone : z < 256) where
  key-code : (r : Rect) (c : ℕ) → Memᴰ c (cut s r) → key_code s (code_key s z c) ≡ c
  key-code r c m =
      let k = cut-coded s r allowed z zone c m in
      let i = c / 1048576 in
      let n = c % 1048576 in
      let p : code_key s z c / 256 ≡ place s i n = digits_div (place s i n) zone in
      let a : level_at s (code_key s z c / 256) ≡ i = ap (level_at s) p ∙ level-place s i n k.level k.number in
      let b : number_at s (code_key s z c / 256) ≡ n = ap (number_at s) p ∙ number-place s i n k.level k.number in
      ap₂ code a b ∙ div-add-mod' c 1048576

  lacks-count : (r r' : Rect) → length (lacks (zone_keys s r' z) (zone_keys s r z)) ≡ length (lacks (cut s r') (cut s r))
  lacks-count r r' = lacks-map (code_key s z) (key_code s) (cut s r') (cut s r) (key-code r') (key-code r)

-- ---- two rising lists

-- what both have
both-same : {a b : List ℕ} → Rising a → Rising b → keep (has b) a ≡ keep (has a) b
both-same {a} {b} r s = rising-ext (rising-keep (has b) a r) (rising-keep (has a) b s) (go a b) (go b a)
  where
    go : (l m : List ℕ) (x : ℕ) → Memᴰ x (keep (has m) l) → Memᴰ x (keep (has l) m)
    go l m x i = let k = keep→ (has m) l x i in →keep (has l) m x (has→ m x k.1) (→has l x k.0)

-- the second is the first without what it lacks of it and with what the first lacks
lacks-swap : {a b : List ℕ} → Rising a → Rising b → Swap a (lacks b a) (lacks a b) b
lacks-swap {a} {b} r s = record {
  old = r;
  gone = rising-keep (λ (y : ℕ). not (has b y)) a r;
  come = rising-keep (λ (y : ℕ). not (has a y)) b s;
  new = s;
  there = λ x m. (lacks→ b a x m).0;
  fresh = λ x m. (lacks→ a b x m).1;
  each = λ (x : ℕ). omega (arith, rank_split (has b) x a r, rank_split (has a) x b s, ap (rank x) (both-same r s));
}

-- with the same keys of other zones
zone-swap : (z : ℕ) {l n : List ℕ} → Rising l → Rising n → others z n ≡ others z l → Swap l (lacks (own z n) (own z l)) (lacks (own z l) (own z n)) n
zone-swap z {l} {n} r s e =
    let k = lacks-swap (rising-keep (of_zone z) l r) (rising-keep (of_zone z) n s) in
    record {
      old = r;
      gone = k.gone;
      come = k.come;
      new = s;
      there = λ x m. (keep→ (of_zone z) l x (k.there x m)).0;
      fresh = λ x m i. k.fresh x m (→keep (of_zone z) l x i (keep→ (of_zone z) n x (lacks→ (own z l) (own z n) x m).0).1);
      each = λ (x : ℕ). omega (arith, k.each x, rank-parts z x l r, rank-parts z x n s, ap (rank x) e);
    }

-- ---- a start moved

raised-few : (a t : ℕ) → a + t ≤ 103766 → shifted (plus t) a ≡ a + t
raised-few a t h = omega arith

lowered-few : (b d : ℕ) → b + d ≤ 103766 → shifted (less d) (b + d) ≡ b
lowered-few b d h = omega arith

-- up by t and down by d, where so many are few
moved-few : (a b d t : ℕ) → b + d ≡ a + t → a + t ≤ 103766 → shifted (less d) (shifted (plus t) a) ≡ b
moved-few a b d t e h = ap (shifted (less d)) (raised-few a t h ∙ sym e) ∙ lowered-few b d (omega arith)

-- ---- a ride

-- so many numbers from a place on, lent up to their end
pub lent-part : (at come : ℕ) (l : List ℕ) → take (at + come - at) (drop at l) ≡ take come (drop at l)
lent-part at come l = let e : at + come - at ≡ come = omega arith in ap (λ (n : ℕ). take n (drop at l)) e

module _ {s : Shape} {r r' : Rect} {z u : ℕ} {starts entries : List ℕ} (k : RideRoom s r r' z u starts entries) {b : List ℕ} {gone at come n : ℕ} (c : Changed s r r' z starts b gone at come n) where
  abbrev gones : List ℕ
  gones = take gone b

  abbrev comes : List ℕ
  comes = take come (drop at b)

  pub keys-there : SwapKeys gone at come n b
  keys-there = record { dropped = c.fewer; taken = c.few; within = omega (arith, c.within, c.long) }

  many-gone : length gones ≡ gone
  many-gone = length-take-le gone b (omega (arith, c.fewer, c.within, c.long))

  many-come : length comes ≡ come
  many-come = length-take-le come (drop at b) (omega (arith, length-drop at b, c.few, c.within, c.long))

  pub ride-room : SwapRoom gones comes entries u
  ride-room =
      let a = k.changes.shape in
      let w = swap-length (lacks-swap (keys-rise s r a z) (keys-rise s r' a z)) in
      record {
        within = k.within;
        room = omega (arith, w, k.room, length-keys s r a z, length-keys s r' a z, ap length c.dropped, ap length c.taken);
      }

  -- the starts under the keys are few
  pub ride-few : (l : List ℕ) → length (take n l) ≤ 87382
  ride-few l = omega (arith, length-take n l, c.within, k.changes.places, squares-few s k.changes.shape)

  -- the keys exchanged, the starts after them moved, those under them counted anew
  module _ {e m f : List ℕ} (swaps : Swaps b n gones comes u entries e) (moved : Swapped gones comes n b m) (counted : f ≡ ranks e (length (take n m))) where
    within : n ≤ length m
    within = omega (arith, moved.long, c.long, c.within)

    module _ (listed : Listed s r z u starts entries) {l : List ℕ} (rise : Rising l) (same : others z l ≡ others z (take u entries)) (keys : own z l ≡ zone_keys s r' z) where
      swap : Swap (take u entries) gones comes l
      swap = rw (c.dropped, c.taken, listed.keys, ← keys) (zone-swap z listed.ordered.rising rise same)

      was : Counts b n (take u entries)
      was p h g = c.rest p h ∙ listed.ordered.starts p (omega arith) (omega (arith, c.long))

      left : e ≡ l ++ replicate (length entries - length l) free
      left = swaps l swap was listed.marks

      counts : (p : ℕ) → n ≤ p → p < length starts → get_or (f ++ drop n m) p 0 ≡ rank (p * 256) e
      counts p h g =
          let x = p * 256 in
          anew-after n e m within counted p h
          ∙ moved.each p h (omega (arith, c.long))
          ∙ ap (λ (v : ℕ). shifted (less (rank x gones)) (shifted (plus (rank x comes)) v)) (was p h (omega (arith, c.long)))
          ∙ moved-few (rank x (take u entries)) (rank x l) (rank x gones) (rank x comes) (swap.each x) (omega (arith, rank-le x (take u entries), length-take-le u entries k.within, k.within, k.few, rank-le x comes, many-come, c.few, c.within, k.changes.places, squares-few s k.changes.shape))
          ∙ sym (ap (rank x) left ∙ rank-marks x l (length entries - length l) (omega (arith, k.changes.places, squares-few s k.changes.shape)))

      starts-left : f ++ drop n m ≡ ranks e (length starts)
      starts-left = mapped (f ++ drop n m) (λ (p : ℕ). rank (p * 256) e) (length starts) (anew-all n e m within counted ∙ moved.long ∙ c.long) (λ p h. ⊎_elim
          (λ (g : p < n). anew-front n e m within counted p g)
          (λ (g : n ≤ p). counts p g h)
          (lt-or-le p n))

    pub ridden : KeysRidden s r r' z u starts (f ++ drop n m) entries e gone come
    ridden = record {
      dropped = sym many-gone ∙ ap length c.dropped ∙ lacks-count s z k.changes.shape k.changes.zone r r';
      taken = sym many-come ∙ ap length c.taken ∙ lacks-count s z k.changes.shape k.changes.zone r' r;
      left = λ listed l rise same keys. (left listed rise same keys, starts-left listed rise same keys);
    }
