-- Laws of the keys that one rectangle has and another has not: sieved square by square, and room for those of both.
use Rattle.std.specs.Prelude.{ℕ, ◌+◌, ◌-◌, ◌*◌, ◌/◌, ◌%◌, ◌<◌, ◌≤◌, ◌≡◌, refl, Bool, true, false, cond, not, ◌&&◌, get_or, take, drop, set}
use Rattle.std.proofs.Math.Path.{ap, sym}
use Rattle.std.proofs.Common.{ap₂, ◌∙◌, arith, add-one, length-drop, length-take-le, take-suc, take_all, take_at, get_or-append-add, get_or-drop, get_or-set_other}
use mathlib.Core.List.{List, [], ◌∷◌, ◌++◌, map, append-nil, Memᴰ}
use Rattle.std.proofs.Math.Arith.{digits_div, digits_mod}
use Rattle.std.proofs.Math.ListN.{length, length-append, length-set}
use Rattle.std.proofs.lemmas.List.{length-map, take-append-le}
use Rattle.std.proofs.Math.Seq.{take-suc-set, take-set-le}
use Rattle.order.specs.Order.{upto, keep, has, lacks, Wrote}
use Rattle.order.specs.TestLaws.{true-not-false, and→, both_ways}
use Rattle.order.specs.RisingLaws.{member-at}
use Rattle.order.specs.BufferLaws.{wrote-over, wrote-length}
use Rattle.order.specs.HasLaws.{has→, →has}
use Rattle.order.specs.KeepLaws.{keep_append, keep→, keep-ext, keep-keep, length-span, span→}
use Rattle.squares.specs.declared.shape.Shape.{Shape}
use Rattle.squares.specs.declared.shape.Rect.{Rect}
use Rattle.squares.specs.Bounds.{Allowed}
use Rattle.squares.specs.Squares.{squares}
use Rattle.cuts.specs.Cut.{in_cut, cut}
use Rattle.cuts.specs.Leaves.{Both}
use Rattle.tables.specs.PlaceLaws.{place-below, level-place, number-place}
use Rattle.entries.specs.Keys.{code_place, code_key, zone_keys, Coded}
use Rattle.entries.specs.KeyLaws.{keep-map, cut_at, zone-keys, length-keys, cut-coded, keys→, →keys, cut-count, cut-shown, keys-fit, codes-there}
use Rattle.rides.specs.Apart.{code_out, SievedRoom, Sieved, ApartRoom, WroteApart}

-- ---- numbers with a property moved to the front

-- those of the first i stand at the front, n of them; from i on stands what stood there
pub record Sieving (f : ℕ → Bool) (e l : List ℕ) (i n : ℕ) : Type 0 where
  pub front : take n l ≡ keep f (take i e)
  pub count : n ≡ length (keep f (take i e))
  pub rest : (q : ℕ) → i ≤ q → get_or l q 0 ≡ get_or e q 0
  pub long : length l ≡ length e
  pub passed : n ≤ i
  pub within : i ≤ length e

pub sieve-begins : (f : ℕ → Bool) (e : List ℕ) → Sieving f e e 0 0
unfolding keep
sieve-begins f e = record { front = refl; count = refl; rest = λ q h. refl; long = refl; passed = omega arith; within = omega arith }

module _ {f : ℕ → Bool} {e l : List ℕ} {i n : ℕ} (k : Sieving f e l i n) where
  kept_more : i < length e → keep f (take (i + 1) e) ≡ keep f (take i e) ++ keep f (get_or l i 0 ∷ [])
  kept_more h = rw (add-one i, take-suc e i 0 h, ← k.rest i (omega arith)) (keep_append f (take i e) (get_or l i 0 ∷ []))

  rest_more : (q : ℕ) → i + 1 ≤ q → get_or (set l n (get_or l i 0)) q 0 ≡ get_or e q 0
  rest_more q h = get_or-set_other l n q (get_or l i 0) 0 (λ (z : q ≡ n). omega (arith, k.passed)) ∙ k.rest q (omega arith)

  pub sieve-takes : i < length e → f (get_or l i 0) ≡ true → Sieving f e (set l n (get_or l i 0)) (i + 1) (n + 1)
  unfolding keep
  sieve-takes h t =
      let o : keep f (take (i + 1) e) ≡ keep f (take i e) ++ (get_or l i 0 ∷ []) = kept_more h ∙ rw t in
      record {
        front = rw (add-one n, take-suc-set l n (get_or l i 0) (omega (arith, k.passed, k.long))) (ap (λ (m : List ℕ). m ++ (get_or l i 0 ∷ [])) k.front ∙ sym o);
        count = sym (ap length o ∙ length-append (keep f (take i e)) (get_or l i 0 ∷ []) ∙ ap (λ (m : ℕ). m + 1) (sym k.count));
        rest = rest_more;
        long = length-set l n (get_or l i 0) ∙ k.long;
        passed = omega (arith, k.passed);
        within = omega arith;
      }

  pub sieve-skips : i < length e → f (get_or l i 0) ≡ false → Sieving f e (set l n (get_or l i 0)) (i + 1) n
  unfolding keep
  sieve-skips h t =
      let o : keep f (take (i + 1) e) ≡ keep f (take i e) = kept_more h ∙ rw t (append-nil (keep f (take i e))) in
      record {
        front = take-set-le n l n (get_or l i 0) (omega arith) ∙ k.front ∙ sym o;
        count = k.count ∙ sym (ap length o);
        rest = rest_more;
        long = length-set l n (get_or l i 0) ∙ k.long;
        passed = omega (arith, k.passed);
        within = omega arith;
      }

module _ {s : Shape} {r : Rect} {e l : List ℕ} {i n : ℕ} (k : Sieving (code_out s r) e l i n) where
  -- the next number is a square's
  pub sieve-next : SievedRoom s r e → i < length e → Both s r (get_or l i 0 / 1048576) (get_or l i 0 % 1048576)
  sieve-next room h = rw (k.rest i (omega arith)) (record { shape = room.shape; rect = room.rect; level = room.level i h; number = room.number i h })

  pub sieve-ends : length e ≤ i → Sieved s r e l n
  sieve-ends h =
      let a = take_all i e h in
      record { front = k.front ∙ ap (keep (code_out s r)) a; count = k.count ∙ ap (λ (m : List ℕ). length (keep (code_out s r) m)) a; within = omega (arith, k.passed, k.within) }

-- two properties that no number of a list has both
never_both : (p q : ℕ → Bool) (l : List ℕ) → ((x : ℕ) → Memᴰ x l → p x ≡ true → q x ≡ true → ⊥) → length (keep p l) + length (keep q l) ≤ length l
unfolding keep
never_both p q [] h = omega arith
never_both p q (x ∷ l) h = go (p x) refl (q x) refl (never_both p q l (λ y m. h y (Memᴰ.tail m)))
  where
    go : (t : Bool) → p x ≡ t → (u : Bool) → q x ≡ u → length (keep p l) + length (keep q l) ≤ length l → length (cond t (x ∷ keep p l) (keep p l)) + length (cond u (x ∷ keep q l) (keep q l)) ≤ length (x ∷ l)
    go true e true f b = absurd (h x (Memᴰ.head refl) e f)
    go true e false f b = omega arith
    go false e true f b = omega arith
    go false e false f b = omega arith

-- ---- the keys of two rectangles

module _ (s : Shape) (r r' : Rect) (allowed : Allowed s) (z : ℕ) (zone : z < 256) where
  -- r' has the key of a square just if the square is in its cut
  has_code : (c : ℕ) → Memᴰ c (cut s r) → has (zone_keys s r' z) (code_key s z c) ≡ in_cut s r' (c / 1048576) (c % 1048576)
  has_code c m =
      let d = cut-coded s r allowed z zone c m in
      let p = code_place s c in
      let low : p < squares s = place-below s (c / 1048576) (c % 1048576) d.level d.number in
      let e : code_key s z c / 256 ≡ p = digits_div p zone in
      let same : cut_at s r' (code_key s z c / 256) ≡ in_cut s r' (c / 1048576) (c % 1048576) =
      ap (cut_at s r') e ∙ ap₂ (in_cut s r') (level-place s (c / 1048576) (c % 1048576) d.level d.number) (number-place s (c / 1048576) (c % 1048576) d.level d.number) in
      both_ways (has (zone_keys s r' z) (code_key s z c)) (in_cut s r' (c / 1048576) (c % 1048576))
      (λ h. sym same ∙ (keys→ s r' allowed z zone (code_key s z c) (has→ (zone_keys s r' z) (code_key s z c) h)).1.1)
      (λ h. →has (zone_keys s r' z) (code_key s z c) (→keys s r' allowed z (code_key s z c) (omega arith) (digits_mod p zone) (same ∙ h)))

  apart-keys : map (code_key s z) (keep (code_out s r') (cut s r)) ≡ lacks (zone_keys s r' z) (zone_keys s r z)
  apart-keys =
      sym
      (keep-map (λ (x : ℕ). not (has (zone_keys s r' z) x)) (code_key s z) (cut s r)
      ∙ ap (map (code_key s z)) (keep-ext (λ (c : ℕ). not (has (zone_keys s r' z) (code_key s z c))) (code_out s r') (cut s r) (λ c m. ap not (has_code c m))))

  -- those that only r has and those of r' together are no more than the town has squares
  pub apart-few : length (lacks (zone_keys s r' z) (zone_keys s r z)) + length (cut s r') ≤ squares s
  apart-few =
      let U = upto (squares s) in
      let key : ℕ → ℕ = λ (p : ℕ). p * 256 + z in
      let out : ℕ → Bool = λ (x : ℕ). not (has (zone_keys s r' z) x) in
      let only : ℕ → Bool = λ (p : ℕ). cut_at s r p && out (key p) in
      let a : length (lacks (zone_keys s r' z) (zone_keys s r z)) ≡ length (keep only U) =
      ap (λ (l : List ℕ). length (keep out l)) (zone-keys s r allowed z)
      ∙ ap length (keep-map out key (keep (cut_at s r) U))
      ∙ length-map (keep (λ (p : ℕ). out (key p)) (keep (cut_at s r) U)) key
      ∙ ap length (keep-keep (λ (p : ℕ). out (key p)) (cut_at s r) U) in
      let b : length (cut s r') ≡ length (keep (cut_at s r') U) = sym (length-keys s r' allowed z) ∙ ap length (zone-keys s r' allowed z) ∙ length-map (keep (cut_at s r') U) key in
      let c : length (keep only U) + length (keep (cut_at s r') U) ≤ length U = never_both only (cut_at s r') U (λ p m g h. true-not-false (out (key p)) (and→ (cut_at s r p) (out (key p)) g).1 (ap not (→has (zone_keys s r' z) (key p) (there p m h)))) in
      omega (arith, length-span 0 (squares s))
    where
      there : (p : ℕ) → Memᴰ p (upto (squares s)) → cut_at s r' p ≡ true → Memᴰ (p * 256 + z) (zone_keys s r' z)
      there p m h =
          let e : (p * 256 + z) / 256 ≡ p = digits_div p zone in
          →keys s r' allowed z (p * 256 + z) (omega (arith, span→ 0 (squares s) p m)) (digits_mod p zone) (rw e h)

-- ---- keys written

-- what stands after a list that is written to the front
after : (x b : List ℕ) (n : ℕ) → length x ≡ n → (q : ℕ) → n ≤ q → get_or (x ++ drop n b) q 0 ≡ get_or b q 0
after x b n e q h =
    let a : q ≡ length x + (q - n) = omega arith in
    let c : n + (q - n) ≡ q = omega arith in
    ap (λ (i : ℕ). get_or (x ++ drop n b) i 0) a ∙ get_or-append-add x (drop n b) (q - n) 0 ∙ get_or-drop n b (q - n) 0 ∙ ap (λ (i : ℕ). get_or b i 0) c

-- the cut at the front of a buffer, sieved there, and what is left turned into keys
module _ {s : Shape} {r r' : Rect} {z : ℕ} {b : List ℕ} (k : ApartRoom s r r' z b) {b' : List ℕ} {n : ℕ} (w : Wrote b b' 0 n (cut s r)) where
  pub sieve-room : SievedRoom s r' (take n b')
  sieve-room = record { shape = k.room.shape; rect = k.other; level = λ i h. (codes-there k.room w i h).level; number = λ i h. (codes-there k.room w i h).number }

  module _ {l : List ℕ} {m : ℕ} (v : Sieved s r' (take n b') l m) (same : length l ≡ length (take n b')) where
    left : take m (l ++ drop n b') ≡ keep (code_out s r') (cut s r)
    left = take-append-le m l (drop n b') (omega (arith, v.within)) ∙ v.front ∙ ap (keep (code_out s r')) (cut-shown k.room w)

    pub left-fits : m ≤ length (l ++ drop n b')
    left-fits = omega (arith, v.within, length-append l (drop n b'))

    pub left-coded : (i : ℕ) → i < length (take m (l ++ drop n b')) → Coded s z (get_or (take m (l ++ drop n b')) i 0)
    left-coded i h = rw left (cut-coded s r k.room.shape z k.room.zone (get_or kept i 0) (keep→ (code_out s r') (cut s r) (get_or kept i 0) (member-at kept i (rw left at h))).0)
      where
        kept : List ℕ
        kept = keep (code_out s r') (cut s r)

    pub apart-written : (x : List ℕ) → x ≡ map (code_key s z) (take m (l ++ drop n b')) → WroteApart s r r' z b (x ++ drop m (l ++ drop n b')) m
    apart-written x e =
        let y = l ++ drop n b' in
        let fit = keys-fit k.room w in
        let many = cut-count k.room w in
        let is : x ≡ lacks (zone_keys s r' z) (zone_keys s r z) = e ∙ ap (map (code_key s z)) left ∙ apart-keys s r r' k.room.shape z k.room.zone in
        let c : length x ≡ m = ap length e ∙ length-map (take m y) (code_key s z) ∙ length-take-le m y left-fits in
        let front : length l ≡ n = same ∙ length-take-le n b' fit in
        record {
          front = take_at x (drop m y) m c ∙ is;
          count = sym c ∙ ap length is;
          fewer = omega (arith, v.within);
          long = length-append x (drop m y) ∙ omega (arith, length-drop m y, length-append l (drop n b'), length-drop n b', left-fits, wrote-length w);
          rest = λ (q : ℕ) (h : length (cut s r) ≤ q).
              after x y m c q (omega (arith, v.within)) ∙ after l b' n front q (omega arith) ∙ ap (λ (i : List ℕ). get_or i q 0) (wrote-over w k.room.room) ∙ after (cut s r) b (length (cut s r)) refl q h;
        }
