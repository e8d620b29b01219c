-- Laws of the entries and the starts without the keys of one zone: how the loop begins, turns and ends.
use Rattle.std.specs.Prelude.{◌≡◌, ℕ, suc, ◌+◌, ◌-◌, ◌%◌, ◌^◌, ◌<◌, ◌≤◌, Bool, List, [], ◌∷◌, ◌++◌, length, take, drop, replicate, ◌≢◌, slice_index, slice_index_or, slice_set, refl}
use Rattle.std.proofs.Math.Path.{ap, sym}
use Rattle.std.proofs.Common.{ap₂, ◌∙◌, append-nil, arith, add-one, add-zero, length-drop, take-append-drop, length-take-le, take-suc, take_all, drop-set-lt, drop-drop, drop-cons, drop_at, get_or-drop, eq-eqb, ne_eqb}
use Rattle.std.proofs.Math.ListN.{length-append, length-set}
use Rattle.std.proofs.Math.Seq.{take-suc-set, take-set-le}
use Rattle.std.proofs.lemmas.List.{take-append-le, get_or_at}
use borrow.Rule.Slice.PartMut.{mid_of, put_mid, mid_len}
use Rattle.order.specs.Order.{keep}
use Rattle.order.specs.KeepLaws.{keep-yes, keep_append}
use Rattle.tables.specs.Derived.{free}
use Rattle.starts.specs.Starts.{Reaches}
use Rattle.entries.specs.Drops.{of_zone, of_other, own, others, Packed, Passed}
use Rattle.starts.specs.Shift.{less, Shifts}
use Rattle.starts.specs.ShiftLaws.{Moving, move-begins, move-turns, move-ends, less-more}

-- ---- the keys of other zones moved to the front

-- the keys of the first i that are of other zones stand at the front, r of them; from i on stands what stood there
pub record Packing (z : ℕ) (e e' : List ℕ) (i r : ℕ) : Type 0 where
  pub front : take r e' ≡ others z (take i e)
  pub count : r ≡ length (others z (take i e))
  pub rest : drop i e' ≡ drop i e
  pub long : length e' ≡ length e
  pub passed : r ≤ i
  pub within : i ≤ length e

module _ {z : ℕ} {e e' : List ℕ} {i r : ℕ} (p : Packing z e e' i r) (more : i < length e) where
  -- the key at i is the one that stood there at the start
  key-is : slice_index_or e' i 0 ≡ slice_index e i
  key-is = rw (add-zero i) at (sym (get_or-drop i e' 0 0) ∙ ap (λ (l : List ℕ). slice_index l 0) p.rest ∙ get_or-drop i e 0 0)

  kept_more : (f : ℕ → Bool) → keep f (take (i + 1) e) ≡ keep f (take i e) ++ keep f (slice_index e' i ∷ [])
  kept_more f = rw (add-one i, take-suc e i 0 more, ← key-is) (keep_append f (take i e) (slice_index e' i ∷ []))

  rest_more : (v : ℕ) → drop (i + 1) (slice_set e' r v) ≡ drop (i + 1) e
  rest_more v = drop-set-lt (i + 1) e' r v (omega (arith, p.passed)) ∙ sym (drop-drop 1 i e') ∙ ap (drop 1) p.rest ∙ drop-drop 1 i e

  -- a key of another zone goes to the front
  pack-takes : (slice_index e' i % 256 ≢ z) → Packing z e (slice_set e' r (slice_index e' i)) (i + 1) (r + 1)
  unfolding keep
  pack-takes f =
      let o : others z (take (i + 1) e) ≡ others z (take i e) ++ (slice_index e' i ∷ []) = kept_more (of_other z) ∙ rw (ne_eqb (slice_index e' i % 256) z f) in
      record {
        front = rw (add-one r, take-suc-set e' r (slice_index e' i) (omega (arith, p.passed, p.long))) (ap (λ (l : List ℕ). l ++ (slice_index e' i ∷ [])) p.front ∙ sym o);
        count = sym (ap length o ∙ length-append (others z (take i e)) (slice_index e' i ∷ []) ∙ ap (λ (n : ℕ). n + 1) (sym p.count));
        rest = rest_more (slice_index e' i);
        long = length-set e' r (slice_index e' i) ∙ p.long;
        passed = omega (arith, p.passed);
        within = omega arith;
      }

  -- a key of zone z does not
  pack-skips : slice_index_or e' i 0 % 256 ≡ z → Packing z e (slice_set e' r (slice_index e' i)) (i + 1) r
  unfolding keep
  pack-skips f =
      let o : others z (take (i + 1) e) ≡ others z (take i e) = kept_more (of_other z) ∙ rw (eq-eqb (slice_index e' i % 256) z f) (append-nil (others z (take i e))) in
      record {
        front = take-set-le r e' r (slice_index e' i) (omega arith) ∙ p.front ∙ sym o;
        count = p.count ∙ sym (ap length o);
        rest = rest_more (slice_index e' i);
        long = length-set e' r (slice_index e' i) ∙ p.long;
        passed = omega (arith, p.passed);
        within = omega arith;
      }

  -- the keys of zone z that are passed
  own_same : (slice_index e' i % 256 ≢ z) → own z (take (i + 1) e) ≡ own z (take i e)
  unfolding keep
  own_same f = kept_more (of_zone z) ∙ rw (ne_eqb (slice_index e' i % 256) z f) (append-nil (own z (take i e)))

  own-more : slice_index_or e' i 0 % 256 ≡ z → length (own z (take (i + 1) e)) ≡ length (own z (take i e)) + 1
  unfolding keep
  own-more f = ap length (kept_more (of_zone z)) ∙ length-append (own z (take i e)) (own z (slice_index e' i ∷ [])) ∙ ap (λ (n : ℕ). length (own z (take i e)) + n) (rw (eq-eqb (slice_index e' i % 256) z f))

  -- where its next one stands among all
  own-parts : slice_index_or e' i 0 % 256 ≡ z → own z e ≡ own z (take i e) ++ (slice_index e' i ∷ own z (drop (suc i) e))
  own-parts f =
      ap (own z) (sym (take-append-drop i e) ∙ ap (λ (l : List ℕ). take i e ++ l) (drop-cons e i 0 more ∙ ap (λ (x : ℕ). x ∷ drop (suc i) e) (sym key-is)))
      ∙ keep_append (of_zone z) (take i e) (slice_index e' i ∷ drop (suc i) e)
      ∙ ap (λ (l : List ℕ). own z (take i e) ++ l) (keep-yes (of_zone z) (slice_index e' i) (drop (suc i) e) (eq-eqb (slice_index e' i % 256) z f))

-- ---- the starts lowered in the same pass

-- of the first i keys those of other zones are packed, and those of zone z have lowered the starts up to p; v takes as many off
pub record Dropping (z : ℕ) (s s' e e' : List ℕ) (p v r i : ℕ) : Type 0 where
  pub packing : Packing z e e' i r
  pub moving : Moving less (own z e) s s' 0 p (length (own z (take i e)))
  pub lowering : v ≡ less (length (own z (take i e)))

pub drop-begins : (z : ℕ) (s e : List ℕ) → Dropping z s s e e 0 0 0 0
unfolding keep
drop-begins z s e = record { packing = record { front = refl; count = refl; rest = refl; long = refl; passed = omega arith; within = omega arith }; moving = move-begins less (own z e) s 0 (omega arith); lowering = refl }

module _ {z : ℕ} {s s' e e' : List ℕ} {p v r i : ℕ} (k : Dropping z s s' e e' p v r i) where
  pub drop-takes : i < length e → (slice_index e' i % 256 ≢ z) → Dropping z s s' e (slice_set e' r (slice_index e' i)) p v (r + 1) (i + 1)
  drop-takes h f =
      let same = own_same k.packing h f in
      record { packing = pack-takes k.packing h f; moving = rw same k.moving; lowering = rw same k.lowering }

  pub drop-skips : {s'' : List ℕ} {end p' v' : ℕ} → i < length e → slice_index e' i % 256 ≡ z → Reaches (slice_index e' i) (length s) end → Shifts s' s'' p end v p' → v' < 2 ^ 32 → (v' + 1) % 2 ^ 32 ≡ v → Dropping z s s'' e (slice_set e' r (slice_index e' i)) p' v' r (i + 1)
  drop-skips {s''} {end} {p'} {v'} h f reach shifts small back =
      let n = length (own z (take i e)) in
      let parts = own-parts k.packing h f in
      let more = own-more k.packing h f in
      let there : slice_index_or (own z e) n 0 ≡ slice_index_or e' i 0 = ap (λ (l : List ℕ). slice_index l n) parts ∙ get_or_at (own z (take i e)) (slice_index e' i) (own z (drop (suc i) e)) 0 n refl in
      let some : n < length (own z e) = omega (arith, ap length parts, length-append (own z (take i e)) (slice_index e' i ∷ own z (drop (suc i) e))) in
      record {
        packing = pack-skips k.packing h f;
        moving = rw more (move-turns k.moving k.lowering some (rw there reach) shifts);
        lowering = rw more (less-more n v v' small back k.lowering);
      }

  pub drop-ends : {s'' : List ℕ} {p' : ℕ} → length e ≤ i → Shifts s' s'' p (length s) v p' → Packed z s s'' e e' r
  drop-ends {s''} {p'} h shifts =
      let a = take_all i e h in
      let n = length (own z (take i e)) in
      let all : n ≡ length (own z e) = ap (λ (l : List ℕ). length (own z l)) a in
      record {
        front = k.packing.front ∙ ap (others z) a;
        count = k.packing.count ∙ ap (λ (l : List ℕ). length (others z l)) a;
        within = omega (arith, k.packing.passed, k.packing.within);
        starts = move-ends k.moving k.lowering (omega arith) shifts;
      }

-- ---- free marks after them

-- free marks written to a part
pub marked : (l f : List ℕ) (a b : ℕ) → a ≤ b → b ≤ length l → f ≡ replicate (length (mid_of a (b - a) l)) free → put_mid a (b - a) l f ≡ take a l ++ (replicate (b - a) free ++ drop b l)
marked l f a b h g e =
    let k : a + (b - a) ≡ b = omega arith in
    ap₂ (λ (m n : List ℕ). take a l ++ (m ++ n)) (e ∙ ap (λ (n : ℕ). replicate n free) (mid_len a b l g)) (drop-drop (b - a) a l ∙ ap (λ (n : ℕ). drop n l) k)

-- the first u entries packed, and free marks after them
pub pass-fills : {z u : ℕ} {s s' e p : List ℕ} {r : ℕ} → u ≤ length e → Packed z s s' (take u e) p r → length p ≡ length (take u e) → (f : List ℕ) → f ≡ replicate (length (mid_of r (u - r) (p ++ drop u e))) free → Passed z u s s' e (put_mid r (u - r) (p ++ drop u e) f)
pass-fills {z} {u} {s} {s'} {e} {p} {r} h k long f q =
    let front : length (take u e) ≡ u = length-take-le u e h in
    let all : length (p ++ drop u e) ≡ length e = length-append p (drop u e) ∙ omega (arith, length-drop u e) in
    record {
      starts = k.starts;
      entries =
          marked (p ++ drop u e) f r u (omega (arith, k.within)) (omega arith) q
          ∙ ap₂ (λ (m n : List ℕ). m ++ (replicate (u - r) free ++ n)) (take-append-le r p (drop u e) (omega (arith, k.within)) ∙ k.front) (drop_at p (drop u e) u (omega arith))
          ∙ ap (λ (n : ℕ). others z (take u e) ++ (replicate (u - n) free ++ drop u e)) k.count;
    }
