-- Laws of a list taken apart at a mark.
use Rattle.std.specs.Prelude.{ℕ, suc, ◌+◌, ◌-◌, ◌<◌, ◌≤◌, ◌≡◌, refl, Bool, true, false, cond, List, [], ◌∷◌, eqb, length, get_or, take, drop}
use Rattle.std.proofs.Common.{ap, sym, ◌∙◌, ⊎_elim, arith, add-one, length-drop, eq-eqb, ne_eqb, lt-ltb, le-ltb}
use lib.Seq.{drop-cons, drop-drop}
use Rattle.order.specs.TestLaws.{lt-or-le}
use Rattle.line.specs.Split.{split, grow}
use Rattle.line.specs.Fields.{front, rest}
use Rattle.line.specs.Leaves.{Ends}

-- ---- the first part

front-mark : (mark x : ℕ) (l : List ℕ) → x ≡ mark → front mark (x ∷ l) ≡ []
unfolding front
front-mark mark x l e = rw (eq-eqb x mark e)

front-other : (mark x : ℕ) (l : List ℕ) → (x ≡ mark → ⊥) → front mark (x ∷ l) ≡ x ∷ front mark l
unfolding front
front-other mark x l f = rw (ne_eqb x mark f)

-- a split list is its first part, and the parts after the mark if there is one
split-last : (mark : ℕ) (l : List ℕ) → length l ≤ length (front mark l) → split mark l ≡ l ∷ []
unfolding split front
split-last mark [] h = refl
split-last mark (x ∷ l) h = go (eqb x mark) h (split-last mark l)
  where
    go : (t : Bool) → suc (length l) ≤ length (cond t [] (x ∷ front mark l)) → (length l ≤ length (front mark l) → split mark l ≡ l ∷ []) → cond t ([] ∷ split mark l) (grow x (split mark l)) ≡ (x ∷ l) ∷ []
    go true g k = absurd (omega arith)
    go false g k = ap (grow x) (k (omega arith))

split-more : (mark : ℕ) (l : List ℕ) → length (front mark l) < length l → split mark l ≡ front mark l ∷ split mark (drop (suc (length (front mark l))) l)
unfolding split front
split-more mark [] h = absurd (omega arith)
split-more mark (x ∷ l) h = go (eqb x mark) h (split-more mark l)
  where
    go : (t : Bool) → length (cond t [] (x ∷ front mark l)) < suc (length l) → (length (front mark l) < length l → split mark l ≡ front mark l ∷ split mark (drop (suc (length (front mark l))) l)) → cond t ([] ∷ split mark l) (grow x (split mark l)) ≡ cond t [] (x ∷ front mark l) ∷ split mark (drop (length (cond t [] (x ∷ front mark l))) l)
    go true g k = refl
    go false g k = ap (grow x) (k (omega arith))

pub front-take : (mark : ℕ) (l : List ℕ) → front mark l ≡ take (length (front mark l)) l
unfolding front
front-take mark [] = refl
front-take mark (x ∷ l) = go (eqb x mark) (front-take mark l)
  where
    go : (t : Bool) → front mark l ≡ take (length (front mark l)) l → cond t [] (x ∷ front mark l) ≡ take (length (cond t [] (x ∷ front mark l))) (x ∷ l)
    go true e = refl
    go false e = ap (λ (m : List ℕ). x ∷ m) e

pub front-le : (mark : ℕ) (l : List ℕ) → length (front mark l) ≤ length l
unfolding front
front-le mark [] = omega arith
front-le mark (x ∷ l) = go (eqb x mark) (front-le mark l)
  where
    go : (t : Bool) → length (front mark l) ≤ length l → length (cond t [] (x ∷ front mark l)) ≤ suc (length l)
    go true h = omega arith
    go false h = omega arith

-- ---- where the part that starts at a place ends

-- so far no mark
pub record Scans (mark : ℕ) (l : List ℕ) (at i : ℕ) : Type 0 where
  pub same : i + length (front mark (drop i l)) ≡ at + length (front mark (drop at l))
  pub from : at ≤ i
  pub within : i ≤ length l

pub scan_begins : (mark : ℕ) (l : List ℕ) (at : ℕ) → at ≤ length l → Scans mark l at at
scan_begins mark l at h = record { same = refl; from = omega arith; within = h }

pub scan-turns : (mark : ℕ) (l : List ℕ) (at i : ℕ) → Scans mark l at i → i < length l → (get_or l i 0 ≡ mark → ⊥) → Scans mark l at (i + 1)
scan-turns mark l at i s h f =
    let e : length (front mark (drop i l)) ≡ suc (length (front mark (drop (suc i) l))) = rw (drop-cons l i 0 h) (ap length (front-other mark (get_or l i 0) (drop (suc i) l) f)) in
    record { same = rw add-one (omega (arith, s.same)); from = omega (arith, s.from); within = omega arith }

pub scan-stops : (mark : ℕ) (l : List ℕ) (at i : ℕ) → Scans mark l at i → i < length l → get_or l i 0 ≡ mark → Ends mark l at i
scan-stops mark l at i s h g =
    let e : length (front mark (drop i l)) ≡ 0 = rw (drop-cons l i 0 h) (ap length (front-mark mark (get_or l i 0) (drop (suc i) l) g)) in
    record { is = omega (arith, s.same); from = s.from; within = s.within }

pub scan-ends : (mark : ℕ) (l : List ℕ) (at i : ℕ) → Scans mark l at i → length l ≤ i → Ends mark l at i
scan-ends mark l at i s h =
    let e : length (front mark (drop i l)) ≤ 0 = let k = front-le mark (drop i l) in omega (arith, length-drop i l) in
    record { is = omega (arith, s.same); from = s.from; within = s.within }

-- ---- the fields from a place on

pub rest-none : (l : List ℕ) (at : ℕ) → length l < at → rest l at ≡ []
unfolding rest
rest-none l at h = rw (lt-ltb (length l) at h)

pub rest_more : (l : List ℕ) (at e : ℕ) → at ≤ length l → e ≡ at + length (front 9 (drop at l)) → rest l at ≡ take (e - at) (drop at l) ∷ rest l (e + 1)
unfolding rest
rest_more l at e h q =
    let m = drop at l in
    let n = length (front 9 m) in
    let d : e - at ≡ n = omega arith in
    let k = length-drop at l in
    let j : at + suc n ≡ e + 1 = omega arith in
    rw (le-ltb (length l) at h, d)
    (⊎_elim
    (λ (g : n < length m).
    split-more 9 m g ∙ ap (λ (t : List ℕ). t ∷ split 9 (drop (suc n) m)) (front-take 9 m)
    ∙ rw (le-ltb (length l) (e + 1) (omega arith)) (ap (λ (t : List ℕ). take n m ∷ split 9 t) (drop-drop (suc n) at l ∙ ap (λ (x : ℕ). drop x l) j)))
    (λ (g : length m ≤ n).
    let w = front-le 9 m in
    split-last 9 m g ∙ rw (lt-ltb (length l) (e + 1) (omega arith)) (ap (λ (t : List ℕ). t ∷ []) (sym (lib.Seq.take_all n m g))))
    (lt-or-le n (length m)))
