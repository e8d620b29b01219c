-- Laws of lists laid side by side: none, one number, and lists laid after lists.
use Prim.Native.Nat.{ℕ, zero, suc, ◌+◌, ◌<◌, ◌≤◌}
use Rattle.std.specs.Prelude.{◌≡◌, List, [], ◌∷◌, ◌++◌, length, get_or, set}
use Rattle.std.proofs.Math.Path.{refl}
use Rattle.std.proofs.Common.{ap, sym, ◌∙◌, arith, length-append, length-set, get_or-set_same, get_or-set_other}
use Rattle.std.proofs.Math.Logic.{⊎_elim}
use Rattle.std.proofs.lemmas.List.Edits.{sets}
use Rattle.std.proofs.Math.Seq.{length-sets}
use Rattle.std.proofs.lemmas.List.{set_comm}
use Rattle.order.specs.BufferLaws.{wrote-more}
use Rattle.order.specs.TestLaws.{lt-or-eq-or-gt, same-or-other}
use Rattle.cuts.specs.Lay.{laid, Lays, Apart}

-- ---- one list after or beside another

pub sets-after : (b : List ℕ) (at : ℕ) (l m : List ℕ) → sets (sets b at l) (at + length l) m ≡ sets b at (l ++ m)
sets-after b at l m = (wrote-more {b = b} {l = l} {m = m} {at = at} (record { stored = refl; next = refl }) (record { stored = refl; next = refl })).stored

set-beside : (b : List ℕ) (p x q : ℕ) (m : List ℕ) → q + length m ≤ p → sets (set b p x) q m ≡ set (sets b q m) p x
set-beside b p x q [] h = refl
set-beside b p x q (y ∷ m) h = rw (set_comm b p q x y (λ e. omega arith)) (set-beside (set b q y) p x (suc q) m (omega arith))

sets-beside : (b : List ℕ) (p : ℕ) (l : List ℕ) (q : ℕ) (m : List ℕ) → q + length m ≤ p → sets (sets b p l) q m ≡ sets (sets b q m) p l
sets-beside b p [] q m h = refl
sets-beside b p (x ∷ l) q m h = sets-beside (set b p x) (suc p) l q m (omega arith) ∙ ap (λ (c : List ℕ). sets c (suc p) l) (set-beside b p x q m h)

-- ---- the lists of all levels

laid_beside : (b : List ℕ) (p : ℕ) (l : List ℕ) (lists : ℕ → List ℕ) (places : List ℕ) (i : ℕ) → ((j : ℕ) → j < i → get_or places j 0 + length (lists j) ≤ p) → laid (sets b p l) lists places i ≡ sets (laid b lists places i) p l
unfolding laid
laid_beside b p l lists places zero h = refl
laid_beside b p l lists places (suc i) h =
    ap (λ (c : List ℕ). sets c (get_or places i 0) (lists i)) (laid_beside b p l lists places i (λ j g. h j (omega arith)))
    ∙ sets-beside (laid b lists places i) p l (get_or places i 0) (lists i) (h i (omega arith))

laid_same : (b : List ℕ) (l m : ℕ → List ℕ) (places : List ℕ) (i : ℕ) → ((j : ℕ) → j < i → l j ≡ m j) → laid b l places i ≡ laid b m places i
unfolding laid
laid_same b l m places zero h = refl
laid_same b l m places (suc i) h = rw (laid_same b l m places i (λ j g. h j (omega arith)), h i (omega arith))

laid_none : (b : List ℕ) (places : List ℕ) (i : ℕ) → laid b (λ j. []) places i ≡ b
unfolding laid
laid_none b places zero = refl
laid_none b places (suc i) = laid_none b places i

laid-length : (b : List ℕ) (lists : ℕ → List ℕ) (places : List ℕ) (i : ℕ) → length (laid b lists places i) ≡ length b
unfolding laid
laid-length b lists places zero = refl
laid-length b lists places (suc i) = length-sets (laid b lists places i) (get_or places i 0) (lists i) ∙ laid-length b lists places i

pub lays-length : {l : ℕ → List ℕ} {b b' p q : List ℕ} → Lays l b b' p q → length b' ≡ length b
lays-length {l} {b} {p = p} h = ap length h.stored ∙ laid-length b l p (length p)

-- lists with other lists after them
unfoldable pub joined : (ℕ → List ℕ) → (ℕ → List ℕ) → ℕ → List ℕ
joined l m i = l i ++ m i

pub joined_length : (l m : ℕ → List ℕ) (i : ℕ) → length (joined l m i) ≡ length (l i) + length (m i)
unfolding joined
joined_length l m i = length-append (l i) (m i)

module _ (l m : ℕ → List ℕ) (p q : List ℕ) where
  laid_more : (b : List ℕ) (i : ℕ) → ((j : ℕ) → j < i → get_or q j 0 ≡ get_or p j 0 + length (l j)) → ((j k : ℕ) → j < k → k < i → get_or q j 0 + length (m j) ≤ get_or p k 0) → laid (laid b l p i) m q i ≡ laid b (joined l m) p i
  unfolding laid joined
  laid_more b zero h g = refl
  laid_more b (suc i) h g =
      rw (laid_beside (laid b l p i) (get_or p i 0) (l i) m q i (λ j t. g j i t (omega arith)), laid_more b i (λ j t. h j (omega arith)) (λ j k t u. g j k t (omega arith)), h i (omega arith))
      (sets-after (laid b (joined l m) p i) (get_or p i 0) (l i) (m i))

-- ---- lists laid apart

-- places that have moved, with lists that end no later
apart-within : {l m : ℕ → List ℕ} {p q : List ℕ} → Apart l p → length q ≡ length p → ((i : ℕ) → i < length p → (get_or p i 0 ≤ get_or q i 0) × (get_or q i 0 + length (m i) ≤ get_or p i 0 + length (l i))) → Apart m q
apart-within a e h = record {
  apart = λ i j g t. let u = h i (omega arith) in let v = h j (omega arith) in omega (arith, a.apart i j g (omega arith));
  few = λ i g. let u = h i (omega arith) in omega (arith, a.few i (omega arith));
}

pub apart-shorter : {l m : ℕ → List ℕ} {p : List ℕ} → Apart l p → ((i : ℕ) → i < length p → length (m i) ≤ length (l i)) → Apart m p
apart-shorter {l} {m} {p} a h = apart-within {l = l} {m = m} {p = p} {q = p} a refl (λ i g. (omega arith, omega (arith, h i g)))

pub apart-same : {l m : ℕ → List ℕ} {p : List ℕ} → ((i : ℕ) → i < length p → l i ≡ m i) → Apart l p → Apart m p
apart-same h a = apart-shorter a (λ i g. omega (arith, ap length (h i g)))

-- the second of two lists once the first is laid, and both
module _ (l m : ℕ → List ℕ) {p : List ℕ} (a : Apart (joined l m) p) where
  pub apart-rest : {b b' q : List ℕ} → Lays l b b' p q → Apart m q
  apart-rest {q = q} h = apart-within {l = joined l m} {m = m} {p = p} {q = q} a h.levels (λ i g. let e = h.moved i g in (omega arith, omega (arith, joined_length l m i)))

  pub lays_more : {b b' b'' q q' : List ℕ} → Lays l b b' p q → Lays m b' b'' q q' → Lays (joined l m) b b'' p q'
  lays_more {b} {q = q} v w = record {
    stored = w.stored ∙ rw (v.stored, v.levels) (laid_more l m p q b (length p) v.moved (λ j k t u. let e = v.moved j (omega arith) in omega (arith, a.apart j k t u, joined_length l m j)));
    moved = λ i g. let e = v.moved i g in let f = w.moved i (omega (arith, v.levels)) in omega (arith, joined_length l m i);
    levels = w.levels ∙ v.levels;
  }

pub lays-same : {l m : ℕ → List ℕ} {b b' p q : List ℕ} → ((i : ℕ) → i < length p → l i ≡ m i) → Lays l b b' p q → Lays m b b' p q
lays-same {l} {m} {b} {p = p} h v = record {
  stored = v.stored ∙ laid_same b l m p (length p) h;
  moved = λ i g. let e = v.moved i g in omega (arith, ap length (h i g));
  levels = v.levels;
}

pub lays-none : (l : ℕ → List ℕ) (b p : List ℕ) → ((i : ℕ) → i < length p → l i ≡ []) → Lays l b b p p
lays-none l b p h = record {
  stored = sym (laid_same b l (λ j. []) p (length p) h ∙ laid_none b p (length p));
  moved = λ i g. omega (arith, ap length (h i g));
  levels = refl;
}

-- one number on one level
module _ (l : ℕ → List ℕ) (i x : ℕ) (one : l i ≡ x ∷ []) (others : (j : ℕ) → (j ≡ i → ⊥) → l j ≡ []) (b p : List ℕ) where
  laid-above : (j : ℕ) → j ≤ i → laid b l p j ≡ b
  laid-above j h = laid_same b l (λ k. []) p j (λ k g. others k (λ e. omega arith)) ∙ laid_none b p j

  laid_one : (j : ℕ) → i < j → laid b l p j ≡ set b (get_or p i 0) x
  unfolding laid
  laid_one zero h = absurd (omega arith)
  laid_one (suc j) h = ⊎_elim
      (λ (g : i < j). rw (laid_one j g, others j (λ e. omega arith)))
      (⊎_elim (λ (e : i ≡ j). rw (← e, laid-above i (omega arith), one)) (λ (g : j < i). absurd (omega arith)))
      (lt-or-eq-or-gt i j)

  pub lays_one : i < length p → Lays l b (set b (get_or p i 0) x) p (set p i (get_or p i 0 + 1))
  lays_one h = record { stored = sym (laid_one (length p) h); moved = moves; levels = length-set p i (get_or p i 0 + 1) }
    where
      moves : (j : ℕ) → j < length p → get_or (set p i (get_or p i 0 + 1)) j 0 ≡ get_or p j 0 + length (l j)
      moves j g = ⊎_elim
          (λ (e : (j ≡ i)). rw (e, get_or-set_same p i (get_or p i 0 + 1) 0 h, one))
          (λ (f : (j ≡ i → ⊥)). rw (get_or-set_other p i j (get_or p i 0 + 1) 0 f) (omega (arith, ap length (others j f))))
          (same-or-other j i)
