-- Laws of a list set from the front, each number by its index.
use Rattle.std.specs.Prelude.{ℕ, suc, ◌+◌, ◌<◌, ◌≤◌, ◌≡◌, refl, List, [], ◌∷◌, ◌++◌, map, length, get_or, drop, set}
use Rattle.std.proofs.Common.{ap, ap₂, sym, ◌∙◌, append-nil, arith, add-one, add-zero, length-set, drop-cons}
use Rattle.std.proofs.lemmas.List.{map-append, length-map, set_at, get_or_at}
use Rattle.std.proofs.Math.Nat.{zero-add}
use Rattle.std.proofs.Math.Seq.{drop-length, append_snoc}
use Rattle.order.specs.Order.{span, upto}
use Rattle.order.specs.KeepLaws.{span-add, length-span}

-- of the list d the first n numbers are set: f of their index
pub record Setting (f : ℕ → ℕ) (d l : List ℕ) (n : ℕ) : Type 0 where
  pub is : l ≡ map f (upto n) ++ drop n d
  pub long : length l ≡ length d
  pub within : n ≤ length d

pub set-begins : (f : ℕ → ℕ) (d : List ℕ) → Setting f d d 0
unfolding span
set-begins f d = record { is = refl; long = refl; within = omega arith }

module _ {f : ℕ → ℕ} {d l : List ℕ} {n : ℕ} (k : Setting f d l n) where
  shown : length (map f (upto n)) ≡ n
  shown = length-map (upto n) f ∙ length-span 0 n

  more : map f (upto (n + 1)) ≡ map f (upto n) ++ (f n ∷ [])
  unfolding span
  more = rw (span-add 0 n 1, zero-add n) (map-append f (upto n) (n ∷ []))

  -- the next number is as it was
  pub set_next : n < length d → get_or l n 0 ≡ get_or d n 0
  set_next h = ap (λ (m : List ℕ). get_or m n 0) (k.is ∙ ap (λ (m : List ℕ). map f (upto n) ++ m) (drop-cons d n 0 h)) ∙ get_or_at (map f (upto n)) (get_or d n 0) (drop (suc n) d) 0 n shown

  pub set-turns : n < length d → (v : ℕ) → v ≡ f n → Setting f d (set l n v) (n + 1)
  set-turns h v e = record {
    is = ap₂ (λ (m : List ℕ) (x : ℕ). set m n x) k.is e ∙ rw (drop-cons d n 0 h, more, ← add-one n) (set_at (map f (upto n)) (get_or d n 0) (drop (n + 1) d) (f n) n shown ∙ sym (append_snoc (map f (upto n)) (f n) (drop (n + 1) d)));
    long = length-set l n v ∙ k.long;
    within = omega arith;
  }

  pub set-ends : length d ≤ n → l ≡ map f (upto (length d))
  set-ends h = let e : n ≡ length d = omega (arith, k.within) in k.is ∙ rw e (ap (λ (m : List ℕ). map f (upto (length d)) ++ m) (drop-length d) ∙ append-nil (map f (upto (length d))))

-- each number turned into g of it
pub map_each : (g : ℕ → ℕ) (d : List ℕ) → map (λ (i : ℕ). g (get_or d i 0)) (upto (length d)) ≡ map g d
unfolding span
map_each g d = go g d 0 d (λ i. ap (λ (n : ℕ). get_or d n 0) (zero-add i))
  where
    go : (g : ℕ → ℕ) (d : List ℕ) (lo : ℕ) (l : List ℕ) → ((i : ℕ) → get_or d (lo + i) 0 ≡ get_or l i 0) → map (λ (i : ℕ). g (get_or d i 0)) (span lo (length l)) ≡ map g l
    go g d lo [] h = refl
    go g d lo (x ∷ l) h = ap₂ (λ (y : ℕ) (m : List ℕ). y ∷ m) (ap g (ap (λ (n : ℕ). get_or d n 0) (sym (add-zero lo)) ∙ h 0)) (go g d (suc lo) l (λ i. let e : suc lo + i ≡ lo + suc i = omega arith in ap (λ (n : ℕ). get_or d n 0) e ∙ h (suc i)))
