-- Laws of tests on numbers: one of two ways, and what a passed or failed test says.
use Rattle.std.specs.Prelude.{ℕ, ◌<◌, ◌≤◌, ◌≡◌, refl, ◌⊎◌, Bool, true, false, ◌&&◌, ltb}
use Rattle.std.proofs.Common.{sym, inl, inr, ⊎_elim, arith, ltb-true, ltb-false}

pub lt-or-le : (a b : ℕ) → (a < b) ⊎ (b ≤ a)
lt-or-le a b = go (ltb a b) refl
  where
    go : (t : Bool) → ltb a b ≡ t → (a < b) ⊎ (b ≤ a)
    go true e = inl (ltb-true a b e)
    go false e = inr (ltb-false a b e)

pub lt-or-eq-or-gt : (a b : ℕ) → (a < b) ⊎ ((a ≡ b) ⊎ (b < a))
lt-or-eq-or-gt a b = ⊎_elim (λ (h : a < b). inl h) (λ (h : b ≤ a). inr (⊎_elim (λ (g : b < a). inr g) (λ (g : a ≤ b). inl (omega arith)) (lt-or-le b a))) (lt-or-le a b)

pub same-or-other : (a b : ℕ) → (a ≡ b) ⊎ (a ≡ b → ⊥)
same-or-other a b = ⊎_elim (λ (h : a < b). inr (λ (e : a ≡ b). omega arith)) (⊎_elim (λ (e : a ≡ b). inl e) (λ (h : b < a). inr (λ (e : a ≡ b). omega arith))) (lt-or-eq-or-gt a b)

pub true-or-false : (t : Bool) → (t ≡ true) ⊎ (t ≡ false)
true-or-false true = inl refl
true-or-false false = inr refl

pub true-not-false : (t : Bool) → t ≡ true → t ≡ false → ⊥
true-not-false t p q = let z : ◌≡◌ {A = Bool} true false = cc in let w : ◌≡◌ {A = ℕ} 0 1 = cc in omega arith

-- both of two tests passed
pub and→ : (a b : Bool) → (a && b) ≡ true → (a ≡ true) × (b ≡ true)
and→ true b e = (refl, e)
and→ false b e = absurd (true-not-false false e refl)

-- a test that cannot pass fails
pub fails : (t : Bool) → (t ≡ true → ⊥) → t ≡ false
fails t f = ⊎_elim (λ (e : t ≡ true). absurd (f e)) (λ (e : t ≡ false). e) (true-or-false t)

-- two tests that pass together are one
pub both_ways : (a b : Bool) → (a ≡ true → b ≡ true) → (b ≡ true → a ≡ true) → a ≡ b
both_ways true b f g = sym (f refl)
both_ways false b f g = sym (fails b (λ (e : b ≡ true). true-not-false false (g e) refl))
