-- Laws of lists that have a number, and of what one list has and another has not.
use Rattle.std.specs.Prelude.{ℕ, ◌≡◌, refl, true, false, not}
use Rattle.std.proofs.Common.{sym, ⊎_elim, eq-eqb, ne_eqb}
use mathlib.Core.List.Memᴰ
use mathlib.Core.List.{List, [], ◌∷◌, Memᴰ}
use Rattle.std.proofs.lemmas.Bool.{not-true}
use Rattle.order.specs.Order.{has, lacks}
use Rattle.order.specs.TestLaws.{true-not-false, same-or-other}
use Rattle.order.specs.KeepLaws.{keep→, keep-none}

pub has→ : (l : List ℕ) (x : ℕ) → has l x ≡ true → Memᴰ x l
unfolding has
has→ [] x e = absurd (true-not-false false e refl)
has→ (y ∷ l) x e = ⊎_elim
    (λ (q : y ≡ x). Memᴰ.head (sym q))
    (λ (q : y ≡ x → ⊥). Memᴰ.tail (has→ l x (rw (ne_eqb y x q) at e)))
    (same-or-other y x)

pub →has : (l : List ℕ) (x : ℕ) → Memᴰ x l → has l x ≡ true
unfolding has
→has [] x m = absurd (Memᴰ.not-nil m)
→has (y ∷ l) x m = ⊎_elim
    (λ (q : y ≡ x). rw (eq-eqb y x q))
    (λ (q : y ≡ x → ⊥). rw (ne_eqb y x q) (→has l x (⊎_elim (λ (e : x ≡ y). absurd (q (sym e))) (λ (n : Memᴰ x l). n) (Memᴰ.cases_cons m))))
    (same-or-other y x)

-- what a list lacks of another is in that one, and not in it
pub lacks→ : (b a : List ℕ) (x : ℕ) → Memᴰ x (lacks b a) → Memᴰ x a × (Memᴰ x b → ⊥)
lacks→ b a x m =
    let k = keep→ (λ (y : ℕ). not (has b y)) a x m in
    (k.0, λ n. true-not-false (has b x) (→has b x n) (not-true (has b x) k.1))

-- a list lacks nothing of itself
pub lacks-none : (l : List ℕ) → lacks l l ≡ []
lacks-none l = keep-none (λ (x : ℕ). not (has l x)) l (λ x m. rw (→has l x m))
