-- Two outcomes that a promise allows for the same arguments are the same.
use Rattle.std.specs.Prelude.{ℕ, ◌≡◌, refl, List, [], ◌∷◌, get_or}
use Rattle.std.proofs.Common.{ap, sym, ◌∙◌}
use Rattle.squares.specs.declared.shape.Shape.{Shape}
use Rattle.squares.specs.declared.shape.Rect.{Rect}
use Rattle.std.specs.declared.result.Result.{Result as Told}
use Rattle.std.specs.declared.result.Result.TheVariants.{Ok, Err}
use Rattle.squares.specs.declared.refusal.Refusal.{Refusal}
use Rattle.squares.specs.declared.shape.Square.{Square}
use Rattle.squares.specs.RefusalLaws.{refusal_at, at-number}
use Rattle.squares.specs.Refusals.{Answer, refuse, accept, Result}
use Rattle.grid.specs.Promises.{makes, number_is, number_gives, square_is, square_gives, cut_is, cut_gives}

-- each answer back from its number and values

abbrev number_back : Answer (List ℕ) → Told ℕ Refusal
number_back (refuse n) = Err (refusal_at n)
number_back (accept l) = Ok (get_or l 0 0)

number-back : (a : Told ℕ Refusal) → number_back (number_is a) ≡ a
number-back (Err n) = ap Err (at-number n)
number-back (Ok n) = refl

abbrev square_back : Answer (List ℕ) → Told Square Refusal
square_back (refuse n) = Err (refusal_at n)
square_back (accept l) = Ok (record { x = get_or l 0 0; y = get_or l 1 0; side = get_or l 2 0 })

square-back : (a : Told Square Refusal) → square_back (square_is a) ≡ a
square-back (Err n) = ap Err (at-number n)
square-back (Ok q) = refl

abbrev cut_back : Answer (List ℕ) → Told ℕ Refusal
cut_back (refuse n) = Err (refusal_at n)
cut_back (accept l) = Ok (get_or l 0 0)

cut-back : (a : Told ℕ Refusal) → cut_back (cut_is a) ≡ a
cut-back (Err n) = ap Err (at-number n)
cut-back (Ok n) = refl

-- ---- the theorems

pub number-unique : (s : Shape) (i x y : ℕ) {a b : Told ℕ Refusal} → makes [] (number_is a) ≡ number_gives s i x y → makes [] (number_is b) ≡ number_gives s i x y → a ≡ b
number-unique s i x y {a} {b} p q = sym (number-back a) ∙ ap (λ (o : Result (List ℕ)). number_back o.answer) (p ∙ sym q) ∙ number-back b

pub square-unique : (s : Shape) (i n : ℕ) {a b : Told Square Refusal} → makes [] (square_is a) ≡ square_gives s i n → makes [] (square_is b) ≡ square_gives s i n → a ≡ b
square-unique s i n {a} {b} p q = sym (square-back a) ∙ ap (λ (o : Result (List ℕ)). square_back o.answer) (p ∙ sym q) ∙ square-back b

pub cut-unique : (s : Shape) (r : Rect) (b : List ℕ) {c d : List ℕ} {x y : Told ℕ Refusal} → makes (c ∷ []) (cut_is x) ≡ cut_gives s r b → makes (d ∷ []) (cut_is y) ≡ cut_gives s r b → (x ≡ y) × (c ≡ d)
cut-unique s r b {x = x} {y = y} p q = (sym (cut-back x) ∙ ap (λ (o : Result (List ℕ)). cut_back o.answer) (p ∙ sym q) ∙ cut-back y, ap (λ (o : Result (List ℕ)). get_or o.buffers 0 []) (p ∙ sym q))
