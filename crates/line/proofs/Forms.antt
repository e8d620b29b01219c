-- A letter's bases as the first of five, which the laws of a record's fields speak of.
use Rattle.std.proofs.Common.{ℕ, ◌-◌, ◌<◌, ◌≤◌, ◌≡◌, Bool, true, false, cond, List, ◌++◌, eqb, length, get_or, replicate, refl, ◌∙◌, sym, ap, arith, length-append, take_at}
use Rattle.std.proofs.lemmas.List.{length-replicate}
use Rattle.std.proofs.Math.ListN.{get_or-append}
use Rattle.line.specs.Grammar.{form}
use Rattle.line.specs.Leaves.{Formed}

few : (t : Bool) (a b : List ℕ) → length a ≤ 5 → length b ≤ 5 → length (cond t a b) ≤ 5
few true a b h k = h
few false a b h k = k

form-few : (letter : ℕ) → length (form letter) ≤ 5
unfolding form
form-few letter =
    few (eqb letter 77) _ _ (omega arith)
    (few (eqb letter 65) _ _ (omega arith)
    (few (eqb letter 68) _ _ (omega arith)
    (few (eqb letter 80) _ _ (omega arith)
    (few (eqb letter 76) _ _ (omega arith)
    (few (eqb letter 83) _ _ (omega arith)
    (few (eqb letter 82) _ _ (omega arith) (omega arith)))))))

-- five bases, the first of which are the letter's
abbrev pub wide : ℕ → List ℕ
wide letter = form letter ++ replicate (5 - length (form letter)) 0

pub wide-formed : (letter : ℕ) → Formed letter (length (form letter)) (wide letter)
wide-formed letter = record {
  is = take_at (form letter) (replicate (5 - length (form letter)) 0) (length (form letter)) refl;
  most = form-few letter;
  room = omega (arith, form-few letter, length-append (form letter) (replicate (5 - length (form letter)) 0), length-replicate {A = ℕ} (5 - length (form letter)) 0);
}

pub wide-at : (letter i : ℕ) {bases : List ℕ} → bases ≡ form letter → i < length bases → get_or bases i 0 ≡ get_or (wide letter) i 0
wide-at letter i e h = ap (λ (l : List ℕ). get_or l i 0) e ∙ sym (get_or-append (form letter) (replicate (5 - length (form letter)) 0) 0 i (rw e at h))
