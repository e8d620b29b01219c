-- A list taken apart at a mark.
use Rattle.std.specs.Prelude.{ℕ, cond, List, [], ◌∷◌, eqb}

-- x in front of the first part
abbrev pub grow : ℕ → List (List ℕ) → List (List ℕ)
grow x [] = (x ∷ []) ∷ []
grow x (p ∷ ps) = (x ∷ p) ∷ ps

-- the parts of a list between its marks: one more than there are marks
unfoldable pub split : ℕ → List ℕ → List (List ℕ)
split mark [] = [] ∷ []
split mark (x ∷ l) = cond (eqb x mark) ([] ∷ split mark l) (grow x (split mark l))
