-- What the calls without tables promise. For each: what it asks in order, document 01's number and values of each answer, and the one result that it gives.
use Rattle.std.specs.Prelude.{ℕ, List, [], ◌∷◌, leb, length}
use Rattle.std.specs.declared.result.Result.{Result as Told}
use Rattle.std.specs.declared.result.Result.TheVariants.{Ok, Err}
use Rattle.squares.specs.declared.refusal.Refusal.{Refusal}
use Rattle.squares.specs.declared.shape.Square.{Square}
use Rattle.squares.specs.declared.shape.Shape.{Shape}
use Rattle.squares.specs.declared.shape.Rect.{Rect}
use Rattle.squares.specs.Shape.{allowed, fits}
use Rattle.squares.specs.Squares.{is_corner, is_number, number, side_on, corner_x, corner_y}
use Rattle.cuts.specs.Cut.{cut}
use Rattle.squares.specs.Refusals.{Bar, first, number_of, Answer, refuse, accept, Result, result}

-- buffers at exit and an answer, as a result
abbrev pub makes : {A : Type 0} → List (List ℕ) → Answer A → Result A
makes buffers answer = record { buffers = buffers; answer = answer }

-- ---- number of a square

abbrev pub number_checks : Shape → ℕ → ℕ → ℕ → List Bar
number_checks s i x y = (allowed s, 1) ∷ (is_corner s i x y, 13) ∷ []

abbrev pub number_is : Told ℕ Refusal → Answer (List ℕ)
number_is (Err r) = refuse (number_of r)
number_is (Ok n) = accept (n ∷ [])

unfoldable pub number_gives : Shape → ℕ → ℕ → ℕ → Result (List ℕ)
number_gives s i x y = result (first (number_checks s i x y)) [] (number s i x y ∷ [])

-- ---- square of a number

abbrev pub square_checks : Shape → ℕ → ℕ → List Bar
square_checks s i n = (allowed s, 1) ∷ (is_number s i n, 13) ∷ []

abbrev pub square_is : Told Square Refusal → Answer (List ℕ)
square_is (Err r) = refuse (number_of r)
square_is (Ok q) = accept (q.x ∷ q.y ∷ q.side ∷ [])

unfoldable pub square_gives : Shape → ℕ → ℕ → Result (List ℕ)
square_gives s i n = result (first (square_checks s i n)) [] (corner_x s i n ∷ corner_y s i n ∷ side_on s i ∷ [])

-- ---- cut of a rectangle, into a buffer that is b at entry

abbrev pub cut_checks : Shape → Rect → List ℕ → List Bar
cut_checks s r b = (allowed s, 1) ∷ (fits s r, 9) ∷ (leb (length (cut s r)) (length b), 11) ∷ []

abbrev pub cut_is : Told ℕ Refusal → Answer (List ℕ)
cut_is (Err r) = refuse (number_of r)
cut_is (Ok n) = accept (n ∷ [])

unfoldable pub cut_gives : Shape → Rect → List ℕ → Result (List ℕ)
cut_gives s r b = result (first (cut_checks s r b)) ((cut s r, b) ∷ []) (length (cut s r) ∷ [])
