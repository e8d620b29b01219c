-- What is told to a caller in another language: one number returned, and values in a lent array.
use Rattle.std.specs.Prelude.{ℕ, ◌≡◌, cond, List, [], ◌∷◌, map, leb, Float, get_or, drop}
use Rattle.std.specs.Float.{binary32}
use Rattle.std.specs.Float.Ieee.{of_bits}
use Rattle.std.proofs.lemmas.List.Edits.{sets}
use Rattle.squares.specs.Refusals.{Answer, refuse, accept, fields}
use Rattle.model.specs.Answers.{Values, numbers, spot}

-- ---- numbers

-- the numbers of what is given; a position is none
abbrev pub numbers_of : Values → List ℕ
numbers_of (numbers values) = values
numbers_of (spot p) = []

-- document 01's number and values of an answer
abbrev pub said : ℕ → Answer Values → List ℕ
said many (refuse n) = fields many (refuse n)
said many (accept gives) = fields many (accept (numbers_of gives))

-- a number in 32 bits: the largest where it is too large, which no answer is where its call's outcome is set (boundary's ExactLaws)
abbrev pub capped : ℕ → ℕ
capped n = cond (leb n 4294967295) n 4294967295

-- the first of what is said is returned, the rest goes into the array from its front as far as it goes
pub record Tells (says v v' : List ℕ) (r : ℕ) : Type 0 where
  pub number : r ≡ get_or says 0 0
  pub values : v' ≡ sets v 0 (map capped (drop 1 says))

-- ---- a position

abbrev pub zero32 : Float
zero32 = of_bits binary32 0

-- the coordinates of an answer; 0 and 0 where it has none
abbrev pub coordinates : Answer Values → List Float
coordinates (refuse n) = zero32 ∷ zero32 ∷ []
coordinates (accept (numbers values)) = zero32 ∷ zero32 ∷ []
coordinates (accept (spot p)) = p.x ∷ p.y ∷ []

-- the number is returned, the coordinates go into the array
pub record Points (answer : Answer Values) (v v' : List Float) (r : ℕ) : Type 0 where
  pub number : r ≡ get_or (said 0 answer) 0 0
  pub position : v' ≡ sets v 0 (coordinates answer)
