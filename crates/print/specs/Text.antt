-- The text of an answer.
use Rattle.std.specs.Prelude.{ℕ, zero, suc, ◌+◌, ◌/◌, ◌%◌, ◌≤◌, cond, List, [], ◌∷◌, ◌++◌, ltb}
use Rattle.order.specs.Order.{Wrote}

-- the last k decimal digits of a number, without leading zeros
unfoldable pub digits : ℕ → ℕ → List ℕ
digits zero n = []
digits (suc k) n = cond (ltb n 10) ((48 + n) ∷ []) (digits k (n / 10) ++ ((48 + n % 10) ∷ []))

-- a number below 2^32 has at most ten
abbrev pub text : ℕ → List ℕ
text n = digits 10 n

-- numbers, each after a comma
unfoldable pub followed : List ℕ → List ℕ
followed [] = []
followed (n ∷ l) = 44 ∷ (text n ++ followed l)

-- a list has commas, an empty one is -
unfoldable pub listed : List ℕ → List ℕ
listed [] = 45 ∷ []
listed (n ∷ l) = text n ++ followed l

-- a field of an answer
pub data Part : Type 0 where
  number : ℕ → Part
  members : List ℕ → Part

abbrev pub part_text : Part → List ℕ
part_text (number n) = text n
part_text (members l) = listed l

-- fields, each after a tab
abbrev pub parts : List Part → List ℕ
parts [] = []
parts (p ∷ ps) = 9 ∷ (part_text p ++ parts ps)

-- a line: a letter, its fields, a feed
abbrev pub answer : ℕ → List Part → List ℕ
answer letter ps = letter ∷ (parts ps ++ (10 ∷ []))

-- an answer at the start of a buffer, as far as the buffer goes. r is its length: no answer is longer than 768 bytes
pub record Answers (b b' : List ℕ) (r : ℕ) (t : List ℕ) : Type 0 where
  pub wrote : Wrote b b' 0 r t
  pub most : r ≤ 768
