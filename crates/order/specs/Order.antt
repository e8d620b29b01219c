-- Lists in order: the numbers below n, those of a list with a property, an answer at the front of a buffer.
use Rattle.std.specs.Prelude.{ℕ, zero, suc, ◌+◌, ◌≡◌, Bool, true, false, cond, not, List, [], ◌∷◌, ◌++◌, eqb, length, drop}
use Rattle.std.proofs.lemmas.List.Edits.{sets}

-- the n numbers from lo on, lowest first
unfoldable pub span : ℕ → ℕ → List ℕ
span lo zero = []
span lo (suc n) = lo ∷ span (suc lo) n

-- the numbers below n, lowest first
abbrev pub upto : ℕ → List ℕ
upto n = span 0 n

-- those of a list that have p, in the list's order
unfoldable pub keep : (ℕ → Bool) → List ℕ → List ℕ
keep p [] = []
keep p (x ∷ xs) = let rest = keep p xs in cond (p x) (x ∷ rest) rest

-- a list has a number; the numbers of a list that another has not
unfoldable pub has : List ℕ → ℕ → Bool
has [] x = false
has (y ∷ l) x = cond (eqb y x) true (has l x)

abbrev pub lacks : List ℕ → List ℕ → List ℕ
lacks b a = keep (λ (x : ℕ). not (has b x)) a

-- a list written to the front of a buffer, the rest of the buffer kept
abbrev pub over : List ℕ → List ℕ → List ℕ
over l buffer = l ++ drop (length l) buffer

-- a list stored from place `at` on, as far as the buffer goes; the answer is the place after it
pub record Wrote (b b' : List ℕ) (at r : ℕ) (l : List ℕ) : Type 0 where
  pub stored : b' ≡ sets b at l
  pub next : r ≡ at + length l
