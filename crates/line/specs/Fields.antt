-- The fields of a line from a place on, and a reader that hands them out.
use Rattle.std.specs.Prelude.{ℕ, zero, suc, ◌+◌, ◌≡◌, cond, List, [], ◌∷◌, ltb, eqb, length, drop}
use Rattle.line.specs.declared.reader.Reader.{Reader}
use Rattle.line.specs.Split.{split}

-- the first part of a list, up to its first mark
unfoldable pub front : ℕ → List ℕ → List ℕ
front mark [] = []
front mark (x ∷ l) = cond (eqb x mark) [] (x ∷ front mark l)

-- where the field ends that starts at a place; past the end there is none, and the end is before the place
unfoldable pub field_end : List ℕ → ℕ → ℕ
field_end l at = cond (ltb (length l) at) (length l) (at + length (front 9 (drop at l)))

-- the ends of n fields, each of which starts after the one before it
unfoldable pub field_ends : ℕ → List ℕ → ℕ → List ℕ
field_ends zero l at = []
field_ends (suc n) l at = field_end l at ∷ field_ends n l (field_end l at + 1)

-- the reader r hands out the field that ends at `end`, and is then r'
pub record Moves (r r' : Reader) (end : ℕ) : Type 0 where
  pub is : end ≡ field_end r.line.now r.at
  pub on : r' ≡ record { line = r.line; at = end + 1 }

unfoldable pub rest : List ℕ → ℕ → List (List ℕ)
rest l at = cond (ltb (length l) at) [] (split 9 (drop at l))
