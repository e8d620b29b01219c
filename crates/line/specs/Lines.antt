-- The lines of an input, and how they come out of it byte by byte.
use Rattle.std.specs.Prelude.{ℕ, cond, List, [], ◌∷◌, ◌++◌, eqb, take}
use Rattle.line.specs.Split.{split}

-- a last part is a line where it is not empty
abbrev pub last : List ℕ → List (List ℕ)
last [] = []
last (x ∷ l) = (x ∷ l) ∷ []

abbrev pub trimmed : List (List ℕ) → List (List ℕ)
trimmed [] = []
trimmed (p ∷ []) = last p
trimmed (p ∷ q ∷ ps) = p ∷ trimmed (q ∷ ps)

-- lines end with a feed; the last may lack it, and nothing after the last feed is no line
abbrev pub lines : List ℕ → List (List ℕ)
lines input = trimmed (split 10 input)

-- ---- piece by piece

-- the lines that were ended, and the bytes of the one that is not
pub record Fed : Type 0 where
  pub ended : List (List ℕ)
  pub held : List ℕ

abbrev pub before : List (List ℕ) → Fed → Fed
before ls f = record { ended = ls ++ f.ended; held = f.held }

-- bytes fed to what is held. Of a line its first 81 bytes are held: a line of more than 80 means nothing
unfoldable pub feed : List ℕ → List ℕ → Fed
feed h [] = record { ended = []; held = h }
feed h (b ∷ l) = cond (eqb b 10) (before (h ∷ []) (feed [] l)) (feed (take 81 (h ++ (b ∷ []))) l)

-- all lines, where the input ends here
abbrev pub ending : Fed → List (List ℕ)
ending f = f.ended ++ last f.held
