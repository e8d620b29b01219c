-- What the functions that write a row make of the rosters, over plain lists.
use Rattle.std.specs.Prelude.{ℕ, ◌+◌, ◌*◌, List, [], ◌∷◌, set, replicate}
use Rattle.std.proofs.lemmas.List.Edits.{sets}

-- zone z's row of so many bytes set to 0
abbrev pub row_cleared : List ℕ → ℕ → ℕ → List ℕ
row_cleared rosters z many = sets rosters (z * many) (replicate many 0)

-- car c's byte set to v in the row of each zone of a list, rows of so many bytes
unfoldable pub stamped : List ℕ → List ℕ → ℕ → ℕ → ℕ → List ℕ
stamped rosters [] many c v = rosters
stamped rosters (z ∷ zs) many c v = stamped (set rosters (z * many + c) v) zs many c v
