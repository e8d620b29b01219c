-- Teams: which of them leads, by how many cars each has.
use Rattle.std.specs.Prelude.{ℕ, ◌+◌, Bool, not, ◌&&◌, List, [], ◌∷◌, ◌++◌, map, leb, eqb, length, get_or}
use Rattle.order.specs.Order.{upto, span, keep}

-- teams are numbered from 0, the spectators, to 7
abbrev pub last_team : ℕ
last_team = 7

-- those that can lead: 1 to 7
abbrev pub rivals : List ℕ
rivals = span 1 last_team

-- with n g cars for each team g: no other has as many as g, or more
unfoldable pub leads : (ℕ → ℕ) → ℕ → Bool
leads n g = eqb (length (keep (λ (h : ℕ). not (eqb h g) && leb (n g) (n h)) rivals)) 0

-- the team that leads, or 0
unfoldable pub lead : (ℕ → ℕ) → ℕ
lead n = get_or (keep (leads n) rivals) 0 0

-- how many cars each team has, from team 0 on, and the team that leads
abbrev pub ranked : (ℕ → ℕ) → List ℕ
ranked n = map n (upto (last_team + 1)) ++ (lead n ∷ [])
