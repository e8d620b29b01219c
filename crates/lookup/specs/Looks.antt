-- What is gathered from the squares of a cell, level by level from the unit cell up, and which has a zone first, on any tables.
use Rattle.std.specs.Prelude.{ℕ, zero, suc, ◌+◌, ◌-◌, ◌*◌, ◌≤◌, ◌≡◌, Bool, true, false, List, [], ◌∷◌, Float, length}
use Rattle.order.specs.Sums.{bit}
use Rattle.order.specs.BufferLaws.{Front}
use Rattle.squares.specs.declared.shape.Shape.{Shape}
use Rattle.squares.specs.Squares.{number}
use Rattle.squares.specs.DifferLaws.{Apart}
use Rattle.position.specs.Answer.{on_town, column_of, row_of}
use Rattle.model.specs.declared.answers.Scoring.{Scoring}
use Rattle.model.specs.Answers.{numbers, scored}
use Rattle.model.specs.Model.{climb}
use Rattle.model.specs.ScoringLaws.{some_to}
use Rattle.tables.specs.Tables.{placed_in, spot_in}
use Rattle.tables.specs.Derived.{place}
use Rattle.tables.specs.Runs.{listed_at, run, gathered, only, any, outside}
use Rattle.model.specs.declared.answers.Looked.{Looked}
use Rattle.model.specs.declared.answers.Crossed.{Crossed}

-- the zones with f on the lists of the m smallest squares of a cell, in a buffer with so much room
unfoldable pub looked_into : (ℕ → Bool) → Shape → ℕ → ℕ → List ℕ → List ℕ → ℕ → ℕ → List ℕ
looked_into f s x y starts entries room zero = []
looked_into f s x y starts entries room (suc m) = gathered room (only f (run starts entries (place s (s.k - m) (number s (s.k - m) x y)))) (looked_into f s x y starts entries room m)

pub record Looks (s : Shape) (x y : ℕ) (starts entries b b' : List ℕ) (r : Looked) : Type 0 where
  pub squares : r.squares ≡ s.k + 1
  pub found : Front b b' r.zones (looked_into any s x y starts entries (length b) (s.k + 1))

-- the list of a cell's square on level i is not empty; the answer: whether that is so of one level, and how many are looked at
abbrev pub listed_on : Shape → ℕ → ℕ → List ℕ → ℕ → Bool
listed_on s x y starts i = listed_at starts (place s i (number s i x y))

abbrev pub Climbs : Shape → ℕ → ℕ → List ℕ → Scoring → Type 0
Climbs s x y starts r = scored r ≡ numbers (bit (some_to (listed_on s x y starts) s.k) ∷ climb (listed_on s x y starts) s.k ∷ [])

-- from the cell (x, y) to (x', y'): the zones of the new squares that do not hold the old cell, those of the old squares
-- that do not hold the new one
pub record Crosses (s : Shape) (zones starts entries : List ℕ) (x y x' y' : ℕ) (e e' l l' : List ℕ) (r : Crossed) : Type 0 where
  pub levels : ℕ
  pub apart : Apart s x y x' y' levels
  pub squares : r.squares ≡ 2 * levels
  pub entered : Front e e' r.entered (looked_into (outside zones x y) s x' y' starts entries (length e) levels)
  pub left : Front l l' r.left (looked_into (outside zones x' y') s x y starts entries (length l) levels)

-- to the cell (x, y) from off the map
pub record Enters (s : Shape) (x y : ℕ) (starts entries e e' : List ℕ) (r : Crossed) : Type 0 where
  pub squares : r.squares ≡ s.k + 1
  pub entered : Front e e' r.entered (looked_into any s x y starts entries (length e) (s.k + 1))
  pub left : r.left ≡ 0

-- to the cell (x, y) from where car c is
pub record Sees (s : Shape) (zones cars : List ℕ) (spots : List Float) (starts entries : List ℕ) (c x y : ℕ) (e e' l l' : List ℕ) (r : Crossed) : Type 0 where
  pub new : placed_in cars c ≡ false → Enters s x y starts entries e e' r × (l' ≡ l)
  pub moved : placed_in cars c ≡ true → on_town s (spot_in spots c) ≡ true → Crosses s zones starts entries (column_of s (spot_in spots c)) (row_of s (spot_in spots c)) x y e e' l l' r
  pub came : r.entered ≤ length e'
  pub gone : r.left ≤ length l'
