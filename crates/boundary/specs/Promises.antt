-- What the exported calls promise: the call beneath keeps its promise, and its answer is told.
use Rattle.std.specs.Prelude.{ℕ, ◌+◌, ◌*◌, ◌≡◌, List, [], ◌∷◌, Float, get_or, drop}
use Rattle.std.proofs.lemmas.List.Edits.{sets}
use denote.Triple.Both.{Both}
use Rattle.std.specs.declared.result.Result.{Result as Told}
use Rattle.std.specs.declared.result.Result.TheVariants.{Ok, Err}
use Rattle.squares.specs.declared.refusal.Refusal.{Refusal}
use Rattle.squares.specs.declared.shape.Shape.{Shape}
use Rattle.squares.specs.declared.shape.Rect.{Rect}
use Rattle.squares.specs.Shape.{allowed}
use Rattle.squares.specs.Squares.{squares}
use Rattle.squares.specs.Refusals.{Bar, first, number_of, fields, Result, result}
use Rattle.position.specs.declared.Position.{Position}
use Rattle.model.specs.Answers.{where_is}
use Rattle.model.specs.Model.{Event, roomy}
use Rattle.tables.specs.Tables.{Tables, tally}
use Rattle.promises.specs.Promise.{Keeps}
use Rattle.promises.specs.Events.{where_told}
use Rattle.values.specs.Promises.{said, Tells, Points}
use Rattle.pieces.specs.declared.pieces.Filled.{Filled as Moved}
use Rattle.pieces.specs.Pieces.{Filled, Fills}

-- ---- arguments put together

abbrev pub rect : ℕ → ℕ → ℕ → ℕ → Rect
rect a b w h = record { a = a; b = b; w = w; h = h }

abbrev pub point : Float → Float → Position
point x y = record { x = x; y = y }

-- ---- calls on the tables

-- t has the tables at entry and at exit, v and v' are the array, r is what is returned;
-- there is an answer with which the call keeps its promise, and it is told with so many values
pub record Relays {A : Type 0} (many : ℕ) (t : Both Tables Tables) (event : A → Event) (v v' : List ℕ) (r : ℕ) : Type 0 where
  pub answer : A
  pub kept : Keeps t (event answer)
  pub tells : Tells (said many (event answer).result.answer) v v' r

-- where a car is: the array is of floats
pub record Pointed (t : Both Tables Tables) (car : ℕ) (v v' : List Float) (r : ℕ) : Type 0 where
  pub answer : Told Position Refusal
  pub kept : Keeps t (where_told car answer)
  pub tells : Points (where_is answer) v v' r

-- ---- calls without tables

-- the buffers at exit are those of the one result that the call gives, and its answer is told
pub record Gives (many : ℕ) (given : Result (List ℕ)) (buffers : List (List ℕ)) (v v' : List ℕ) (r : ℕ) : Type 0 where
  pub left : buffers ≡ given.buffers
  pub tells : Tells (fields many given.answer) v v' r

-- the lengths of the tables, in their order
abbrev pub lengths : Shape → ℕ → ℕ → ℕ → List ℕ
lengths s Z C E = 6 ∷ 4 * Z ∷ C ∷ 2 * C ∷ (squares s + 1) ∷ E ∷ Z * C ∷ Z * tally ∷ []

abbrev pub lengths_checks : Shape → ℕ → ℕ → ℕ → List Bar
lengths_checks s Z C E = (allowed s, 1) ∷ (roomy Z C E, 2) ∷ []

unfoldable pub lengths_gives : Shape → ℕ → ℕ → ℕ → Result (List ℕ)
lengths_gives s Z C E = result (first (lengths_checks s Z C E)) [] (lengths s Z C E)

-- ---- the log

-- the first of what is said is returned, the rest goes into the array from its front as far as it goes
pub record Said (says v v' : List ℕ) (r : ℕ) : Type 0 where
  pub number : r ≡ get_or says 0 0
  pub values : v' ≡ sets v 0 (drop 1 says)

-- what is said of a call: the number of its refusal, or 0 and how much was read and written
abbrev pub filling_says : Told Moved Refusal → List ℕ
filling_says (Err r) = number_of r ∷ 0 ∷ 0 ∷ []
filling_says (Ok moved) = 0 ∷ moved.read ∷ moved.wrote ∷ []

-- the call beneath keeps its promise, and what it answers is told, no number cut
pub record Logs (f : Filled) (t : Both Tables Tables) (piece b b' o o' v v' : List ℕ) (r : ℕ) : Type 0 where
  pub answer : Told Moved Refusal
  pub kept : Fills f t piece b b' o o' answer
  pub tells : Said (filling_says answer) v v' r
