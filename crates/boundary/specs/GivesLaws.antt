-- How a call without tables keeps its promise: what the call beneath makes is its one result, and that is told.
use Rattle.std.specs.Prelude.{ℕ, ◌≡◌, refl, ◌↔◌, List, [], ◌∷◌, length}
use Rattle.std.proofs.Common.{subst}
use Rattle.squares.specs.declared.shape.Shape.{Shape}
use Rattle.squares.specs.Refusals.{Answer, fields, Result, result}
use Rattle.squares.specs.RefusalLaws.{Stops, number_at, stops}
use Rattle.grid.specs.Promises.{makes}
use Rattle.tables.specs.Tables.{Tables}
use Rattle.tables.specs.Sizes.{Long}
use Rattle.values.specs.Promises.{Tells}
use Rattle.boundary.specs.Promises.{Gives, lengths, lengths_checks, lengths_gives}

pub gives : {many : ℕ} {given : Result (List ℕ)} {buffers : List (List ℕ)} {answer : Answer (List ℕ)} {v v' : List ℕ} {r : ℕ} → makes buffers answer ≡ given → Tells (fields many answer) v v' r → Gives many given buffers v v' r
gives {many} {buffers = buffers} {v = v} {v'} {r} e h = subst (λ (o : Result (List ℕ)). Gives many o buffers v v' r) e (record { left = refl; tells = h })

-- ---- the lengths

-- by the test that stops the call
pub lengths-stops : (s : Shape) (Z C E j : ℕ) → Stops j (lengths_checks s Z C E) → result (number_at j (lengths_checks s Z C E)) [] (lengths s Z C E) ≡ lengths_gives s Z C E
unfolding lengths_gives
lengths-stops s Z C E j h = rw (stops j (lengths_checks s Z C E) h)

abbrev pub lengths_of : Tables → List ℕ
lengths_of t = length t.records.head ∷ length t.records.zones ∷ length t.records.cars ∷ length t.records.spots ∷ length t.derived.starts ∷ length t.derived.entries ∷ length t.derived.rosters ∷ length t.derived.tallies ∷ []

-- tables pass the test of their lengths just where they have these
pub long-lengths : (s : Shape) (Z C E : ℕ) (t : Tables) → Long s Z C E t ↔ (lengths_of t ≡ lengths s Z C E)
long-lengths s Z C E t = (λ (h : Long s Z C E t). cc, λ (e : lengths_of t ≡ lengths s Z C E). record { head = cc; zones = cc; cars = cc; spots = cc; starts = cc; entries = cc; rosters = cc; tallies = cc })
