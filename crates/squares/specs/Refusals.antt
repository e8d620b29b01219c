-- Refusals and results as data: what a call asks, each test with the number that refuses it, and what it leaves and answers.
use Rattle.std.specs.Prelude.{ℕ, zero, suc, Bool, true, false, List, [], ◌∷◌, map, replicate}
use Rattle.std.specs.declared.result.Result.{Result as Told}
use Rattle.std.specs.declared.result.Result.TheVariants.{Ok, Err}
use Rattle.order.specs.Order.{over}
use Rattle.squares.specs.declared.refusal.Refusal.{Refusal}

-- what must hold, and the number of the refusal where it does not
abbrev pub Bar : Type 0
Bar = Bool × ℕ

-- n where the test fails, else what comes after it
abbrev pub unless : Bool → ℕ → ℕ → ℕ
unless true n rest = rest
unless false n rest = n

-- the number of the first test that fails, or 0
unfoldable pub first : List Bar → ℕ
first [] = 0
first (x ∷ l) = unless x.0 x.1 (first l)

-- document 01's number of a refusal
abbrev pub number_of : Refusal → ℕ
number_of Refusal.Shape = 1
number_of Refusal.Capacity = 2
number_of Refusal.Tables = 3
number_of Refusal.ZoneNumber = 4
number_of Refusal.CarNumber = 5
number_of Refusal.ZoneStands = 6
number_of Refusal.NoZone = 7
number_of Refusal.NoCar = 8
number_of Refusal.Rectangle = 9
number_of Refusal.OffMap = 10
number_of Refusal.Buffer = 11
number_of Refusal.Entries = 12
number_of Refusal.Square = 13
number_of Refusal.Record = 14
number_of Refusal.Team = 15

-- the number of what refuses, or 0
abbrev pub refused_by : {A : Type 0} → Told A Refusal → ℕ
refused_by (Ok a) = 0
refused_by (Err r) = number_of r

-- an answer: a refusal by its number, or what is given
pub data Answer (A : Type 0) : Type 0 where
  refuse : (n : ℕ) → Answer A
  accept : (gives : A) → Answer A

-- document 01's number and values: a refusal's number with every other field 0, or 0 and the values
abbrev pub fields : ℕ → Answer (List ℕ) → List ℕ
fields many (refuse n) = n ∷ replicate many 0
fields many (accept values) = 0 ∷ values

-- what a call leaves: its buffers at exit, and its answer
pub record Result (A : Type 0) : Type 0 where
  pub buffers : List (List ℕ)
  pub answer : Answer A

-- a list, and the buffer to whose front it is written
abbrev pub Write : Type 0
Write = List ℕ × List ℕ

-- refused by a number: nothing is written
abbrev pub refusing : {A : Type 0} → ℕ → List Write → Result A
refusing n writes = record { buffers = map (λ (w : Write). w.1) writes; answer = refuse n }

-- accepted: each list is written, the rest of its buffer is kept
abbrev pub giving : {A : Type 0} → List Write → A → Result A
giving writes gives = record { buffers = map (λ (w : Write). over w.0 w.1) writes; answer = accept gives }

abbrev pub result : {A : Type 0} → ℕ → List Write → A → Result A
result zero writes gives = giving writes gives
result (suc n) writes gives = refusing (suc n) writes
