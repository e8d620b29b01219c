-- What each answer says: a refusal's number, or the values of what is told.
use Rattle.std.specs.Prelude.{ℕ, Bool, List, [], ◌∷◌}
use Rattle.std.specs.declared.result.Result.{Result}
use Rattle.std.specs.declared.result.Result.TheVariants.{Ok, Err}
use Rattle.order.specs.Sums.{bit}
use Rattle.squares.specs.declared.refusal.Refusal.{Refusal}
use Rattle.squares.specs.Refusals.{number_of, Answer, refuse, accept}
use Rattle.position.specs.declared.Position.{Position}
use Rattle.model.specs.declared.answers.Added.{Added}
use Rattle.model.specs.declared.answers.Ridden.{Ridden}
use Rattle.model.specs.declared.answers.Crossed.{Crossed}
use Rattle.model.specs.declared.answers.Looked.{Looked}
use Rattle.model.specs.declared.answers.Scoring.{Scoring}
use Rattle.model.specs.declared.answers.Standing.{Standing}

-- numbers, or a position
pub data Values : Type 0 where
  numbers : (values : List ℕ) → Values
  spot : (p : Position) → Values

-- refused by a number, or told what stands in an answer
abbrev pub told : {A : Type 0} → (A → Values) → Result A Refusal → Answer Values
told values (Err r) = refuse (number_of r)
told values (Ok a) = accept (values a)

-- an open, a remove: no values
abbrev pub done_is : Result (Unit {0}) Refusal → Answer Values
done_is answer = told (λ (a : Unit {0}). numbers []) answer

-- squares of the cut, cars inside
abbrev pub added_is : Result Added Refusal → Answer Values
added_is answer = told (λ (a : Added). numbers (a.squares ∷ a.cars ∷ [])) answer

-- squares dropped, squares taken up, cars entered, cars left
abbrev pub ridden_is : Result Ridden Refusal → Answer Values
ridden_is answer = told (λ (a : Ridden). numbers (a.dropped ∷ a.taken ∷ a.entered ∷ a.left ∷ [])) answer

-- squares looked into, zones entered, zones left
abbrev pub reported_is : Result Crossed Refusal → Answer Values
reported_is answer = told (λ (a : Crossed). numbers (a.squares ∷ a.entered ∷ a.left ∷ [])) answer

-- squares looked into, zones left
abbrev pub left_is : Result Looked Refusal → Answer Values
left_is answer = told (λ (a : Looked). numbers (a.squares ∷ a.zones ∷ [])) answer

-- squares looked into, zones found
abbrev pub searched_is : Result Looked Refusal → Answer Values
searched_is answer = told (λ (a : Looked). numbers (a.squares ∷ a.zones ∷ [])) answer

-- yes is 1, no is 0; levels looked at
abbrev pub scored : Scoring → Values
scored a = numbers (bit a.held ∷ a.levels ∷ [])

abbrev pub scoring_is : Result Scoring Refusal → Answer Values
scoring_is answer = told scored answer

-- cars on the roster; cars in the zone
abbrev pub count_is : Result ℕ Refusal → Answer Values
count_is answer = told (λ (cars : ℕ). numbers (cars ∷ [])) answer

-- cars of each team in the zone, from team 0 on, and the holder
abbrev pub standing_is : Standing → List ℕ
standing_is s = s.team0 ∷ s.team1 ∷ s.team2 ∷ s.team3 ∷ s.team4 ∷ s.team5 ∷ s.team6 ∷ s.team7 ∷ s.holder ∷ []

abbrev pub holder_is : Result Standing Refusal → Answer Values
holder_is answer = told (λ (s : Standing). numbers (standing_is s)) answer

abbrev pub where_is : Result Position Refusal → Answer Values
where_is answer = told spot answer

-- yes is 1, no is 0
abbrev pub soundness_is : Result Bool Refusal → Answer Values
soundness_is answer = told (λ (sound : Bool). numbers (bit sound ∷ [])) answer
