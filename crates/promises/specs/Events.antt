-- The events of the calls, as their contracts name them: arguments, lent buffers, answer.
use Rattle.std.specs.Prelude.{ℕ, Bool, List, [], ◌∷◌, ℤ}
use Rattle.std.specs.declared.result.Result.{Result}
use Rattle.squares.specs.declared.refusal.Refusal.{Refusal}
use Rattle.squares.specs.declared.shape.Rect.{Rect}
use Rattle.squares.specs.Shape.{shape}
use Rattle.squares.specs.Refusals.{Answer}
use Rattle.position.specs.declared.Position.{Position}
use Rattle.model.specs.declared.answers.Added.{Added}
use Rattle.model.specs.declared.answers.Scoring.{Scoring}
use Rattle.model.specs.declared.answers.Standing.{Standing}
use Rattle.model.specs.declared.answers.Ridden.{Ridden}
use Rattle.model.specs.declared.answers.Crossed.{Crossed}
use Rattle.model.specs.declared.answers.Looked.{Looked}
use Rattle.model.specs.Answers.{Values, done_is, added_is, ridden_is, reported_is, left_is, searched_is, scoring_is, count_is, holder_is, where_is, soundness_is}
use Rattle.model.specs.Model.{Call, opening, adding, removing, riding, reporting, leaving, searching, ask_scoring, ask_roster, ask_count, ask_holder, ask_where, ask_soundness, Event}
use Rattle.model.specs.declared.opening.Opening.{Opening}
use Rattle.tables.specs.Lent.{Slice}

abbrev pub event : Call → List (List ℕ) → Answer Values → Event
event call buffers answer = record { call = call; result = record { buffers = buffers; answer = answer } }

-- what an open is given, by its numbers
abbrev pub asked : ℕ → ℕ → ℕ → ℕ → ℕ → ℕ → Opening
asked k P Q Z C E = record { shape = shape k P Q; zones = Z; cars = C; entries = E }

abbrev pub opened : Opening → Result (Unit {0}) Refusal → Event
opened o answer = event (opening o) [] (done_is answer)

abbrev pub added : ℕ → Rect → Result Added Refusal → Event
added z r answer = event (adding z r) [] (added_is answer)

abbrev pub removed : ℕ → Result (Unit {0}) Refusal → Event
removed z answer = event (removing z) [] (done_is answer)

abbrev pub rode : ℕ → ℤ → ℤ → Slice ℕ → Slice ℕ → Result Ridden Refusal → Event
rode z dx dy entered left answer = event (riding z dx dy entered.entry.now left.entry.now) (entered.exit.now ∷ left.exit.now ∷ []) (ridden_is answer)

abbrev pub reported : ℕ → ℕ → Position → Slice ℕ → Slice ℕ → Result Crossed Refusal → Event
reported c g p entered left answer = event (reporting c g p entered.entry.now left.entry.now) (entered.exit.now ∷ left.exit.now ∷ []) (reported_is answer)

abbrev pub left_map : ℕ → Slice ℕ → Result Looked Refusal → Event
left_map c left answer = event (leaving c left.entry.now) (left.exit.now ∷ []) (left_is answer)

abbrev pub searched : Position → Slice ℕ → Result Looked Refusal → Event
searched p found answer = event (searching p found.entry.now) (found.exit.now ∷ []) (searched_is answer)

abbrev pub scoring_told : Position → Result Scoring Refusal → Event
scoring_told p answer = event (ask_scoring p) [] (scoring_is answer)

abbrev pub roster_told : ℕ → Slice ℕ → Result ℕ Refusal → Event
roster_told z inside answer = event (ask_roster z inside.entry.now) (inside.exit.now ∷ []) (count_is answer)

abbrev pub count_told : ℕ → Result ℕ Refusal → Event
count_told z answer = event (ask_count z) [] (count_is answer)

abbrev pub holder_told : ℕ → Result Standing Refusal → Event
holder_told z answer = event (ask_holder z) [] (holder_is answer)

abbrev pub where_told : ℕ → Result Position Refusal → Event
where_told c answer = event (ask_where c) [] (where_is answer)

abbrev pub soundness_told : Result Bool Refusal → Event
soundness_told answer = event ask_soundness [] (soundness_is answer)
