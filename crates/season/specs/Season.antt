-- A season: what a log's lines and their answers say of the town, of its zones and of its cars.
use Rattle.std.specs.Prelude.{ℕ, Bool, cond, not, ◌&&◌, List, [], ◌∷◌, ltb, eqb, get_or}
use Rattle.std.proofs.Math.Option.{Option, none, some}
use Rattle.order.specs.Order.{upto, keep}
use Rattle.squares.specs.declared.shape.Shape.{Shape}
use Rattle.squares.specs.declared.shape.Rect.{Rect}
use Rattle.squares.specs.Shape.{shape, allowed, holds}
use Rattle.squares.specs.Refusals.{first}
use Rattle.position.specs.declared.Position.{Position}
use Rattle.position.specs.Answer.{on_town, column_of, row_of}
use Rattle.model.specs.Model.{Car, there}
use Rattle.line.specs.declared.records.Record.{Record}
use Rattle.line.specs.declared.records.Record.TheVariants.{Bad, Open, Add, Remove, Report, Leave, Search, Roster}
use Rattle.line.specs.Grammar.{meaning}
use Rattle.line.specs.Lines.{lines}
use Rattle.season.specs.Output.{position_of, output}

-- a line of the log and its answer
pub record Told : Type 0 where
  pub line : List ℕ
  pub answer : List ℕ

abbrev pub pairs : List (List ℕ) → List (List ℕ) → List Told
pairs [] answers = []
pairs (l ∷ ls) [] = []
pairs (l ∷ ls) (a ∷ answers) = record { line = l; answer = a } ∷ pairs ls answers

-- the lines of an input, each with the line that is written for it, in order
abbrev pub told : List ℕ → List Told
told input = pairs (lines input) (lines (output input))

-- an accepted line's answer has 0 after its letter and the tab
abbrev pub accepted : Told → Bool
accepted t = eqb (get_or t.answer 2 0) 48

-- the last word of accepted lines on something, from what each record makes of the word before it
unfoldable pub last_word : {A : Type 0} → (Record → A → A) → A → List Told → A
last_word says w [] = w
last_word says w (t ∷ ts) = last_word says (cond (accepted t) (says (meaning t.line) w) w) ts

-- the shape of the last accepted M
abbrev pub shape_says : Record → Option Shape → Option Shape
shape_says Bad w = w
shape_says (Open k P Q) w = some (shape k P Q)
shape_says (Add z a b w h) s = s
shape_says (Remove z) w = w
shape_says (Report c x y) w = w
shape_says (Leave c) w = w
shape_says (Search x y) w = w
shape_says (Roster z) w = w

-- the rectangle of zone z's last accepted A since the last accepted M, with no accepted D of it after
abbrev pub zone_says : ℕ → Record → Option Rect → Option Rect
zone_says z Bad w = w
zone_says z (Open k P Q) w = none
zone_says z (Add i a b w h) r = cond (eqb z i) (some (record { a = a; b = b; w = w; h = h })) r
zone_says z (Remove i) w = cond (eqb z i) none w
zone_says z (Report c x y) w = w
zone_says z (Leave c) w = w
zone_says z (Search x y) w = w
zone_says z (Roster i) w = w

-- the position of car c's last accepted P since the last accepted M, with no accepted L of it after
abbrev pub car_says : ℕ → Record → Option Position → Option Position
car_says c Bad w = w
car_says c (Open k P Q) w = none
car_says c (Add z a b w h) p = p
car_says c (Remove z) w = w
car_says c (Report i x y) w = cond (eqb c i) (some (position_of x y)) w
car_says c (Leave i) w = cond (eqb c i) none w
car_says c (Search x y) w = w
car_says c (Roster z) w = w

abbrev pub last_open : List Told → Option Shape
last_open ts = last_word shape_says none ts

abbrev pub last_add : ℕ → List Told → Option Rect
last_add z ts = last_word (zone_says z) none ts

abbrev pub last_report : ℕ → List Told → Option Position
last_report c ts = last_word (car_says c) none ts

-- the car at a report's position: a log has no teams, so its team is 0
abbrev pub car_by : Option Position → Option Car
car_by none = none
car_by (some p) = some (record { position = p; team = 0 })

-- ---- counted by hand

-- the zone holds the position's cell
abbrev pub in_zone : List Told → ℕ → Position → Bool
in_zone ts z p = there (last_open ts) (λ (s : Shape). there (last_add z ts) (λ (r : Rect). holds r (column_of s p) (row_of s p)))

-- the zone holds the cell of the car's last accepted P
abbrev pub car_in : List Told → ℕ → ℕ → Bool
car_in ts z c = there (last_report c ts) (in_zone ts z)

-- the cars in a zone; the zones over a position
abbrev pub cars_in : List Told → ℕ → List ℕ
cars_in ts z = keep (car_in ts z) (upto 64)

abbrev pub zones_over : List Told → Position → List ℕ
zones_over ts p = keep (λ (z : ℕ). in_zone ts z p) (upto 16)

-- the zones that a car enters, that it leaves by driving on, that it leaves by going off the map
abbrev pub entered : List Told → ℕ → Position → List ℕ
entered ts c p = keep (λ (z : ℕ). in_zone ts z p && not (car_in ts z c)) (upto 16)

abbrev pub left : List Told → ℕ → Position → List ℕ
left ts c p = keep (λ (z : ℕ). car_in ts z c && not (in_zone ts z p)) (upto 16)

abbrev pub left_behind : List Told → ℕ → List ℕ
left_behind ts c = keep (λ (z : ℕ). car_in ts z c) (upto 16)

-- the number that refuses a P, or 0: no town is open, no such car, off the town; never a team
abbrev pub report_refusal : List Told → ℕ → Position → ℕ
report_refusal ts c p = first ((there (last_open ts) allowed, 3) ∷ (ltb c 64, 5) ∷ (there (last_open ts) (λ (s : Shape). on_town s p), 10) ∷ [])
