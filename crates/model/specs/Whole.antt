-- Document 01's whole case, call by call: the model's answers compute. Then a zone taken away, and another open.
use Rattle.std.specs.Prelude.{ℕ, ◌≡◌, refl, true, List, [], ◌∷◌, replicate}
use Rattle.std.proofs.Math.Option.{none}
use Rattle.std.specs.Float.{binary32}
use Rattle.std.specs.Float.Ieee.{of_bits, to_bits, is_nan}
use Rattle.order.specs.Order.{span, keep}
use Rattle.order.specs.Sums.{sum}
use Rattle.squares.specs.declared.shape.Rect.{Rect}
use Rattle.squares.specs.Shape.{shape}
use Rattle.squares.specs.Squares.{number, corner_x, corner_y, interleave, evens}
use Rattle.cuts.specs.Cut.{cut_to, in_cut, inside}
use Rattle.squares.specs.Refusals.{first, Answer, refuse, accept}
use Rattle.position.specs.declared.Position.{Position}
use Rattle.position.specs.Cell.{whole, in_range, on_map, cell_of}
use Rattle.position.specs.Answer.{on_town, column_of, row_of}
use Rattle.model.specs.Answers.{Values, numbers}
use Rattle.model.specs.Model.{Town, nowhere, Call, opening, adding, removing, reporting, leaving, ask_roster, ask_count, ask_scoring, climb, change, after, Lengths, meaning, outcome}
use Rattle.model.specs.declared.opening.Opening.{Opening}

-- the log's capacities; tables with the lengths of the town
unfoldable pub asked : Opening
asked = record { shape = shape 2 4 4; zones = 16; cars = 64; entries = 2048 }

abbrev pub fitting : Lengths
fitting = record { own = true; asked = λ (o : Opening). true }

unfoldable pub rect : ℕ → ℕ → ℕ → ℕ → Rect
rect a b w h = record { a = a; b = b; w = w; h = h }

unfoldable pub at : ℕ → ℕ → Position
at x y = record { x = of_bits binary32 x; y = of_bits binary32 y }

abbrev pub near : Position
near = at 0x40B0_0000 0x4040_0000

abbrev pub far : Position
far = at 0x4120_0000 0x4130_0000

-- the buffers: for 16 zones and for 64 cars
abbrev pub zones : List ℕ
zones = replicate 16 0

abbrev pub cars : List ℕ
cars = replicate 64 0

-- the town after a call
unfoldable pub next : Town → Call → Town
next m call = after (change (outcome fitting true m call)) m

-- what a call leaves in its buffers and answers on a town
abbrev pub Answers : Town → Call → List (List ℕ) → Answer Values → Type 0
Answers m call buffers answer = outcome fitting true m call ≡ record { call = call; result = record { buffers = buffers; answer = answer } }

unfoldable pub opened : Town
opened = next nowhere (opening asked)

unfoldable pub added : Town
added = next opened (adding 1 (rect 5 2 8 12))

unfoldable pub entered : Town
entered = next added (reporting 7 0 near zones zones)

unfoldable pub moved : Town
moved = next entered (reporting 7 0 far zones zones)

unfoldable pub barred : Town
barred = next moved (adding 1 (rect 0 0 1 1))

unfoldable pub left : Town
left = next barred (leaving 7 zones)

unfoldable pub removed : Town
removed = next barred (removing 1)

unfoldable pub again : Town
again = next barred (opening asked)

-- ---- the answers

-- M 2 4 4                  -> M 0
pub open-answers : Answers nowhere (opening asked) [] (accept (numbers []))
unfolding asked rect at next opened added entered moved barred left removed again meaning first keep span sum on_town column_of row_of on_map in_range whole cell_of of_bits to_bits is_nan number interleave cut_to in_cut inside corner_x corner_y evens
open-answers = refl

-- A 1 5 2 8 12             -> A 0 36 0
pub add-answers : Answers opened (adding 1 (rect 5 2 8 12)) [] (accept (numbers (36 ∷ 0 ∷ [])))
unfolding asked rect at next opened added entered moved barred left removed again meaning first keep span sum on_town column_of row_of on_map in_range whole cell_of of_bits to_bits is_nan number interleave cut_to in_cut inside corner_x corner_y evens
add-answers = refl

-- P 7 40B00000 40400000    -> P 0 3 1 -
pub enter-answers : Answers added (reporting 7 0 near zones zones) ((1 ∷ replicate 15 0) ∷ zones ∷ []) (accept (numbers (3 ∷ 1 ∷ 0 ∷ [])))
unfolding asked rect at next opened added entered moved barred left removed again meaning first keep span sum on_town column_of row_of on_map in_range whole cell_of of_bits to_bits is_nan number interleave cut_to in_cut inside corner_x corner_y evens
enter-answers = refl

-- P 7 41200000 41300000    -> P 0 6 - -
pub move-answers : Answers entered (reporting 7 0 far zones zones) (zones ∷ zones ∷ []) (accept (numbers (6 ∷ 0 ∷ 0 ∷ [])))
unfolding asked rect at next opened added entered moved barred left removed again meaning first keep span sum on_town column_of row_of on_map in_range whole cell_of of_bits to_bits is_nan number interleave cut_to in_cut inside corner_x corner_y evens
move-answers = refl

-- R 1                      -> R 0 1 7
pub roster-answers : Answers moved (ask_roster 1 cars) ((7 ∷ replicate 63 0) ∷ []) (accept (numbers (1 ∷ [])))
unfolding asked rect at next opened added entered moved barred left removed again meaning first keep span sum on_town column_of row_of on_map in_range whole cell_of of_bits to_bits is_nan number interleave cut_to in_cut inside corner_x corner_y evens
roster-answers = refl

-- A 1 0 0 1 1              -> A 6
pub bar-answers : Answers moved (adding 1 (rect 0 0 1 1)) [] (refuse 6)
unfolding asked rect at next opened added entered moved barred left removed again meaning first keep span sum on_town column_of row_of on_map in_range whole cell_of of_bits to_bits is_nan number interleave cut_to in_cut inside corner_x corner_y evens
bar-answers = refl

-- L 7                      -> L 0 3 1
pub leave-answers : Answers barred (leaving 7 zones) ((1 ∷ replicate 15 0) ∷ []) (accept (numbers (3 ∷ 1 ∷ [])))
unfolding asked rect at next opened added entered moved barred left removed again meaning first keep span sum on_town column_of row_of on_map in_range whole cell_of of_bits to_bits is_nan number interleave cut_to in_cut inside corner_x corner_y evens
leave-answers = refl

-- R 1                      -> R 0 0 -
pub end-answers : Answers left (ask_roster 1 cars) (cars ∷ []) (accept (numbers (0 ∷ [])))
unfolding asked rect at next opened added entered moved barred left removed again meaning first keep span sum on_town column_of row_of on_map in_range whole cell_of of_bits to_bits is_nan number interleave cut_to in_cut inside corner_x corner_y evens
end-answers = refl

-- ---- the count of zone 1 on the way: no car, car 7, no car again; a zone that does not stand, a number that is none

pub count-answers : Answers added (ask_count 1) [] (accept (numbers (0 ∷ []))) × Answers moved (ask_count 1) [] (accept (numbers (1 ∷ []))) × Answers left (ask_count 1) [] (accept (numbers (0 ∷ []))) × Answers removed (ask_count 1) [] (refuse 7) × Answers opened (ask_count 16) [] (refuse 4)
unfolding asked rect at next opened added entered moved barred left removed again meaning first keep span sum on_town column_of row_of on_map in_range whole cell_of of_bits to_bits is_nan number interleave cut_to in_cut inside corner_x corner_y evens
count-answers = (refl, refl, refl, refl, refl)

-- ---- whether a zone holds a position, and the levels looked at: its unit cell is in the cut, its square on level 1, its block;
-- none of them, and none once the zone is removed; a position past the east wall

pub scoring-answers : Answers added (ask_scoring near) [] (accept (numbers (1 ∷ 1 ∷ []))) × Answers added (ask_scoring (at 0x40C0_0000 0x4000_0000)) [] (accept (numbers (1 ∷ 2 ∷ []))) × Answers added (ask_scoring far) [] (accept (numbers (1 ∷ 3 ∷ []))) × Answers added (ask_scoring (at 0 0)) [] (accept (numbers (0 ∷ 3 ∷ []))) × Answers removed (ask_scoring far) [] (accept (numbers (0 ∷ 3 ∷ []))) × Answers added (ask_scoring (at 0x4180_0001 0)) [] (refuse 10)
unfolding asked rect at next opened added entered moved barred left removed again meaning first keep span sum climb on_town column_of row_of on_map in_range whole cell_of of_bits to_bits is_nan number interleave cut_to in_cut inside corner_x corner_y evens
scoring-answers = (refl, refl, refl, refl, refl, refl)

-- ---- and what a removal and another open leave

pub removed-down : removed.zone 1 ≡ none
unfolding asked rect at next opened added entered moved barred left removed again meaning first keep span sum on_town column_of row_of on_map in_range whole cell_of of_bits to_bits is_nan number interleave cut_to in_cut inside corner_x corner_y evens
removed-down = refl

pub again-empty : (again.zone 1 ≡ none) × (again.car 7 ≡ none)
unfolding asked rect at next opened added entered moved barred left removed again meaning first keep span sum on_town column_of row_of on_map in_range whole cell_of of_bits to_bits is_nan number interleave cut_to in_cut inside corner_x corner_y evens
again-empty = (refl, refl)
