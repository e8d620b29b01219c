-- Rides, call by call, in the town of the whole case: the model's answers compute.
use Rattle.std.specs.Prelude.{refl, [], ◌∷◌, pos, negsuc, replicate}
use Rattle.std.specs.Float.Ieee.{of_bits, to_bits, is_nan}
use Rattle.order.specs.Order.{span, keep, has}
use Rattle.order.specs.Sums.{sum}
use Rattle.squares.specs.Shape.{shape}
use Rattle.squares.specs.Squares.{number, corner_x, corner_y, interleave, evens}
use Rattle.cuts.specs.Cut.{cut_to, in_cut, inside}
use Rattle.squares.specs.Refusals.{first, refuse, accept}
use Rattle.position.specs.Cell.{whole, in_range, on_map, cell_of}
use Rattle.position.specs.Answer.{on_town, column_of, row_of}
use Rattle.model.specs.Answers.{numbers}
use Rattle.model.specs.Model.{Town, nowhere, opening, adding, riding, reporting, ask_roster, meaning}
use Rattle.model.specs.Whole.{asked, rect, at, far, zones, cars, next, Answers, opened, added, entered}

-- beside car 7, in column 5 of the zone's columns 5 to 12, car 8 in column 10 and car 9 in column 13
unfoldable pub crowd : Town
crowd = next (next entered (reporting 8 0 far zones zones)) (reporting 9 0 (at 0x4158_0000 0x4040_0000) zones zones)

-- a town with room for 36 entries, which its zone takes
unfoldable pub full : Town
full = next (next nowhere (opening (record { shape = shape 2 4 4; zones = 16; cars = 64; entries = 36 }))) (adding 1 (rect 5 2 8 12))

-- one column to the east car 9 enters, car 7 leaves and car 8 stays; there its roster is 8 and 9
pub ride-answers : Answers crowd (riding 1 (pos 1) (pos 0) cars cars) ((9 ∷ replicate 63 0) ∷ (7 ∷ replicate 63 0) ∷ []) (accept (numbers (24 ∷ 6 ∷ 1 ∷ 1 ∷ []))) × Answers (next crowd (riding 1 (pos 1) (pos 0) cars cars)) (ask_roster 1 cars) ((8 ∷ 9 ∷ replicate 62 0) ∷ []) (accept (numbers (2 ∷ []))) × Answers crowd (riding 1 (negsuc 4) (negsuc 1) cars cars) (cars ∷ (8 ∷ replicate 63 0) ∷ []) (accept (numbers (36 ∷ 6 ∷ 0 ∷ 1 ∷ []))) × Answers crowd (riding 1 (pos 0) (pos 0) cars cars) (cars ∷ cars ∷ []) (accept (numbers (0 ∷ 0 ∷ 0 ∷ 0 ∷ [])))
unfolding asked rect at next opened added entered crowd full meaning first keep has span sum on_town column_of row_of on_map in_range whole cell_of of_bits to_bits is_nan number interleave cut_to in_cut inside corner_x corner_y evens
ride-answers = (refl, refl, refl, refl)

-- a number that is none, a zone that does not stand; past each wall, by as much as a number of 32 bits has; a buffer that is one short;
-- 9 comes before 11
pub ride-refusals : Answers crowd (riding 16 (pos 1) (pos 0) cars cars) (cars ∷ cars ∷ []) (refuse 4) × Answers crowd (riding 2 (pos 1) (pos 0) cars cars) (cars ∷ cars ∷ []) (refuse 7) × Answers crowd (riding 1 (pos 4) (pos 0) cars cars) (cars ∷ cars ∷ []) (refuse 9) × Answers crowd (riding 1 (negsuc 5) (pos 0) cars cars) (cars ∷ cars ∷ []) (refuse 9) × Answers crowd (riding 1 (pos 0) (pos 3) cars cars) (cars ∷ cars ∷ []) (refuse 9) × Answers crowd (riding 1 (pos 0) (negsuc 2) [] cars) ([] ∷ cars ∷ []) (refuse 9) × Answers crowd (riding 1 (negsuc 2147483647) (pos 0) cars cars) (cars ∷ cars ∷ []) (refuse 9) × Answers crowd (riding 1 (pos 0) (pos 2147483647) cars cars) (cars ∷ cars ∷ []) (refuse 9) × Answers crowd (riding 1 (pos 1) (pos 0) (replicate 63 0) cars) (replicate 63 0 ∷ cars ∷ []) (refuse 11) × Answers crowd (riding 1 (pos 1) (pos 0) cars (replicate 63 0)) (cars ∷ replicate 63 0 ∷ []) (refuse 11)
unfolding asked rect at next opened added entered crowd full meaning first keep has span sum on_town column_of row_of on_map in_range whole cell_of of_bits to_bits is_nan number interleave cut_to in_cut inside corner_x corner_y evens
ride-refusals = (refl, refl, refl, refl, refl, refl, refl, refl, refl, refl)

-- where the entries are full a ride to a place with no more squares is accepted, one to a place with more gets 12, and so does a
-- zone beside it
pub ride-room : Answers full (riding 1 (pos 2) (pos 0) cars cars) (cars ∷ cars ∷ []) (accept (numbers (30 ∷ 30 ∷ 0 ∷ 0 ∷ []))) × Answers full (riding 1 (pos 0) (pos 1) cars cars) (cars ∷ cars ∷ []) (refuse 12) × Answers full (adding 2 (rect 7 2 8 12)) [] (refuse 12)
unfolding asked rect at next opened added entered crowd full meaning first keep has span sum on_town column_of row_of on_map in_range whole cell_of of_bits to_bits is_nan number interleave cut_to in_cut inside corner_x corner_y evens
ride-room = (refl, refl, refl)
