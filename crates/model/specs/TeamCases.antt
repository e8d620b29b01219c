-- Teams and holders, call by call, in the town of the whole case: the model's answers compute.
use Rattle.std.specs.Prelude.{refl, [], ◌∷◌, replicate}
use Rattle.std.specs.Float.Ieee.{of_bits, to_bits, is_nan}
use Rattle.order.specs.Order.{span, keep}
use Rattle.order.specs.Sums.{sum}
use Rattle.squares.specs.Squares.{number, corner_x, corner_y, interleave, evens}
use Rattle.cuts.specs.Cut.{cut_to, in_cut, inside}
use Rattle.squares.specs.Refusals.{first, refuse, accept}
use Rattle.position.specs.Cell.{whole, in_range, on_map, cell_of}
use Rattle.position.specs.Answer.{on_town, column_of, row_of}
use Rattle.model.specs.Teams.{leads, lead}
use Rattle.model.specs.Answers.{numbers}
use Rattle.model.specs.Model.{Town, adding, reporting, leaving, ask_holder, meaning}
use Rattle.model.specs.Whole.{asked, rect, at, near, far, zones, next, Answers, opened, added}

-- in zone 1 a spectator, then a car of team 3, one of team 5, a second of team 3, which leaves again
unfoldable pub crowd : Town
crowd = next added (reporting 1 0 near zones zones)

unfoldable pub held : Town
held = next crowd (reporting 7 3 near zones zones)

unfoldable pub level : Town
level = next held (reporting 8 5 near zones zones)

unfoldable pub ahead : Town
ahead = next level (reporting 9 3 far zones zones)

unfoldable pub lost : Town
lost = next ahead (leaving 9 zones)

-- another zone over all of them
unfoldable pub covered : Town
covered = next ahead (adding 2 (rect 0 0 16 16))

pub holder-answers : Answers added (ask_holder 1) [] (accept (numbers (0 ∷ 0 ∷ 0 ∷ 0 ∷ 0 ∷ 0 ∷ 0 ∷ 0 ∷ 0 ∷ []))) × Answers crowd (ask_holder 1) [] (accept (numbers (1 ∷ 0 ∷ 0 ∷ 0 ∷ 0 ∷ 0 ∷ 0 ∷ 0 ∷ 0 ∷ []))) × Answers held (ask_holder 1) [] (accept (numbers (1 ∷ 0 ∷ 0 ∷ 1 ∷ 0 ∷ 0 ∷ 0 ∷ 0 ∷ 3 ∷ []))) × Answers level (ask_holder 1) [] (accept (numbers (1 ∷ 0 ∷ 0 ∷ 1 ∷ 0 ∷ 1 ∷ 0 ∷ 0 ∷ 0 ∷ []))) × Answers ahead (ask_holder 1) [] (accept (numbers (1 ∷ 0 ∷ 0 ∷ 2 ∷ 0 ∷ 1 ∷ 0 ∷ 0 ∷ 3 ∷ []))) × Answers lost (ask_holder 1) [] (accept (numbers (1 ∷ 0 ∷ 0 ∷ 1 ∷ 0 ∷ 1 ∷ 0 ∷ 0 ∷ 0 ∷ []))) × Answers covered (ask_holder 2) [] (accept (numbers (1 ∷ 0 ∷ 0 ∷ 2 ∷ 0 ∷ 1 ∷ 0 ∷ 0 ∷ 3 ∷ [])))
unfolding asked rect at next opened added crowd held level ahead lost covered leads lead meaning first keep span sum on_town column_of row_of on_map in_range whole cell_of of_bits to_bits is_nan number interleave cut_to in_cut inside corner_x corner_y evens
holder-answers = (refl, refl, refl, refl, refl, refl, refl)

-- a zone that does not stand, a number that is none
pub holder-refusals : Answers added (ask_holder 2) [] (refuse 7) × Answers added (ask_holder 16) [] (refuse 4)
unfolding asked rect at next opened added crowd held level ahead lost covered leads lead meaning first keep span sum on_town column_of row_of on_map in_range whole cell_of of_bits to_bits is_nan number interleave cut_to in_cut inside corner_x corner_y evens
holder-refusals = (refl, refl)

-- a team above 7; another team on the map, and the same after a leave; 5 comes before 15, and 15 before 10
pub team-refusals : Answers added (reporting 7 8 near zones zones) (zones ∷ zones ∷ []) (refuse 15) × Answers held (reporting 7 4 near zones zones) (zones ∷ zones ∷ []) (refuse 15) × Answers (next held (leaving 7 zones)) (reporting 7 4 near zones zones) ((1 ∷ replicate 15 0) ∷ zones ∷ []) (accept (numbers (3 ∷ 1 ∷ 0 ∷ []))) × Answers held (reporting 64 8 near zones zones) (zones ∷ zones ∷ []) (refuse 5) × Answers held (reporting 7 4 (at 0x7FC0_0000 0) zones zones) (zones ∷ zones ∷ []) (refuse 15) × Answers held (reporting 7 3 (at 0x7FC0_0000 0) zones zones) (zones ∷ zones ∷ []) (refuse 10)
unfolding asked rect at next opened added crowd held level ahead lost covered leads lead meaning first keep span sum on_town column_of row_of on_map in_range whole cell_of of_bits to_bits is_nan number interleave cut_to in_cut inside corner_x corner_y evens
team-refusals = (refl, refl, refl, refl, refl, refl)
