-- Document 01's whole case, to the byte.
use Rattle.std.specs.Prelude.{ℕ, ◌≡◌, refl, List, [], ◌∷◌}
use Rattle.std.specs.Float.Ieee.{of_bits, to_bits, is_nan}
use Rattle.order.specs.Order.{span, keep}
use Rattle.order.specs.Sums.{sum}
use Rattle.squares.specs.Squares.{number, corner_x, corner_y, interleave, evens}
use Rattle.cuts.specs.Cut.{cut_to, in_cut, inside}
use Rattle.squares.specs.Refusals.{first}
use Rattle.position.specs.Cell.{whole, in_range, on_map, cell_of}
use Rattle.position.specs.Answer.{on_town, column_of, row_of}
use Rattle.model.specs.Model as model
use Rattle.line.specs.Split.{split}
use Rattle.line.specs.Grammar.{digit_of, numeral, decimal, coordinate, form, record_of, values, meaning}
use Rattle.print.specs.Text.{digits, followed, listed}
use Rattle.season.specs.Output.{answers, output}

abbrev pub input : List ℕ
input =
    77 ∷ 9 ∷ 50 ∷ 9 ∷ 52 ∷ 9 ∷ 52 ∷ 10 ∷  -- M 2 4 4
    65 ∷ 9 ∷ 49 ∷ 9 ∷ 53 ∷ 9 ∷ 50 ∷ 9 ∷ 56 ∷ 9 ∷ 49 ∷ 50 ∷ 10 ∷  -- A 1 5 2 8 12
    80 ∷ 9 ∷ 55 ∷ 9 ∷ 52 ∷ 48 ∷ 66 ∷ 48 ∷ 48 ∷ 48 ∷ 48 ∷ 48 ∷ 9 ∷ 52 ∷ 48 ∷ 52 ∷ 48 ∷ 48 ∷ 48 ∷ 48 ∷ 48 ∷ 10 ∷  -- P 7 40B00000 40400000
    80 ∷ 9 ∷ 55 ∷ 9 ∷ 52 ∷ 49 ∷ 50 ∷ 48 ∷ 48 ∷ 48 ∷ 48 ∷ 48 ∷ 9 ∷ 52 ∷ 49 ∷ 51 ∷ 48 ∷ 48 ∷ 48 ∷ 48 ∷ 48 ∷ 10 ∷  -- P 7 41200000 41300000
    82 ∷ 9 ∷ 49 ∷ 10 ∷  -- R 1
    65 ∷ 9 ∷ 49 ∷ 9 ∷ 48 ∷ 9 ∷ 48 ∷ 9 ∷ 49 ∷ 9 ∷ 49 ∷ 10 ∷  -- A 1 0 0 1 1
    76 ∷ 9 ∷ 55 ∷ 10 ∷  -- L 7
    82 ∷ 9 ∷ 49 ∷ 10 ∷  -- R 1
    []

abbrev pub written : List ℕ
written =
    77 ∷ 9 ∷ 48 ∷ 10 ∷  -- M 0
    65 ∷ 9 ∷ 48 ∷ 9 ∷ 51 ∷ 54 ∷ 9 ∷ 48 ∷ 10 ∷  -- A 0 36 0
    80 ∷ 9 ∷ 48 ∷ 9 ∷ 51 ∷ 9 ∷ 49 ∷ 9 ∷ 45 ∷ 10 ∷  -- P 0 3 1 -
    80 ∷ 9 ∷ 48 ∷ 9 ∷ 54 ∷ 9 ∷ 45 ∷ 9 ∷ 45 ∷ 10 ∷  -- P 0 6 - -
    82 ∷ 9 ∷ 48 ∷ 9 ∷ 49 ∷ 9 ∷ 55 ∷ 10 ∷  -- R 0 1 7
    65 ∷ 9 ∷ 54 ∷ 10 ∷  -- A 6
    76 ∷ 9 ∷ 48 ∷ 9 ∷ 51 ∷ 9 ∷ 49 ∷ 10 ∷  -- L 0 3 1
    82 ∷ 9 ∷ 48 ∷ 9 ∷ 48 ∷ 9 ∷ 45 ∷ 10 ∷  -- R 0 0 -
    []

pub whole-output : output input ≡ written
unfolding first model.meaning keep span sum on_town column_of row_of on_map in_range whole cell_of of_bits to_bits is_nan number interleave cut_to in_cut inside corner_x corner_y evens split digit_of numeral decimal coordinate form record_of values meaning digits followed listed answers output
whole-output = refl
