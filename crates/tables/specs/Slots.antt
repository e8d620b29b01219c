-- A car and its team, and a zone's numbers, as the code reads them.
use Rattle.std.specs.Prelude.{ℕ, ◌+◌, ◌*◌, ◌%◌, Bool, true, cond, ◌&&◌, List, take, drop, ◌==◌, nat_le, slice_index, Float}
use Rattle.position.specs.declared.band.Band.{Band}
use Rattle.position.specs.Band.{in_bands}
use Rattle.model.specs.declared.answers.Standing.{Standing}
use Rattle.model.specs.Teams.{last_team}
use Rattle.tables.specs.Tables.{tally, placed_in, team_in, spot_in}

-- car c is placed, and its position's floats are of two bands
unfoldable pub car_between : List ℕ → List Float → Band → Band → ℕ → Bool
car_between cars spots columns rows c = placed_in cars c && in_bands columns rows (spot_in spots c)

-- a team that car c may report
unfoldable pub team_fits : List ℕ → ℕ → ℕ → Bool
team_fits cars c g = nat_le g last_team && cond (placed_in cars c) (g == team_in cars c) true

-- which of the eight teams car c's record says: its own, where that is at most 7
abbrev pub slot_in : List ℕ → ℕ → ℕ
slot_in cars c = (slice_index cars c + 7) % 8

-- zone z's numbers
abbrev pub tally_at : List ℕ → ℕ → List ℕ
tally_at tallies z = take tally (drop (z * tally) tallies)

-- those behind its count
abbrev pub standing_in : List ℕ → ℕ → Standing
standing_in tallies z = record {
  team0 = slice_index tallies (z * tally + 1);
  team1 = slice_index tallies (z * tally + 2);
  team2 = slice_index tallies (z * tally + 3);
  team3 = slice_index tallies (z * tally + 4);
  team4 = slice_index tallies (z * tally + 5);
  team5 = slice_index tallies (z * tally + 6);
  team6 = slice_index tallies (z * tally + 7);
  team7 = slice_index tallies (z * tally + 8);
  holder = slice_index tallies (z * tally + 9);
}
