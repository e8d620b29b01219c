-- What the program's functions promise of a whole piece of the input.
use Rattle.std.specs.Prelude.{ℕ, ◌≤◌, ◌≡◌, Bool, true, List, map, length}
use Rattle.std.specs.declared.result.Result.{Result}
use Rattle.std.specs.declared.result.Result.TheVariants.{Ok, Err}
use denote.Triple.Both.{Both}
use Rattle.tables.specs.Tables.{Tables}
use Rattle.line.specs.Lines.{feed}
use Rattle.season.specs.Output.{line_of}
use Rattle.room.specs.Room.{Ready}
use Rattle.pieces.specs.Pieces.{held_in, holding}
use Rattle.replay.specs.Run.{after_lines}

-- the program's tables, the bytes of a line that has not ended, and a buffer that an answer fits
pub record Carries (t : Tables) (b o : List ℕ) : Type 0 where
  pub ready : Ready t
  pub held : b ≡ holding (held_in b)
  pub few : length (held_in b) ≤ 81
  pub room : 768 ≤ length o

-- a piece whose answers were all written: each of its lines was carried out, once and in order. Written or not, another call
-- can follow
pub record Carried (t : Both Tables Tables) (piece b b' o' : List ℕ) (written : Bool) : Type 0 where
  pub tables : written ≡ true → t.exit ≡ after_lines t.entry (map line_of (feed (held_in b) piece).ended)
  pub held : written ≡ true → b' ≡ holding (feed (held_in b) piece).held
  pub carries : Carries t.exit b' o'

-- the status that a run ends with: 0 where it came to the input's end and all answers were written
abbrev pub status_of : {A E : Type 0} → Result A E → ℕ
status_of (Ok a) = 0
status_of (Err why) = 1
