-- What the functions inside a call ask and promise.
use Rattle.std.specs.Prelude.{ℕ, ◌-◌, ◌<◌, ◌≤◌, ◌≡◌, Bool, true, false, cond, List, [], length, get_or}
use denote.Triple.Both.{Both}
use Rattle.order.specs.Order.{over, Wrote}
use Rattle.squares.specs.Refusals.{first}
use Rattle.tables.specs.Tables.{Tables, town_of}
use Rattle.season.specs.Output.{Line, reply}
use Rattle.room.specs.Room.{Roomed, Ready}
use Rattle.records.specs.Replies.{tables_after}
use Rattle.pieces.specs.declared.pieces.Filled.{Filled as Counts}
use Rattle.pieces.specs.Pieces.{Filled, holding, checks, counts}

-- the number of the refusal, or 0
pub record Refuses (t : Tables) (b o : List ℕ) (r : ℕ) : Type 0 where
  pub is : r ≡ first (checks t b o)

-- tables, held bytes and a buffer that are not refused
pub record Lending (t : Tables) (b o : List ℕ) : Type 0 where
  pub room : Roomed t
  pub long : length b ≡ 82
  pub few : get_or b 81 0 ≤ 81
  pub wide : 768 ≤ length o

-- whether a line more is taken: some of the piece is left, and any answer has room
pub record GoesOn (left room : ℕ) (r : Bool) : Type 0 where
  pub some : r ≡ true → 0 < left
  pub wide : r ≡ true → 768 ≤ room
  pub ends : r ≡ false → 768 ≤ room → left ≡ 0

-- a line that has ended is answered, another is not
abbrev pub text_if : Bool → Tables → Line → List ℕ
text_if ended t line = cond ended (reply (town_of t) line) []

abbrev pub tables_if : Bool → Tables → Line → Tables
tables_if ended t line = cond ended (tables_after t line) t

-- the answer goes to the front of the buffer, o before and o' then, and has n bytes
pub record Answers (t : Both Tables Tables) (ended : Bool) (line : Line) (o o' : List ℕ) (n : ℕ) : Type 0 where
  pub few : n ≤ 768
  pub text : Ready t.entry → Wrote o o' 0 n (text_if ended t.entry line)
  pub tables : Ready t.entry → t.exit ≡ tables_if ended t.entry line

-- what a call that is not refused leaves
pub record Passes (f : Filled) (t : Both Tables Tables) (piece b' o o' : List ℕ) (said : Counts) : Type 0 where
  pub passes : (said.read ≤ length piece) × (said.wrote ≤ length o)
  pub does : Ready t.entry → (said ≡ counts (length piece - length f.rest) (length f.text)) × (t.exit ≡ f.tables) × (b' ≡ holding f.held) × (o' ≡ over f.text o)
