-- What a line makes of the program's tables, and what answering it promises.
use Rattle.std.specs.Prelude.{ℕ, ◌≤◌, ◌≡◌, List}
use Rattle.std.proofs.Math.Option.{none, some}
use denote.Triple.Both.{Both}
use Rattle.order.specs.Order.{Wrote}
use Rattle.model.specs.Model.{change}
use Rattle.tables.specs.Tables.{Tables, town_of}
use Rattle.tables.specs.Steps.{step}
use Rattle.season.specs.Output.{Line, outcome_of, reply}
use Rattle.room.specs.Room.{part, into, Ready}

-- the program's tables after a line; a refusal changes nothing
abbrev pub tables_after : Tables → Line → Tables
tables_after t none = t
tables_after t (some line) = into t (step (change (outcome_of (town_of t) line.1)) (part t))

-- t has the program's tables at entry and at exit; the answer goes to the front of the buffer, b before and b' then, and has n
-- bytes. On tables that are not ready only its length is promised
pub record Replies (t : Both Tables Tables) (line : Line) (b b' : List ℕ) (n : ℕ) : Type 0 where
  pub few : n ≤ 768
  pub text : Ready t.entry → Wrote b b' 0 n (reply (town_of t.entry) line)
  pub tables : Ready t.entry → t.exit ≡ tables_after t.entry line
