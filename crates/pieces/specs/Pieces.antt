-- A piece of the input answered into a lent buffer.
use Rattle.std.specs.Prelude.{ℕ, ◌-◌, ◌*◌, ◌≤◌, ◌≡◌, Bool, cond, ◌&&◌, List, [], ◌∷◌, ◌++◌, ltb, leb, eqb, length, get_or, take, replicate}
use Rattle.std.specs.declared.result.Result.{Result}
use Rattle.std.specs.declared.result.Result.TheVariants.{Ok}
use denote.Triple.Both.{Both}
use Rattle.order.specs.Order.{over}
use Rattle.squares.specs.declared.refusal.Refusal.{Refusal}
use Rattle.squares.specs.Refusals.{Bar, first, refused_by}
use Rattle.tables.specs.Tables.{Tables, tally, town_of}
use Rattle.season.specs.Output.{line_of, reply}
use Rattle.room.specs.Room.{Ready}
use Rattle.records.specs.Replies.{tables_after}
use Rattle.pieces.specs.declared.pieces.Filled.{Filled as Counts}

-- ---- the bytes of a line that has not ended

-- they stand at the front of 82 bytes, the last of which says how many they are
abbrev pub held_in : List ℕ → List ℕ
held_in b = take (get_or b 81 0) b

abbrev pub holding : List ℕ → List ℕ
holding held = held ++ (replicate (81 - length held) 0 ++ (length held ∷ []))

-- ---- a piece

-- where it was answered as far as the buffer goes: the tables, the bytes that are held, the text of the answers, the bytes
-- that were not read
pub record Filled : Type 0 where
  pub tables : Tables
  pub held : List ℕ
  pub text : List ℕ
  pub rest : List ℕ

abbrev pub writing : List ℕ → Filled → Filled
writing text f = record { tables = f.tables; held = f.held; text = text ++ f.text; rest = f.rest }

-- room is what is left of the buffer. Where that is less than 768 bytes, which every answer fits, no more is read.
-- Of a line its first 81 bytes are held: a line of more than 80 means nothing
unfoldable pub fill : ℕ → Tables → List ℕ → List ℕ → Filled
fill room t held [] = record { tables = t; held = held; text = []; rest = [] }
fill room t held (b ∷ piece) =
    let text = reply (town_of t) (line_of held) in
    cond (ltb room 768) (record { tables = t; held = held; text = []; rest = b ∷ piece })
    (cond (eqb b 10) (writing text (fill (room - length text) (tables_after t (line_of held)) [] piece))
    (fill room t (take 81 (held ++ (b ∷ []))) piece))

-- the input ends: what is held is a line where it is not empty
abbrev pub finish : Tables → List ℕ → Filled
finish t [] = record { tables = t; held = []; text = []; rest = [] }
finish t (b ∷ held) = record { tables = tables_after t (line_of (b ∷ held)); held = []; text = reply (town_of t) (line_of (b ∷ held)); rest = [] }

-- ---- the promise

-- the lengths of the program's tables
abbrev pub roomed : Tables → Bool
roomed t = eqb (length t.records.head) 6 && (eqb (length t.records.zones) 64 && (eqb (length t.records.cars) 64 && (eqb (length t.records.spots) 128 && (eqb (length t.derived.starts) 5462 && (eqb (length t.derived.entries) 2048 && (eqb (length t.derived.rosters) 1024 && eqb (length t.derived.tallies) (16 * tally)))))))

-- the bytes held have their length, and count themselves
abbrev pub counted : List ℕ → Bool
counted b = eqb (length b) 82 && leb (get_or b 81 0) 81

-- what is asked, in order, with the number of the refusal
abbrev pub checks : Tables → List ℕ → List ℕ → List Bar
checks t b o = (roomed t, 3) ∷ (counted b, 3) ∷ (leb 768 (length o), 11) ∷ []

-- how much was read and written
abbrev pub counts : ℕ → ℕ → Counts
counts read wrote = record { read = read; wrote = wrote }

-- t has the tables at entry and at exit, b and b' are the bytes held, o and o' the buffer; what should be left is f
pub record Fills (f : Filled) (t : Both Tables Tables) (piece b b' o o' : List ℕ) (said : Result Counts Refusal) : Type 0 where
  -- on any tables, a call that is barred answers that number, and nothing changes
  pub refuses : (first (checks t.entry b o) ≡ 0 → ⊥) → (refused_by said ≡ first (checks t.entry b o)) × (t.exit ≡ t.entry) × (b' ≡ b) × (o' ≡ o)
  -- on any tables, one that is not reads and writes within what it is lent
  pub passes : first (checks t.entry b o) ≡ 0 → (read : ℕ) × (wrote : ℕ) × (said ≡ Ok (counts read wrote)) × (read ≤ length piece) × (wrote ≤ length o)
  -- where a town is open, it is sound: everything is set
  pub does : first (checks t.entry b o) ≡ 0 → Ready t.entry → (said ≡ Ok (counts (length piece - length f.rest) (length f.text))) × (t.exit ≡ f.tables) × (b' ≡ holding f.held) × (o' ≡ over f.text o)
