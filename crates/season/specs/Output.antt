-- The log as a whole: what is written for an input, from the meaning of its lines and the model of the calls.
use Rattle.std.specs.Prelude.{ℕ, true, ◌&&◌, List, [], ◌∷◌, ◌++◌, map, leb, replicate}
use Rattle.std.proofs.Math.Option.{Option, none, some}
use Rattle.std.specs.Float.{binary32}
use Rattle.std.specs.Float.Ieee.{of_bits}
use Rattle.squares.specs.Shape.{shape, allowed, width, height}
use Rattle.position.specs.declared.Position.{Position}
use Rattle.model.specs.Model.{Town, nowhere, Call, opening, adding, removing, reporting, leaving, searching, ask_roster, Event, change, after, Lengths, outcome}
use Rattle.model.specs.declared.opening.Opening.{Opening}
use Rattle.line.specs.declared.records.Record.{Record}
use Rattle.line.specs.declared.records.Record.TheVariants.{Bad, Open, Add, Remove, Report, Leave, Search, Roster}
use Rattle.line.specs.Grammar.{meaning}
use Rattle.line.specs.Lines.{lines}
use Rattle.print.specs.Text.{number, answer}
use Rattle.texts.specs.Texts.{Letter, text_of}

-- ---- a line

-- the position with these bits
abbrev pub position_of : ℕ → ℕ → Position
position_of x y = record { x = of_bits binary32 x; y = of_bits binary32 y }

-- the opening of an M: 16 zones, 64 cars, 2,048 entries
abbrev pub opening_of : ℕ → ℕ → ℕ → Opening
opening_of k P Q = record { shape = shape k P Q; zones = 16; cars = 64; entries = 2048 }

-- a buffer of the program's
abbrev pub blank : ℕ → List ℕ
blank n = replicate n 0

-- what a line asks: a letter and a call, or nothing
abbrev pub Line : Type 0
Line = Option (Letter × Call)

-- a log has no teams: every car reports team 0
abbrev pub call_of : Record → Line
call_of Bad = none
call_of (Open k P Q) = some (Letter.M, opening (opening_of k P Q))
call_of (Add z a b w h) = some (Letter.A, adding z (record { a = a; b = b; w = w; h = h }))
call_of (Remove z) = some (Letter.D, removing z)
call_of (Report c x y) = some (Letter.P, reporting c 0 (position_of x y) (blank 16) (blank 16))
call_of (Leave c) = some (Letter.L, leaving c (blank 16))
call_of (Search x y) = some (Letter.S, searching (position_of x y) (blank 16))
call_of (Roster z) = some (Letter.R, ask_roster z (blank 64))

abbrev pub line_of : List ℕ → Line
line_of bytes = call_of (meaning bytes)

-- ---- its answer

-- what a call is told of the lengths: they pass where a town is open; for an open there is room for 64 by 64
abbrev pub room_of : Town → Lengths
room_of m = record { own = allowed m.opening.shape; asked = λ (o : Opening). leb (width o.shape) 64 && leb (height o.shape) 64 }

-- what a call leaves
abbrev pub outcome_of : Town → Call → Event
outcome_of m call = outcome (room_of m) true m call

-- the text of the answer; a line that is no record answers ? and 14
abbrev pub reply : Town → Line → List ℕ
reply m none = answer 63 (number 14 ∷ [])
reply m (some line) = text_of line.0 (outcome_of m line.1).result.answer (outcome_of m line.1).result.buffers

-- the town then; a refusal changes nothing
abbrev pub town_after : Town → Line → Town
town_after m none = m
town_after m (some line) = after (change (outcome_of m line.1)) m

-- ---- the whole

-- the answers of lines, one after another
unfoldable pub answers : Town → List Line → List ℕ
answers m [] = []
answers m (line ∷ rest) = reply m line ++ answers (town_after m line) rest

-- what is written for an input: at its start no town is open
unfoldable pub output : List ℕ → List ℕ
output input = answers nowhere (map line_of (lines input))
