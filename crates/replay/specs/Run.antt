-- Calls one after another from the program's own start: what was read, and what was put into the buffers.
use Rattle.std.specs.Prelude.{ℕ, ◌*◌, List, [], ◌∷◌, ◌++◌, length, take, replicate}
use Rattle.std.specs.declared.result.Result.TheVariants.{Ok}
use Rattle.std.specs.Float.{binary32}
use Rattle.std.specs.Float.Ieee.{of_bits}
use Rattle.tables.specs.Tables.{Tables, tables, tally}
use Rattle.tables.specs.Lent.{both}
use Rattle.season.specs.Output.{Line}
use Rattle.records.specs.Replies.{tables_after}
use Rattle.pieces.specs.Pieces.{held_in, holding, fill, counts, Fills}

-- the program's tables at the start: every number is 0
abbrev pub start : Tables
start =
    tables
    (replicate 6 0)
    (replicate 64 0)
    (replicate 64 0)
    (replicate 128 (of_bits binary32 0))
    (replicate 5462 0)
    (replicate 2048 0)
    (replicate 1024 0)
    (replicate (16 * tally) 0)

-- the tables after lines, one after another
unfoldable pub after_lines : Tables → List Line → Tables
after_lines t [] = t
after_lines t (line ∷ lines) = after_lines (tables_after t line) lines

-- the bytes that were read, those that were put into the buffers, the tables and the bytes held then. Pieces and buffers are any
pub data Ran : List ℕ → List ℕ → Tables → List ℕ → Type 0 where
  begun : Ran [] [] start (holding [])
  goes : {input text piece b b' o o' : List ℕ} {t t' : Tables} {read wrote : ℕ} → Ran input text t b → Fills (fill (length o) t (held_in b) piece) (both t t') piece b b' o o' (Ok (counts read wrote)) → Ran (input ++ take read piece) (text ++ take wrote o') t' b'
