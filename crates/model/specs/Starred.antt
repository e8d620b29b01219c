-- Document 01's starred cases, one table: each row is what the definitions give and what the document says. At the outer walls document 02 decides, by its request 3.
use Rattle.std.specs.Prelude.{ℕ, ◌%◌, ◌≡◌, refl, true, List, [], ◌∷◌, ◌++◌, map, length}
use Rattle.std.proofs.Math.Option.{some}
use Rattle.std.specs.Float.{binary32}
use Rattle.std.specs.Float.Ieee.{is_nan, of_bits, to_bits}
use Rattle.order.specs.Order.{upto, span, keep}
use Rattle.squares.specs.declared.shape.Shape.{Shape}
use Rattle.squares.specs.Shape.{shape}
use Rattle.squares.specs.Squares.{number, corner_x, corner_y, squares, interleave, evens}
use Rattle.cuts.specs.Cut.{code, cut, cut_to, cut_on, in_cut, inside}
use Rattle.squares.specs.Refusals.{first, fields}
use Rattle.grid.specs.Promises.{number_gives}
use Rattle.position.specs.declared.Position.{Position}
use Rattle.position.specs.Cell.{whole, in_range, on_map, cell_of}
use Rattle.position.specs.Answer.{on_town, column_of, row_of}
use Rattle.model.specs.Model.{nowhere, searching, emptied, after, looked, meaning, refusal}
use Rattle.model.specs.declared.opening.Opening.{Opening}
use Rattle.model.specs.Whole.{rect}

-- k=2, P=Q=4; k=0, P=3, Q=2; 256 wide and high; k=2, P=3, Q=2: 12 wide
unfoldable pub town : Shape
town = shape 2 4 4

unfoldable pub row : Shape
row = shape 0 3 2

unfoldable pub wide : Shape
wide = shape 0 256 256

unfoldable pub twelve : Shape
twelve = shape 2 3 2

-- the southwest corner's number on a level, as the call answers it: 0 and the number, or the refusal and 0
abbrev numbered : ℕ → ℕ → ℕ → List ℕ
numbered level x y = fields 1 (number_gives town level x y).answer

-- a position in the middle of a cell: the floats with these halves
unfoldable pub middle : ℕ → ℕ → Position
middle x y = record { x = of_bits binary32 x; y = of_bits binary32 y }

-- squares looked into by a report from one position to another
abbrev looked_into : Position → Position → ℕ
looked_into p q = looked town (some (record { position = p; team = 0 })) q

-- the cell of a float's bits as x in a town, and the number that refuses a search there, or 0
abbrev searched : Shape → ℕ → ℕ
searched s bits = refusal (record { own = true; asked = λ (o : Opening). true }) (after (emptied (record { shape = s; zones = 1; cars = 1; entries = 1 })) nowhere) (searching (middle bits 0) (0 ∷ []))

abbrev cell_at : Shape → ℕ → List ℕ
cell_at s bits = column_of s (middle bits 0) ∷ searched s bits ∷ []

-- what the definitions give, and what the document says
pub record Case : Type 0 where
  pub given : List ℕ
  pub says : List ℕ

-- 41080000 is 8.5, 41180000 is 9.5, 3FC00000 is 1.5, 40B00000 is 5.5; 41800000 is 16, 41400000 is 12, 417FFFFF and 413FFFFF are the floats below them
unfoldable pub table : List Case
table =
    record { given = number town 2 10 11 ∷ number town 1 10 11 ∷ number town 0 10 11 ∷ []; says = 174 ∷ 43 ∷ 10 ∷ [] }
    ∷ record { given = numbered 1 10 10 ++ numbered 1 9 10; says = 0 ∷ 43 ∷ 13 ∷ 0 ∷ [] }
    ∷ record { given = length (cut town (rect 5 2 8 12)) ∷ map (λ (i : ℕ). length (cut_on town (rect 5 2 8 12) i)) (upto 3); says = 36 ∷ 2 ∷ 10 ∷ 24 ∷ [] }
    ∷ record { given = cut town (rect 0 0 16 16); says = upto 16 }
    ∷ record { given = cut town (rect 0 0 1 1); says = code 2 0 ∷ [] }
    ∷ record { given = squares town ∷ []; says = 336 ∷ [] }
    ∷ record { given = looked_into (middle 0x4108_0000 0x4108_0000) (middle 0x4118_0000 0x4108_0000) ∷ []; says = 2 ∷ [] }
    ∷ record { given = looked_into (middle 0x3FC0_0000 0x3FC0_0000) (middle 0x40B0_0000 0x3FC0_0000) ∷ number town 2 1 1 % 16 ∷ number town 2 5 1 % 16 ∷ []; says = 6 ∷ 3 ∷ 3 ∷ [] }
    ∷ record { given = cut row (rect 1 0 2 2); says = 1 ∷ 2 ∷ 4 ∷ 5 ∷ [] }
    ∷ record { given = cell_at wide 0x3F7F_FFFF ++ cell_at wide 0x0000_0001; says = 0 ∷ 0 ∷ 0 ∷ 0 ∷ [] }
    ∷ record { given = cell_at wide 0x3F80_0000; says = 1 ∷ 0 ∷ [] }
    ∷ record { given = cell_at wide 0x437F_FFFF; says = 255 ∷ 0 ∷ [] }
    ∷ record { given = cell_at wide 0x4380_0000 ++ searched wide 0x4380_0001 ∷ []; says = 255 ∷ 0 ∷ 10 ∷ [] }
    ∷ record { given = cell_at twelve 0x413F_FFFF ++ cell_at twelve 0x4140_0000 ++ searched twelve 0x4140_0001 ∷ []; says = 11 ∷ 0 ∷ 11 ∷ 0 ∷ 10 ∷ [] }
    ∷ record { given = looked_into (middle 0x4180_0000 0x4108_0000) (middle 0x417F_FFFF 0x4108_0000) ∷ []; says = 0 ∷ [] }
    ∷ []

pub cases : map (λ (c : Case). c.given) table ≡ map (λ (c : Case). c.says) table
unfolding table town row wide twelve rect middle number cut_to in_cut inside corner_x corner_y interleave evens keep span number_gives first meaning on_town column_of row_of on_map in_range whole cell_of of_bits to_bits is_nan
cases = refl
