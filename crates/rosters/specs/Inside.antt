-- The cars in a rectangle, over plain lists.
use Rattle.std.specs.Prelude.{ℕ, ◌*◌, ◌≡◌, Bool, ◌&&◌, List, map, Float, length}
use Rattle.std.proofs.lemmas.List.Edits.{sets}
use Rattle.order.specs.Order.{upto, keep}
use Rattle.order.specs.Sums.{bit}
use Rattle.squares.specs.declared.shape.Shape.{Shape}
use Rattle.squares.specs.declared.shape.Rect.{Rect}
use Rattle.squares.specs.Shape.{holds}
use Rattle.position.specs.Answer.{on_town, column_of, row_of}
use Rattle.tables.specs.Tables.{placed_in, spot_in}

-- a car is placed, at a position on the map, and its cell lies in the rectangle
unfoldable pub car_within : Shape → List ℕ → List Float → Rect → ℕ → Bool
car_within s cars spots r c = placed_in cars c && (on_town s (spot_in spots c) && holds r (column_of s (spot_in spots c)) (row_of s (spot_in spots c)))

-- a byte for each of so many cars
abbrev pub row_in : Shape → List ℕ → List Float → Rect → ℕ → List ℕ
row_in s cars spots r many = map (λ (c : ℕ). bit (car_within s cars spots r c)) (upto many)

-- how many of them are in the rectangle
abbrev pub count_in : Shape → List ℕ → List Float → Rect → ℕ → ℕ
count_in s cars spots r many = length (keep (car_within s cars spots r) (upto many))

-- each byte of a row set by a test, which n of its cars pass
pub record Marks (p : ℕ → Bool) (row row' : List ℕ) (n : ℕ) : Type 0 where
  pub written : row' ≡ map (λ (c : ℕ). bit (p c)) (upto (length row))
  pub count : n ≡ length (keep p (upto (length row)))

pub record RowMarked (s : Shape) (cars : List ℕ) (spots : List Float) (r : Rect) (rosters rosters' : List ℕ) (z many n : ℕ) : Type 0 where
  pub written : rosters' ≡ sets rosters (z * many) (row_in s cars spots r many)
  pub count : n ≡ count_in s cars spots r many
