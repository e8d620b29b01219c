-- The cars that come on a zone's row and go from it as it is set anew, over plain lists.
use Rattle.std.specs.Prelude.{ℕ, ◌+◌, ◌*◌, ◌≤◌, ◌≡◌, Bool, cond, not, ◌&&◌, List, [], ◌∷◌, map, ltb, Float, length, get_or}
use Rattle.std.proofs.lemmas.List.Edits.{sets}
use Rattle.order.specs.Order.{upto, keep, over, Wrote}
use Rattle.order.specs.Sums.{bit}
use Rattle.squares.specs.declared.shape.Shape.{Shape}
use Rattle.squares.specs.declared.shape.Rect.{Rect}
use Rattle.tables.specs.Rows.{marked}
use Rattle.rosters.specs.Inside.{car_within, row_in}

-- one byte is a mark and another is none
abbrev pub fresh : ℕ → ℕ → Bool
fresh byte other = ltb 0 byte && not (ltb 0 other)

-- car c stored at place `at` where that is so
pub record Notes (byte other c : ℕ) (b b' : List ℕ) (at r : ℕ) : Type 0 where
  pub wrote : Wrote b b' at r (cond (fresh byte other) (c ∷ []) [])
  pub most : r ≤ at + 1

-- car c's byte turned from one to another: the car stored in one buffer where it comes, in the other where it goes
pub record Turns (old byte c : ℕ) (b b' f f' : List ℕ) (n m n' m' : ℕ) : Type 0 where
  pub came : Notes byte old c b b' n n'
  pub went : Notes old byte c f f' m m'

-- a row's byte is a mark
abbrev pub byte_on : List ℕ → ℕ → Bool
byte_on row c = ltb 0 (get_or row c 0)

-- those of so many cars that pass one test and not another
abbrev pub only : (ℕ → Bool) → (ℕ → Bool) → ℕ → List ℕ
only p q many = keep (λ (c : ℕ). p c && not (q c)) (upto many)

-- each byte of a row set by a test, the cars that come by it and those that go stored
pub record Rides (p : ℕ → Bool) (row row' b b' f f' : List ℕ) (n m : ℕ) : Type 0 where
  pub written : row' ≡ map (λ (c : ℕ). bit (p c)) (upto (length row))
  pub came : Wrote b b' 0 n (only p (byte_on row) (length row))
  pub went : Wrote f f' 0 m (only (byte_on row) p (length row))

pub record RowRidden (s : Shape) (cars : List ℕ) (spots : List Float) (r : Rect) (rosters rosters' : List ℕ) (z many : ℕ) (b b' f f' : List ℕ) (n m : ℕ) : Type 0 where
  pub written : rosters' ≡ sets rosters (z * many) (row_in s cars spots r many)
  -- cars that are in the rectangle and had no mark; cars that had one and are not
  pub came : b' ≡ over (keep (λ (c : ℕ). car_within s cars spots r c && not (marked rosters (z * many) c)) (upto many)) b
  pub came-count : n ≡ length (keep (λ (c : ℕ). car_within s cars spots r c && not (marked rosters (z * many) c)) (upto many))
  pub went : f' ≡ over (keep (λ (c : ℕ). marked rosters (z * many) c && not (car_within s cars spots r c)) (upto many)) f
  pub went-count : m ≡ length (keep (λ (c : ℕ). marked rosters (z * many) c && not (car_within s cars spots r c)) (upto many))
