-- What the functions that find, count and test a cut ask and promise.
use Rattle.std.specs.Prelude.{ℕ, suc, ◌+◌, ◌-◌, ◌*◌, ◌^◌, ◌<◌, ◌≤◌, ◌≡◌, Bool, true, false, List, length, get_or}
use Rattle.order.specs.Order.{Wrote}
use Rattle.squares.specs.declared.shape.Shape.{Shape}
use Rattle.squares.specs.declared.shape.Rect.{Rect}
use Rattle.squares.specs.Shape.{largest_k, largest_side, within}
use Rattle.squares.specs.Bounds.{Allowed, Fits}
use Rattle.squares.specs.Squares.{squares_on}
use Rattle.cuts.specs.Cut.{cut_on, cut_to, cut}
use Rattle.cuts.specs.Descent.{found_on, codes_in_row}
use Rattle.cuts.specs.Lay.{Lays, Apart}
use Rattle.squares.specs.Leaves.{Near, meets}

-- what looking at square n of level i asks: each level from 0 to the lowest has a place
pub record Room (r : Rect) (i x y d n : ℕ) (places : List ℕ) : Type 0 where
  pub near : Near r x y d
  pub level : i < length places
  pub levels : length places ≤ 6
  pub numbers : suc n * 4 ^ (length places - suc i) ≤ 65536
  pub number : n < 65536
  pub apart : Apart (found_on r i x y d n) places

-- a square that shares a cell with the rectangle, is not inside, and has children
pub record Crossed (r : Rect) (i x y d n : ℕ) (places : List ℕ) : Type 0 where
  pub room : Room r i x y d n places
  pub outside : within r x y d ≡ false
  pub shares : meets r x y d ≡ true
  pub above : i + 1 < length places

-- a square looked at: nothing was stored and its children are to be looked at, or all that is found in it was stored
pub record Takes (r : Rect) (i x y d n : ℕ) (b b' places places' : List ℕ) (t : Bool) : Type 0 where
  pub goes_on : t ≡ true → (b' ≡ b) × (places' ≡ places) × Crossed r i x y d n places
  pub ends : t ≡ false → Lays (found_on r i x y d n) b b' places places'

-- a row of blocks, all rows and the whole cut: what their functions ask, and what they have stored
pub record RowRoom (s : Shape) (r : Rect) (row : ℕ) (places : List ℕ) : Type 0 where
  pub shape : Allowed s
  pub rect : Fits s r
  pub north : row < s.Q
  pub levels : length places ≡ suc s.k
  pub apart : Apart (codes_in_row s r row s.P) places

pub record RowsRoom (s : Shape) (r : Rect) (places : List ℕ) : Type 0 where
  pub shape : Allowed s
  pub rect : Fits s r
  pub levels : length places ≡ suc s.k
  pub apart : Apart (cut_on s r) places

pub record AllRoom (s : Shape) (r : Rect) : Type 0 where
  pub shape : Allowed s
  pub rect : Fits s r

pub record AllStores (s : Shape) (r : Rect) (b b' : List ℕ) (t : ℕ) : Type 0 where
  pub wrote : Wrote b b' 0 t (cut s r)

-- a stretch on the map, taken in steps of 2 ^ j
pub record Stretch (a w j : ℕ) : Type 0 where
  pub short : a + w ≤ largest_side
  pub step : j ≤ largest_k

-- how many squares a cut has
pub record Counted (s : Shape) (r : Rect) (t : ℕ) : Type 0 where
  pub is : t ≡ length (cut s r)
  pub few : t ≤ 87381

-- where the squares of each level begin in the cut
pub record PlacesRoom (s : Shape) (r : Rect) (places : List ℕ) : Type 0 where
  pub shape : Allowed s
  pub rect : Fits s r
  pub levels : length places ≡ suc s.k

pub record Placed (s : Shape) (r : Rect) (places : List ℕ) (t : ℕ) : Type 0 where
  pub at : (i : ℕ) → i ≤ s.k → get_or places i 0 ≡ length (cut_to s r i)
  pub counted : Counted s r t

-- a square of the town and a rectangle in it
pub record Both (s : Shape) (r : Rect) (i n : ℕ) : Type 0 where
  pub shape : Allowed s
  pub rect : Fits s r
  pub level : i ≤ s.k
  pub number : n < squares_on s i
