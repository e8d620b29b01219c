-- How the cut is found: down from a block, past no square that lies outside the rectangle or inside it.
use Rattle.std.specs.Prelude.{ℕ, zero, suc, ◌+◌, ◌-◌, ◌*◌, ◌/◌, ◌^◌, cond, List, [], ◌∷◌, ◌++◌, map, ltb}
use Rattle.order.specs.Order.{span, keep}
use Rattle.squares.specs.declared.shape.Shape.{Shape}
use Rattle.squares.specs.declared.shape.Rect.{Rect}
use Rattle.squares.specs.Shape.{within}
use Rattle.cuts.specs.Cut.{in_cut, code}
use Rattle.squares.specs.Leaves.{meets}

-- what is found m levels below the square with number n, corner (x, y) and side d
unfoldable pub descent : Rect → ℕ → ℕ → ℕ → ℕ → ℕ → List ℕ
descent r zero x y d n = cond (within r x y d) (n ∷ []) []
descent r (suc m) x y d n =
    let half = d / 2 in
    cond (meets r x y d)
    (cond (within r x y d)
    []
    (descent r m x y half (4 * n) ++ (descent r m (x + half) y half (4 * n + 1) ++ (descent r m x (y + half) half (4 * n + 2) ++ descent r m (x + half) (y + half) half (4 * n + 3)))))
    []

-- the codes of what is found on level j in square n of level i, with corner (x, y) and side d
unfoldable pub found_on : Rect → ℕ → ℕ → ℕ → ℕ → ℕ → ℕ → List ℕ
found_on r i x y d n j = cond (ltb j i) [] (map (code j) (descent r (j - i) x y d n))

-- the squares of the cut on level i in the first so many blocks of a row, and in the first so many rows
unfoldable pub in_row : Shape → Rect → ℕ → ℕ → ℕ → List ℕ
in_row s r i row column = keep (in_cut s r i) (span (row * s.P * 4 ^ i) (column * 4 ^ i))

unfoldable pub in_rows : Shape → Rect → ℕ → ℕ → List ℕ
in_rows s r i row = keep (in_cut s r i) (span 0 (row * s.P * 4 ^ i))

-- their codes
abbrev pub codes_in_row : Shape → Rect → ℕ → ℕ → ℕ → List ℕ
codes_in_row s r row column i = map (code i) (in_row s r i row column)

abbrev pub codes_in_rows : Shape → Rect → ℕ → ℕ → List ℕ
codes_in_rows s r row i = map (code i) (in_rows s r i row)
