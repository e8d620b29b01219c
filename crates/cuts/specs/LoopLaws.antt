-- The loops over the blocks of a row and over the rows: how each begins, turns and ends. And the whole cut, laid level after level.
use Rattle.std.specs.Prelude.{ℕ, zero, suc, ◌+◌, ◌-◌, ◌*◌, ◌/◌, ◌^◌, ◌<◌, ◌≤◌, ◌≡◌, refl, List, ◌++◌, map, length, get_or, take}
use Rattle.std.proofs.Math.Path.{ap}
use Rattle.std.proofs.Common.{sym, ◌∙◌, ⊎_elim, arith, add-one, mul-le-mul_right, suc-mul, mul_comm, le_trans, le-mul_of_pos_right, zero-add, take_at, le-ltb}
use Rattle.std.proofs.Math.Nat.{sub-zero}
use Rattle.std.proofs.Math.Arith.{digits_lt}
use Rattle.std.proofs.Math.ListN.{length-append}
use Rattle.std.proofs.lemmas.List.{length-map}
use Rattle.std.proofs.lemmas.List.Edits.{sets}
use Rattle.order.specs.TestLaws.{lt-or-le}
use Rattle.squares.specs.declared.shape.Shape.{Shape}
use Rattle.squares.specs.declared.shape.Rect.{Rect}
use Rattle.squares.specs.Shape.{largest_side, side}
use Rattle.squares.specs.Leaves.{Positive}
use Rattle.squares.specs.PowerLaws.{four-pos}
use Rattle.squares.specs.ShapeLaws.{squares-small, columns-small, rows-small}
use Rattle.cuts.specs.Cut.{code, cut_on, cut_to}
use Rattle.cuts.specs.CutLaws.{length-cut-on}
use Rattle.cuts.specs.Descent.{descent, found_on, in_row, in_rows, codes_in_row, codes_in_rows}
use Rattle.cuts.specs.Lay.{laid, Lays, Apart}
use Rattle.cuts.specs.Leaves.{Room, RowRoom, RowsRoom, Placed, AllRoom, AllStores}
use Rattle.cuts.specs.LayLaws.{joined, sets-after, apart-shorter, apart-same, apart-rest, lays_more, lays-same, lays-none}
use Rattle.cuts.specs.StepLaws.{map-append}
use Rattle.cuts.specs.BlockLaws.{row-start, row_more, row-end, row-longer, rows_start, rows_more, rows_end, rows-longer, first-in, first-before, end-in, end_after}

-- ---- the blocks of a row

pub record RowTurn (s : Shape) (r : Rect) (row : ℕ) (b b' places places' : List ℕ) (column : ℕ) : Type 0 where
  pub east : column ≤ s.P
  pub lays : Lays (codes_in_row s r row column) b b' places places'

module _ {s : Shape} {r : Rect} {row d : ℕ} {places : List ℕ} (room : RowRoom s r row places) (p : Positive (side s) 32 d) where
  wide : r.a + r.w ≤ s.P * d
  wide = rw p.is room.rect.wide

  low : (i : ℕ) → i < length places → i ≤ s.k
  low i h = omega (arith, room.levels)

  pub row-short : (r.a + r.w - 1) / d + 1 ≤ largest_side
  row-short = le_trans (end-in r.a r.w s.P d p.some room.rect.columns wide) (columns-small s room.shape)

  pub row-begins : (b : List ℕ) → RowTurn s r row b b places places (r.a / d)
  row-begins b =
      let h = first-in r.a r.w s.P d p.some room.rect.columns wide in
      let g : r.a / d * side s ≤ r.a = rw (← p.is) (first-before r.a r.w s.P d p.some room.rect.columns wide) in
      record { east = h; lays = lays-none (codes_in_row s r row (r.a / d)) b places (λ i l. ap (map (code i)) (row-start s r i row (low i l) (r.a / d) h g)) }

  module _ {column : ℕ} (inside : column < (r.a + r.w - 1) / d + 1) where
    in-town : column < s.P
    in-town = omega (arith, end-in r.a r.w s.P d p.some room.rect.columns wide)

    abbrev block : ℕ → List ℕ
    block = found_on r 0 (column * d) (row * d) d (row * s.P + column)

    row-join : (i : ℕ) → i < length places → codes_in_row s r row (column + 1) i ≡ joined (codes_in_row s r row column) block i
    unfolding joined found_on
    row-join i h =
        ap (map (code i)) (ap (in_row s r i row) (add-one column) ∙ row_more s r i row (low i h) column in-town)
        ∙ map-append (code i) (in_row s r i row column) (descent r i (column * side s) (row * side s) (side s) (row * s.P + column))
        ∙ rw (le-ltb i 0 (omega arith), sub-zero i, p.is)

    row_apart : Apart (joined (codes_in_row s r row column) block) places
    row_apart = apart-same row-join (apart-shorter room.apart (λ i h. rw (length-map (in_row s r i row (column + 1)) (code i), length-map (in_row s r i row s.P) (code i)) (row-longer s r i row (column + 1) s.P (omega (arith, in-town)))))

    pub row_room : {b b' places' : List ℕ} → RowTurn s r row b b' places places' column → Room r 0 (column * d) (row * d) d (row * s.P + column) places'
    row_room {places' = places'} h =
        let n = row * s.P + column in
        let below : suc n ≤ s.P * s.Q = omega (arith, digits_lt room.north in-town, mul_comm s.P s.Q) in
        let all : suc n * 4 ^ s.k ≤ 65536 = le_trans (mul-le-mul_right (4 ^ s.k) below) (squares-small s room.shape s.k (omega arith)) in
        let deep : length places' - 1 ≡ s.k = omega (arith, h.lays.levels, room.levels) in
        let columns : s.P * d ≤ largest_side = rw p.is room.shape.wide in
        let rows : s.Q * d ≤ largest_side = rw p.is room.shape.high in
        record {
          near = record {
            east = le_trans room.rect.wide room.shape.wide;
            north = le_trans room.rect.high room.shape.high;
            right = omega (arith, mul-le-mul_right d in-town, suc-mul column d);
            over = omega (arith, mul-le-mul_right d room.north, suc-mul row d);
          };
          level = omega (arith, h.lays.levels, room.levels);
          levels = omega (arith, h.lays.levels, room.levels, room.shape.levels);
          numbers = rw deep all;
          number = le_trans (le-mul_of_pos_right (suc n) (four-pos s.k)) all;
          apart = apart-rest _ _ row_apart h.lays;
        }

    pub row-turns : {b b' b'' places' places'' : List ℕ} → RowTurn s r row b b' places places' column → Lays block b' b'' places' places'' → RowTurn s r row b b'' places places'' (column + 1)
    row-turns h l = record { east = omega (arith, in-town); lays = lays-same (λ i g. sym (row-join i g)) (lays_more _ _ row_apart h.lays l) }

  pub row_ends : {b b' places' : List ℕ} {column : ℕ} → RowTurn s r row b b' places places' column → (r.a + r.w - 1) / d + 1 ≤ column → Lays (codes_in_row s r row s.P) b b' places places'
  row_ends {column = column} h g =
      let after : r.a + r.w ≤ column * side s = rw (← p.is) (end_after r.a r.w s.P d p.some room.rect.columns wide column g) in
      lays-same (λ i l. ap (map (code i)) (row-end s r i row (low i l) column h.east after)) h.lays

-- ---- the rows

pub record RowsTurn (s : Shape) (r : Rect) (b b' places places' : List ℕ) (row : ℕ) : Type 0 where
  pub north : row ≤ s.Q
  pub lays : Lays (codes_in_rows s r row) b b' places places'

module _ {s : Shape} {r : Rect} {d : ℕ} {places : List ℕ} (room : RowsRoom s r places) (p : Positive (side s) 32 d) where
  high : r.b + r.h ≤ s.Q * d
  high = rw p.is room.rect.high

  deep : (i : ℕ) → i < length places → i ≤ s.k
  deep i h = omega (arith, room.levels)

  pub rows_short : (r.b + r.h - 1) / d + 1 ≤ largest_side
  rows_short = le_trans (end-in r.b r.h s.Q d p.some room.rect.rows high) (rows-small s room.shape)

  pub rows-begin : (b : List ℕ) → RowsTurn s r b b places places (r.b / d)
  rows-begin b =
      let g : r.b / d * side s ≤ r.b = rw (← p.is) (first-before r.b r.h s.Q d p.some room.rect.rows high) in
      record { north = first-in r.b r.h s.Q d p.some room.rect.rows high; lays = lays-none (codes_in_rows s r (r.b / d)) b places (λ i l. ap (map (code i)) (rows_start s r i (deep i l) room.shape.columns (r.b / d) g)) }

  module _ {row : ℕ} (inside : row < (r.b + r.h - 1) / d + 1) where
    row-in-town : row < s.Q
    row-in-town = omega (arith, end-in r.b r.h s.Q d p.some room.rect.rows high)

    rows_join : (i : ℕ) → i < length places → codes_in_rows s r (row + 1) i ≡ joined (codes_in_rows s r row) (codes_in_row s r row s.P) i
    unfolding joined
    rows_join i h =
        ap (map (code i)) (ap (in_rows s r i) (add-one row) ∙ rows_more s r i (deep i h) room.shape.columns row)
        ∙ map-append (code i) (in_rows s r i row) (in_row s r i row s.P)

    rows_apart : Apart (joined (codes_in_rows s r row) (codes_in_row s r row s.P)) places
    rows_apart = apart-same rows_join (apart-shorter room.apart (λ i h. rw (length-map (in_rows s r i (row + 1)) (code i), length-cut-on s r i) (rows-longer s r i (row + 1) (omega (arith, row-in-town)))))

    pub rows-room : {b b' places' : List ℕ} → RowsTurn s r b b' places places' row → RowRoom s r row places'
    rows-room h = record { shape = room.shape; rect = room.rect; north = row-in-town; levels = h.lays.levels ∙ room.levels; apart = apart-rest _ _ rows_apart h.lays }

    pub rows-turn : {b b' b'' places' places'' : List ℕ} → RowsTurn s r b b' places places' row → Lays (codes_in_row s r row s.P) b' b'' places' places'' → RowsTurn s r b b'' places places'' (row + 1)
    rows-turn h l = record { north = omega (arith, row-in-town); lays = lays-same (λ i g. sym (rows_join i g)) (lays_more _ _ rows_apart h.lays l) }

  pub rows-ends : {b b' places' : List ℕ} {row : ℕ} → RowsTurn s r b b' places places' row → (r.b + r.h - 1) / d + 1 ≤ row → Lays (cut_on s r) b b' places places'
  rows-ends {row = row} h g =
      let after : r.b + r.h ≤ row * side s = rw (← p.is) (end_after r.b r.h s.Q d p.some room.rect.rows high row g) in
      lays-same (λ i l. ap (map (code i)) (rows_end s r i (deep i l) room.shape.columns row h.north after)) h.lays

-- ---- the levels

-- each level's squares laid where they begin in the cut
laid-cut : (s : Shape) (r : Rect) (b places : List ℕ) (i : ℕ) → ((j : ℕ) → j < i → get_or places j 0 ≡ length (cut_to s r j)) → laid b (cut_on s r) places i ≡ sets b 0 (cut_to s r i)
unfolding laid cut_to
laid-cut s r b places zero h = refl
laid-cut s r b places (suc i) h = rw (laid-cut s r b places i (λ j g. h j (omega arith)), h i (omega arith), ← zero-add (length (cut_to s r i))) (sets-after b 0 (cut_to s r i) (cut_on s r i))

cut-to-longer : (s : Shape) (r : Rect) (i j : ℕ) → i ≤ j → length (cut_to s r i) ≤ length (cut_to s r j)
unfolding cut_to
cut-to-longer s r i zero h = let e : i ≡ 0 = omega arith in rw e (omega arith)
cut-to-longer s r i (suc j) h = ⊎_elim
    (λ (g : j < i). let e : i ≡ suc j = omega arith in rw e (omega arith))
    (λ (g : i ≤ j). omega (arith, cut-to-longer s r i j g, length-append (cut_to s r j) (cut_on s r j)))
    (lt-or-le j i)

module _ {s : Shape} {r : Rect} (room : AllRoom s r) where
  module _ {places : List ℕ} {t : ℕ} (levels : length places ≡ s.k + 1) (placed : Placed s r places t) where
    ends : (i : ℕ) → i < length places → get_or places i 0 + length (cut_on s r i) ≡ length (cut_to s r (suc i))
    unfolding cut_to
    ends i h = omega (arith, placed.at i (omega arith), length-append (cut_to s r i) (cut_on s r i))

    cut_apart : Apart (cut_on s r) places
    cut_apart = record {
      apart = λ i j h g. omega (arith, ends i (omega arith), placed.at j (omega arith), cut-to-longer s r (suc i) j h);
      few = λ i h. omega (arith, ends i h, cut-to-longer s r (suc i) (suc s.k) (omega arith), placed.counted.is, placed.counted.few);
    }

    -- the places at the front of an array
    pub cut-room : (rest : List ℕ) → RowsRoom s r (take (s.k + 1) (places ++ rest))
    cut-room rest = rw (take_at places rest (s.k + 1) levels) (record { shape = room.shape; rect = room.rect; levels = levels ∙ add-one s.k; apart = cut_apart })

    pub cut-laid : (rest : List ℕ) {b b' places' : List ℕ} → Lays (cut_on s r) b b' (take (s.k + 1) (places ++ rest)) places' → AllStores s r b b' t
    cut-laid rest {b} {b'} {places'} l =
        let h : Lays (cut_on s r) b b' places places' = rw (take_at places rest (s.k + 1) levels) at l in
        record {
          wrote = record {
            stored = h.stored ∙ rw (levels, add-one s.k) (laid-cut s r b places (suc s.k) (λ j g. placed.at j (omega arith)));
            next = placed.counted.is ∙ sym (zero-add (length (cut_to s r (suc s.k))));
          };
        }
