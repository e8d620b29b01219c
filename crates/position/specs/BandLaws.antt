-- An f32 is one of a stretch's floats exactly where it is on the map and its cell is one of the stretch. Assumes nothing.
use Rattle.std.specs.Prelude.{ℕ, ◌+◌, ◌-◌, ◌*◌, ◌/◌, ◌<◌, ◌≤◌, min, ◌≡◌, refl, ◌⊎◌, Bool, true, false, not, ◌&&◌, ◌||◌, cond, T, leb, eqb, Float}
use Rattle.std.proofs.Common.{sym, inl, inr, ⊎_elim, mul-le-mul, le_refl, le_of_lt, div-lt_iff_lt-mul, le-div_iff_mul-le, mul-div_cancel, arith, eq-eqb, lt-ltb, le-leb, leb-true, ltb-true, eqb-true}
use Rattle.std.proofs.Math.Bool.{and-false, or-true}
use Rattle.std.proofs.Math.Dec.{ltb}
use Rattle.std.proofs.lemmas.Bool.{eqb-false}
use Rattle.std.specs.Float.{nan, inf, fin, binary32}
use Rattle.std.specs.Float.Ieee.{up, down, fits}
use Rattle.std.specs.Float.Ieee.Fits.{down_pos}
use Rattle.order.specs.TestLaws.{lt-or-le, and→, both_ways, true-or-false}
use Rattle.squares.specs.declared.shape.Shape.{Shape}
use Rattle.squares.specs.declared.shape.Rect.{Rect}
use Rattle.squares.specs.Shape.{width, height, holds}
use Rattle.squares.specs.Bounds.{Allowed, Fits}
use Rattle.position.specs.declared.Position.{Position}
use Rattle.position.specs.Answer.{on_town, column_of, row_of}
use Rattle.position.specs.Cell.{on_map, cell_of}
use Rattle.position.specs.Exact.{map-exact, cell-exact, nan-off, inf-off}
use Rattle.position.specs.Band.{Stretch, float, band_of, columns_of, rows_of, in_band, in_bands}
use Rattle.position.specs.WholeLaws.{plus, le-whole, lt-whole, eq-whole, whole-finite, le-nan}

-- ---- the value v / d against the band's numbers, and its cell against the stretch

or→ : (a b : Bool) → (a || b) ≡ true → (a ≡ true) ⊎ (b ≡ true)
or→ true b e = inl refl
or→ false b e = inr e

-- the number of the band's wall: the side where the stretch reaches it, else its first cell
abbrev Wall : ℕ → ℕ → ℕ → ℕ → Type 0
Wall a w side wall = ((a + w ≡ side) × (wall ≡ side)) ⊎ ((a + w < side) × (wall ≡ a))

module _ (a w side wall v d : ℕ) (h : Stretch a w side) (dp : 0 < d) (end : Wall a w side wall) where
  abbrev cell : ℕ
  cell = min (v / d) (side - 1)

  abbrev floats : Bool
  floats = leb (a * d) v && (ltb v ((a + w) * d) || eqb v (wall * d))

  abbrev cells : Bool
  cells = leb v (side * d) && (leb a cell && ltb cell (a + w))

  among : v ≤ side * d → (a ≤ cell) × (cell < a + w) → cells ≡ true
  among x y = rw (le-leb _ _ x, le-leb _ _ y.0, lt-ltb _ _ y.1)

  into : floats ≡ true → cells ≡ true
  into e =
      let p = and→ (leb (a * d) v) _ e in
      let low : a ≤ v / d = (le-div_iff_mul-le dp).1 (leb-true (a * d) v p.0) in
      ⊎_elim
      (λ (q : ltb v ((a + w) * d) ≡ true).
      let high : v / d < a + w = (div-lt_iff_lt-mul dp).1 (ltb-true v ((a + w) * d) q) in
      let on : v / d < side = omega (arith, h.within) in
      among (le_of_lt ((div-lt_iff_lt-mul dp).0 on)) (omega arith, omega arith))
      (λ (q : eqb v (wall * d) ≡ true).
      let is = eqb-true v (wall * d) q in
      let floor : v / d ≡ wall = rw is (mul-div_cancel wall dp) in
      let on : (wall ≤ side) × ((a ≤ cell) × (cell < a + w)) = ⊎_elim (λ (k : (a + w ≡ side) × (wall ≡ side)). (omega arith, (omega (arith, h.some), omega (arith, h.some)))) (λ (k : (a + w < side) × (wall ≡ a)). (omega arith, (omega arith, omega (arith, h.some)))) end in
      among (rw is (mul-le-mul on.0 (le_refl d))) on.1)
      (or→ _ _ p.1)

  back : cells ≡ true → floats ≡ true
  back e =
      let p = and→ (leb v (side * d)) _ e in
      let q = and→ (leb a cell) _ p.1 in
      let x : v ≤ side * d = leb-true _ _ p.0 in
      let y : a ≤ cell = leb-true _ _ q.0 in
      let z : cell < a + w = ltb-true _ _ q.1 in
      ⊎_elim
      (λ (l : v < side * d).
      let on : v / d < side = (div-lt_iff_lt-mul dp).1 l in
      let low : a ≤ v / d = omega arith in
      let high : v / d < a + w = omega arith in
      rw (le-leb _ _ ((le-div_iff_mul-le dp).0 low), lt-ltb _ _ ((div-lt_iff_lt-mul dp).0 high)))
      (λ (l : side * d ≤ v).
      let is : v ≡ side * d = omega arith in
      let floor : v / d ≡ side = rw is (mul-div_cancel side dp) in
      let low : a ≤ v / d = omega (arith, h.within) in
      let wall-is : wall ≡ side = ⊎_elim (λ (k : (a + w ≡ side) × (wall ≡ side)). k.1) (λ (k : (a + w < side) × (wall ≡ a)). absurd (omega arith)) end in
      rw (le-leb _ _ ((le-div_iff_mul-le dp).0 low), wall-is, eq-eqb _ _ is, or-true))
      (lt-or-le v (side * d))

  number_in : floats ≡ cells
  number_in = both_ways _ _ into back

-- ---- a stretch's floats

not-both : (t : Bool) → (not t && (t || false)) ≡ false
not-both true = refl
not-both false = refl

module _ (a w side : ℕ) (h : Stretch a w side) where
  abbrev wall : ℕ
  wall = cond (eqb (a + w) side) side a

  wall-is : Wall a w side wall
  wall-is = go (eqb (a + w) side) refl
    where
      go : (t : Bool) → eqb (a + w) side ≡ t → Wall a w side (cond t side a)
      go true e = inl (eqb-true (a + w) side e, refl)
      go false e = inr (omega (arith, h.within, eqb-false (a + w) side e), refl)

  bounds : (a ≤ 256) × ((a + w ≤ 256) × (wall ≤ 256))
  bounds = (omega (arith, h.within, h.small), (omega (arith, h.within, h.small), ⊎_elim (λ (k : (a + w ≡ side) × (wall ≡ side)). omega (arith, h.small)) (λ (k : (a + w < side) × (wall ≡ a)). omega (arith, h.small)) wall-is))

  pub band-cell : (x : Float) → T (fits binary32 x) → in_band (band_of a w side) x ≡ (on_map side x && (leb a (cell_of side x) && ltb (cell_of side x) (a + w)))
  band-cell nan held = rw (le-nan (float a), nan-off side)
  band-cell (inf t) held = rw ((whole-finite a bounds.0 t).0, (whole-finite (a + w) bounds.1.0 t).1, (whole-finite wall bounds.1.1 t).2, inf-off t side) (not-both t)
  band-cell (fin s m e) held = ⊎_elim
      (λ (z : plus s (m * up e) ≡ true). rw (le-whole a bounds.0 s m e, lt-whole (a + w) bounds.1.0 s m e z, eq-whole wall bounds.1.1 s m e z, map-exact s m e held side, cell-exact s m e held side, z) (number_in a w side wall (m * up e) (down e) h (down_pos e) wall-is))
      (λ (z : plus s (m * up e) ≡ false). rw (le-whole a bounds.0 s m e, map-exact s m e held side, z))
      (true-or-false (plus s (m * up e)))

-- ---- a rectangle's columns and rows

regrouped : (m l t n u : Bool) → ((m && (l && t)) && (n && u)) ≡ ((m && n) && (l && (t && u)))
regrouped true true true n u = refl
regrouped true true false n u = sym (and-false n)
regrouped true false t n u = sym (and-false n)
regrouped false l t n u = refl

module _ {s : Shape} {r : Rect} (h : Allowed s) (f : Fits s r) where
  columns-stretch : Stretch r.a r.w (width s)
  columns-stretch = record { some = f.columns; within = f.wide; small = h.wide }

  rows-stretch : Stretch r.b r.h (height s)
  rows-stretch = record { some = f.rows; within = f.high; small = h.high }

  -- a position's floats are theirs where it is on the map and the rectangle holds its cell
  pub in-rectangle : (p : Position) → T (fits binary32 p.x) → T (fits binary32 p.y) → in_bands (columns_of s r) (rows_of s r) p ≡ (on_town s p && holds r (column_of s p) (row_of s p))
  unfolding in_bands columns_of rows_of on_town column_of row_of
  in-rectangle p x y = rw (band-cell r.a r.w (width s) columns-stretch p.x x, band-cell r.b r.h (height s) rows-stretch p.y y) (regrouped (on_map (width s) p.x) (leb r.a (column_of s p)) (ltb (column_of s p) (r.a + r.w)) (on_map (height s) p.y) (leb r.b (row_of s p) && ltb (row_of s p) (r.b + r.h)))
