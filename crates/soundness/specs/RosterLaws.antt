-- The rosters row by row: where a zone's row stands, which cars it has, and its bytes.
use Rattle.std.specs.Int.{from_bool}
use Rattle.std.specs.Prelude.{ℕ, ◌+◌, ◌-◌, ◌*◌, ◌<◌, ◌≡◌, refl, Bool, true, false, List, T, eqb, Float, length, get_or, take, drop}
use Rattle.std.proofs.Math.Path.{fun_ext}
use Rattle.std.proofs.Common.{◌∙◌, mul-le-mul, mul-le-mul_right, suc-mul, get_or-drop}
use Rattle.std.proofs.Math.Logic.{⊎_elim}
use native.Mathlib.Omega.{arith}
use Rattle.std.proofs.Math.Arith.{digits_div, digits_mod}
use Rattle.std.specs.Float.{nan, binary32}
use Rattle.std.specs.Float.Ieee.{fits}
use Rattle.std.proofs.Math.Seq.{get_or-take}
use borrow.Rule.Slice.PartMut.{mid_len}
use Rattle.order.specs.Sums.{bit}
use Rattle.order.specs.TestLaws.{true-or-false}
use Rattle.squares.specs.declared.shape.Shape.{Shape}
use Rattle.squares.specs.declared.shape.Rect.{Rect}
use Rattle.squares.specs.Bounds.{Fits}
use Rattle.position.specs.Band.{columns_of, rows_of}
use Rattle.position.specs.BandLaws.{in-rectangle}
use Rattle.tables.specs.Tables.{rect_in, placed_in, spot_in}
use Rattle.tables.specs.Slots.{car_between}
use Rattle.tables.specs.Rows.{RowThere}
use Rattle.soundness.specs.Tests.{every, has, says, byte_right, Fitting, Riding}
use Rattle.soundness.specs.EveryLaws.{every-ext}
use Rattle.soundness.specs.ZoneLaws.{zone-down, zone-up}

pub bit-yes : (n : ℕ) (b : Bool) → b ≡ true → eqb n 1 ≡ eqb n (bit b)
bit-yes n b e = rw e

pub bit-no : (n : ℕ) (b : Bool) → b ≡ false → eqb n 0 ≡ eqb n (bit b)
bit-no n b e = rw e

-- ---- which cars a zone has

module _ (s : Shape) (zones cars : List ℕ) (spots : List Float) (z : ℕ) (r : Rect) (e : r ≡ rect_in zones z) where
  -- one that does not stand has none
  pub has-down : r.w ≡ 0 → (λ (c : ℕ). false) ≡ has s zones cars spots z
  unfolding has
  has-down f = fun_ext (λ c. ⊎_elim (λ (p : placed_in cars c ≡ true). rw (p, zone-down zones z r e f)) (λ (p : placed_in cars c ≡ false). rw p) (true-or-false (placed_in cars c)))

  -- one that stands has those in the bands of its columns and rows; every element of the table is an f32
  pub has-between : (r.w ≡ 0 → ⊥) → Fits s r → (C : ℕ) → Riding s cars spots C → ((i : ℕ) → T (fits binary32 (get_or spots i nan))) → car_between cars spots (columns_of s r) (rows_of s r) ≡ has s zones cars spots z
  unfolding has car_between
  has-between f h C g held = fun_ext (λ c. ⊎_elim
      (λ (p : placed_in cars c ≡ true). rw (p, in-rectangle g.parked.shape h (spot_in spots c) (held (2 * c)) (held (2 * c + 1)), g.fit c p, zone-up zones z r e f, e))
      (λ (p : placed_in cars c ≡ false). rw p)
      (true-or-false (placed_in cars c)))

-- ---- a zone's row

-- its bytes are right, by their places in the table
abbrev pub row_right : Shape → List ℕ → List ℕ → List Float → List ℕ → ℕ → ℕ → Bool
row_right s zones cars spots rosters C z = every (λ (c : ℕ). byte_right s zones cars spots rosters C (z * C + c)) C

module _ {s : Shape} {zones : List ℕ} {Z : ℕ} {cars : List ℕ} {spots : List Float} {C : ℕ} (f : Fitting s zones Z) (g : Riding s cars spots C) (rosters : List ℕ) (l : length rosters ≡ Z * C) (z : ℕ) (h : z < Z) where
  pub row-there : RowThere rosters z C
  row-there =
      let most = mul-le-mul_right C h in
      record {
        there = omega (arith, most, suc-mul z C);
        early = omega (arith, mul-le-mul f.zoned.few g.parked.few, most, suc-mul z C);
        few = g.parked.few;
      }

  abbrev row : List ℕ
  row = take (z * C + C - z * C) (drop (z * C) rosters)

  pub row-long : length row ≡ C
  row-long = let d : z * C + C - z * C ≡ C = omega arith in mid_len (z * C) (z * C + C) rosters row-there.there ∙ d

  pub row-bytes : says row (has s zones cars spots z) ≡ row_right s zones cars spots rosters C z
  unfolding says byte_right
  row-bytes = rw row-long (every-ext _ _ C (λ (c : ℕ) (b : c < C). let d : c < z * C + C - z * C = omega arith in rw (digits_div z b, digits_mod z b, get_or-take (z * C + C - z * C) (drop (z * C) rosters) c 0 d, get_or-drop)))

-- the byte that says yes or no
pub byte-bit : (b : Bool) → from_bool b ≡ bit b
byte-bit true = refl
byte-bit false = refl
