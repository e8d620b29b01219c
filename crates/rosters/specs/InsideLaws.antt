-- How a car in a rectangle is found, and how a row of cars is marked.
use Rattle.std.specs.Prelude.{ℕ, suc, ◌+◌, ◌-◌, ◌*◌, ◌<◌, ◌≤◌, ◌≡◌, refl, Bool, true, false, ◌&&◌, List, map, T, Float, length, get_or}
use Rattle.std.proofs.Math.Path.{ap, fun_ext}
use Rattle.std.proofs.Common.{ap₂, ◌∙◌, arith, add-one}
use Rattle.std.specs.Int.{from_bool}
use Rattle.std.specs.Float.{nan, binary32}
use Rattle.std.specs.Float.Ieee.{fits}
use Rattle.std.proofs.Math.ListN.{set}
use Rattle.std.proofs.lemmas.List.{length-map}
use Rattle.std.proofs.lemmas.List.Edits.{sets}
use borrow.Rule.Slice.PartMut.{mid_of, put_mid, mid_len}
use Rattle.order.specs.Order.{upto, span, keep}
use Rattle.order.specs.Sums.{sum, bit}
use Rattle.order.specs.KeepLaws.{length-span}
use Rattle.order.specs.SumLaws.{count-sum}
use Rattle.squares.specs.declared.shape.Shape.{Shape}
use Rattle.squares.specs.declared.shape.Rect.{Rect}
use Rattle.squares.specs.Bounds.{Allowed, Fits}
use Rattle.position.specs.Band.{columns_of, rows_of}
use Rattle.position.specs.BandLaws.{in-rectangle}
use Rattle.tables.specs.Slots.{car_between}
use Rattle.tables.specs.Tables.{placed_in, spot_in}
use Rattle.tables.specs.Rows.{RowThere}
use Rattle.rosters.specs.Inside.{car_within, row_in, Marks, RowMarked}
use Rattle.tables.specs.RowLaws.{part-stored}
use Rattle.order.specs.SetLaws.{Setting, set-begins, set-turns, set-ends}

-- ---- a car

-- the bands of a rectangle's columns and rows say who is in it; every element of the table is an f32
pub by-bands : {s : Shape} {r : Rect} → Allowed s → Fits s r → (cars : List ℕ) (spots : List Float) → ((i : ℕ) → T (fits binary32 (get_or spots i nan))) → car_between cars spots (columns_of s r) (rows_of s r) ≡ car_within s cars spots r
unfolding car_between car_within
by-bands h f cars spots held = fun_ext (λ c. ap (λ (t : Bool). placed_in cars c && t) (in-rectangle h f (spot_in spots c) (held (2 * c)) (held (2 * c + 1))))

-- the byte that says yes or no
pub byte-bit : (b : Bool) → from_bool b ≡ bit b
byte-bit true = refl
byte-bit false = refl

bit-small : (b : Bool) → bit b ≤ 1
bit-small true = omega arith
bit-small false = omega arith

-- ---- a row of cars

-- the first c cars are marked; n of them pass the test
pub record Marking (p : ℕ → Bool) (row row' : List ℕ) (n c : ℕ) : Type 0 where
  pub set : Setting (λ (i : ℕ). bit (p i)) row row' c
  pub count : n ≡ length (keep p (upto c))
  pub few : n ≤ c

pub mark-begins : (p : ℕ → Bool) (row : List ℕ) → Marking p row row 0 0
unfolding span keep
mark-begins p row = record { set = set-begins (λ (i : ℕ). bit (p i)) row; count = refl; few = omega arith }

module _ {p : ℕ → Bool} {row row' : List ℕ} {n c : ℕ} (k : Marking p row row' n c) where
  pub mark-turns : c < length row → (held : Bool) → held ≡ p c → (byte : ℕ) → byte ≡ bit held → Marking p row (set row' c byte) (n + byte) (c + 1)
  unfolding sum
  mark-turns h held e byte f =
      let b : byte ≡ bit (p c) = f ∙ ap bit e in
      record {
        set = set-turns k.set h byte b;
        count = rw (add-one c, count-sum p (suc c), ← count-sum p c, ← k.count, b);
        few = omega (arith, k.few, bit-small (p c));
      }

  pub mark-ends : length row ≤ c → Marks p row row' n
  mark-ends h = let e : c ≡ length row = omega (arith, k.set.within) in record { written = set-ends k.set h; count = k.count ∙ ap (λ (m : ℕ). length (keep p (upto m))) e }

-- a zone's row marked
pub row-marked : {s : Shape} {cars : List ℕ} {spots : List Float} {r : Rect} {rosters : List ℕ} {z many n : ℕ} → RowThere rosters z many → (p : ℕ → Bool) → p ≡ car_within s cars spots r → (row : List ℕ) → Marks p (mid_of (z * many) (z * many + many - z * many) rosters) row n → RowMarked s cars spots r rosters (put_mid (z * many) (z * many + many - z * many) rosters row) z many n
row-marked {s} {cars} {spots} {r} {rosters} {z} {many} {n} h p within row m =
    let d : z * many + many - z * many ≡ many = omega arith in
    let l : length (mid_of (z * many) (z * many + many - z * many) rosters) ≡ many = mid_len (z * many) (z * many + many) rosters h.there ∙ d in
    let q : row ≡ row_in s cars spots r many = m.written ∙ ap₂ (λ (t : ℕ → Bool) (k : ℕ). map (λ (c : ℕ). bit (t c)) (upto k)) within l in
    let w : length row ≡ many = ap length q ∙ length-map (upto many) (λ (c : ℕ). bit (car_within s cars spots r c)) ∙ length-span 0 many in
    record {
      written = part-stored rosters row (z * many) (z * many + many) (omega arith) h.there (omega arith) ∙ ap (sets rosters (z * many)) q;
      count = m.count ∙ ap₂ (λ (t : ℕ → Bool) (k : ℕ). length (keep t (upto k))) within l;
    }
