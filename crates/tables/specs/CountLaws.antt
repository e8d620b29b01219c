-- How many entries are in use: as many as the standing zones' cuts have squares.
use Rattle.std.specs.Prelude.{◌≡◌, ℕ, zero, suc, ◌+◌, ◌-◌, ◌*◌, ◌<◌, ◌≤◌, Bool, true, false, cond, ◌&&◌, List, length, refl}
use Rattle.std.proofs.Common.{ap, ◌∙◌, arith, length-append}
use Rattle.std.proofs.Math.Path.{sym}
use Rattle.std.proofs.Math.Option.{none, some}
use Rattle.std.proofs.Math.Arith.{digits_div, digits_mod}
use Rattle.std.proofs.Math.ListN.{get_or-eq_default}
use Rattle.order.specs.Sums.{sum, bit}
use Rattle.order.specs.SumLaws.{sum-ext, sum-none, sum-add, sum-swap, sum-grid, count-sum}
use Rattle.squares.specs.declared.shape.Shape.{Shape}
use Rattle.squares.specs.declared.shape.Rect.{Rect}
use Rattle.squares.specs.Squares.{squares, squares_on}
use Rattle.cuts.specs.Cut.{in_cut, cut_on, cut_to, cut}
use Rattle.cuts.specs.CutLaws.{length-cut-on}
use Rattle.model.specs.Model.{cut_size, entries_used}
use Rattle.tables.specs.Tables.{Tables, shape_of, zone_room, rect_of, stands_in, stands, zone_in, town_of}
use Rattle.tables.specs.Sizes.{Sized}
use Rattle.tables.specs.Derived.{before, level_at, number_at, on, used}
use Rattle.tables.specs.PlaceLaws.{before_more, before-none, before-all, level-place}
use Rattle.tables.specs.RecordLaws.{zone-out}

-- ---- the places of a cut

module _ (s : Shape) (r : Rect) where
  abbrev at : ℕ → ℕ
  at p = bit (in_cut s r (level_at s p) (number_at s p))

  cut-places : (m : ℕ) → m ≤ suc s.k → sum at (before s m) ≡ length (cut_to s r m)
  unfolding sum cut_to
  cut-places zero h = rw (before-none s)
  cut-places (suc m) h =
      let level : sum (λ (n : ℕ). at (before s m + n)) (squares_on s m) ≡ length (cut_on s r m) = sum-ext (λ (n : ℕ). at (before s m + n)) (λ (n : ℕ). bit (in_cut s r m n)) (squares_on s m) (λ n l. rw (level-place s m n (omega arith) l) (ap (λ (j : ℕ). bit (in_cut s r m j)) (omega arith))) ∙ sym (count-sum (in_cut s r m) (squares_on s m)) ∙ sym (length-cut-on s r m) in
      rw (before_more s m, sum-add at (before s m) (squares_on s m), cut-places m (omega arith), level) (sym (length-append (cut_to s r m) (cut_on s r m)))

  places-cut : sum (λ (p : ℕ). bit (in_cut s r (level_at s p) (number_at s p))) (squares s) ≡ length (cut s r)
  places-cut = ap (sum at) (sym (before-all s)) ∙ cut-places (suc s.k) (omega arith)

-- ---- the entries in use

-- no zone stands past the end of the table
pub past-zones : (zones : List ℕ) (Z : ℕ) → length zones ≡ 4 * Z → (z : ℕ) → Z ≤ z → stands_in zones z ≡ false
past-zones zones Z h z g = rw (get_or-eq_default zones 0 {n = 4 * z + 2} (omega arith))

zone-keys : (t : Tables) (z : ℕ) → z < 256 → sum (λ (p : ℕ). bit (on t (p * 256 + z))) (squares (shape_of t)) ≡ cut_size (shape_of t) (zone_in t z)
unfolding on zone_in
zone-keys t z h =
    let s = shape_of t in
    let r = rect_of t z in
    sum-ext (λ (p : ℕ). bit (on t (p * 256 + z))) (λ (p : ℕ). bit (stands t z && in_cut s r (level_at s p) (number_at s p))) (squares s) (λ p l. rw (digits_div p h, digits_mod p h)) ∙ go (stands t z)
  where
    go : (b : Bool) → sum (λ (p : ℕ). bit (b && in_cut (shape_of t) (rect_of t z) (level_at (shape_of t) p) (number_at (shape_of t) p))) (squares (shape_of t)) ≡ cut_size (shape_of t) (cond b (some (rect_of t z)) none)
    go true = places-cut (shape_of t) (rect_of t z)
    go false = sum-none (λ (p : ℕ). 0) (squares (shape_of t)) (λ p l. refl)

pub count-used : (t : Tables) → Sized t → length (used t) ≡ entries_used (town_of t)
unfolding stands
count-used t h =
    let key : ℕ → ℕ = λ n. bit (on t n) in
    let S = squares (shape_of t) in
    let size : ℕ → ℕ = λ z. cut_size (shape_of t) (zone_in t z) in
    let Z = zone_room t in
    let all : Z + (256 - Z) ≡ 256 = omega (arith, h.room.zones-few) in
    let rest : sum (λ (i : ℕ). size (Z + i)) (256 - Z) ≡ 0 = sum-none (λ (i : ℕ). size (Z + i)) (256 - Z) (λ i l. rw (zone-out t (Z + i) (past-zones t.records.zones Z h.lengths.zones (Z + i) (omega arith)))) in
    count-sum (on t) (S * 256)
    ∙ sum-grid key S 256
    ∙ sum-swap (λ (p z : ℕ). key (p * 256 + z)) S 256
    ∙ sum-ext (λ (z : ℕ). sum (λ (p : ℕ). key (p * 256 + z)) S) size 256 (λ z l. zone-keys t z l)
    ∙ ap (sum size) (sym all) ∙ sum-add size Z (256 - Z) ∙ omega (arith, rest)
