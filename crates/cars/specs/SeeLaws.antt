-- Laws of what a car sees on its way to a cell: on any tables, and on sound ones the zones that it enters and leaves.
use Rattle.std.specs.Prelude.{ℕ, ◌-◌, ◌*◌, ◌≤◌, ◌≡◌, refl, true, false, List, [], Float, length}
use Rattle.std.proofs.Math.Path.{ap, sym}
use Rattle.std.proofs.Common.{subst, ◌∙◌, arith}
use Rattle.std.proofs.Math.Logic.{⊎_elim}
use Rattle.std.proofs.Math.Bool.{and-true}
use Rattle.std.specs.declared.option.Option.{Option}
use Rattle.std.specs.declared.option.Option.TheVariants.{None, Some}
use borrow.Author.Tests.{eqb-true, not-false}
use Rattle.order.specs.Order.{upto}
use Rattle.order.specs.BufferLaws.{Front, front-none, front-within}
use Rattle.order.specs.TestLaws.{true-or-false, true-not-false}
use Rattle.order.specs.KeepLaws.{keep-ext, keep-none}
use Rattle.squares.specs.declared.shape.Shape.{Shape}
use Rattle.squares.specs.declared.shape.Cell.{Cell}
use Rattle.squares.specs.Bounds.{Allowed}
use Rattle.squares.specs.Squares.{number}
use Rattle.squares.specs.Leaves.{OnMap}
use Rattle.squares.specs.ShapeLaws.{→allowed}
use Rattle.squares.specs.DifferLaws.{differ-count}
use Rattle.position.specs.declared.Position.{Position}
use Rattle.position.specs.Answer.{on_town, column_of, row_of}
use Rattle.position.specs.Spots.{spot_on}
use Rattle.position.specs.Laws.{column-below, row_below, off-town, on-town}
use Rattle.model.specs.Model.{zones_at, zones_entered, zones_left, looked}
use Rattle.tables.specs.Tables.{Tables, shape_of, zone_room, placed_in, placed, spot_in, spot_of, car_in, town_of, zone_holds}
use Rattle.tables.specs.CheckLaws.{sized→}
use Rattle.tables.specs.Sound.{Sound}
use Rattle.tables.specs.RecordLaws.{car-in, car-out}
use Rattle.model.specs.declared.answers.Crossed.{Crossed}
use Rattle.lookup.specs.Looks.{Crosses, Enters, Sees}
use Rattle.lookup.specs.LookLaws.{looked-holds, looked-apart, cross-same}

-- ---- where the car was

module _ {s : Shape} {spot : Option Cell} {q old : Position} (shape : Allowed s) (stored : q ≡ old) (at : spot ≡ spot_on s q) where
  was : spot_on s old ≡ spot
  was = ap (spot_on s) (sym stored) ∙ sym at

  was-off : spot ≡ None → on_town s old ≡ false
  was-off e = off-town s old (→allowed s shape) (was ∙ e)

  was-on : {cell : Cell} → spot ≡ Some cell → (on_town s old ≡ true) × (column_of s old ≡ cell.x) × (row_of s old ≡ cell.y)
  was-on {cell} e = on-town s old cell (→allowed s shape) (was ∙ e)

  pub old-map : {cell : Cell} → spot ≡ Some cell → OnMap s cell.x cell.y
  old-map e = let h = was-on e in rw (← h.1, ← h.2) (record { shape = shape; column = column-below s old shape; row = row_below s old shape })

-- ---- how it is seen

module _ {s : Shape} {zones cars : List ℕ} {spots : List Float} {starts entries : List ℕ} {c x y : ℕ} {e l : List ℕ} where
  pub sees-entering : {e' : List ℕ} {r : Crossed} → placed_in cars c ≡ false → Enters s x y starts entries e e' r → Sees s zones cars spots starts entries c x y e e' l l r
  sees-entering off h = record { new = λ q. (h, refl); moved = λ on q. absurd (true-not-false (placed_in cars c) on off); came = front-within h.entered; gone = omega (arith, h.left) }

  module _ (on : placed_in cars c ≡ true) (shape : Allowed s) {spot : Option Cell} {q : Position} (stored : q ≡ spot_in spots c) (at : spot ≡ spot_on s q) where
    -- a placed car that is not on the map, which sound tables have not
    pub sees-lost : spot ≡ None → {e' : List ℕ} {r : Crossed} → Enters s x y starts entries e e' r → Sees s zones cars spots starts entries c x y e e' l l r
    sees-lost off h = record { new = λ q. absurd (true-not-false (placed_in cars c) on q); moved = λ q town. absurd (true-not-false (on_town s (spot_in spots c)) town (was-off shape stored at off)); came = front-within h.entered; gone = omega (arith, h.left) }

    module _ {old : Cell} (cell : spot ≡ Some old) where
      pub sees-crossing : {e' l' : List ℕ} {r : Crossed} → Crosses s zones starts entries old.x old.y x y e e' l l' r → Sees s zones cars spots starts entries c x y e e' l l' r
      sees-crossing h =
          let stood = was-on shape stored at cell in
          record { new = λ q. absurd (true-not-false (placed_in cars c) on q); moved = λ q town. rw (stood.1, stood.2) h; came = front-within h.entered; gone = front-within h.left }

      -- the car's own cell
      pub sees-same : old.x ≡ x → old.y ≡ y → Sees s zones cars spots starts entries c x y e e l l (record { squares = 0; entered = 0; left = 0 })
      sees-same f g = sees-crossing (rw (f, g) (cross-same s zones starts entries x y e l))

-- ---- on sound tables

-- a report's answer, with the zones that it enters and those that it leaves at the front of the buffers
pub record Moves (t : Tables) (c : ℕ) (p : Position) (e e' l l' : List ℕ) (r : Crossed) : Type 0 where
  pub looks : r.squares ≡ looked (shape_of t) (car_in t c) p
  pub came : Front e e' r.entered (zones_entered (town_of t) c p)
  pub gone : Front l l' r.left (zones_left (town_of t) c p)

-- a front that is another list
pub front-is : {b b' l m : List ℕ} {n : ℕ} → Front b b' n l → l ≡ m → Front b b' n m
front-is {b} {b'} {n = n} f e = subst (λ (k : List ℕ). Front b b' n k) e f

module _ {t : Tables} (sound : Sound t) (c : ℕ) (p : Position) (e l : List ℕ) (room_in : zone_room t ≤ length e) (room_out : zone_room t ≤ length l) where
  abbrev s : Shape
  s = shape_of t

  within : Allowed s
  within = (sized→ t sound.size).shape

  -- off the map a car enters the zones that hold the cell, and leaves none
  module _ (off : placed t c ≡ false) where
    all-entered : zones_at (town_of t) p ≡ zones_entered (town_of t) c p
    all-entered = rw (car-out t c off) (keep-ext _ _ (upto (zone_room t)) (λ z m. sym (and-true _)))

    none_left : [] ≡ zones_left (town_of t) c p
    none_left = rw (car-out t c off) (sym (keep-none _ (upto (zone_room t)) (λ z m. refl)))

    sees-new : {e' l' : List ℕ} {r : Crossed} → Enters s (column_of s p) (row_of s p) t.derived.starts t.derived.entries e e' r → l' ≡ l → Moves t c p e e' l l' r
    unfolding zone_holds
    sees-new h same = record {
      looks = rw (car-out t c off) h.squares;
      came = front-is h.entered (looked-holds sound (column_of s p) (row_of s p) (column-below s p within) (row_below s p within) (length e) room_in ∙ all-entered);
      gone = rw (h.left, same) (front-is (front-none l) none_left);
    }

  sees-moved : {e' l' : List ℕ} {r : Crossed} → placed t c ≡ true → Crosses s t.records.zones t.derived.starts t.derived.entries (column_of s (spot_of t c)) (row_of s (spot_of t c)) (column_of s p) (row_of s p) e e' l l' r → Moves t c p e e' l l' r
  unfolding zone_holds
  sees-moved on h =
      let q = spot_of t c in
      let alike : (i : ℕ) → i ≤ s.k → h.levels ≤ s.k - i → number s i (column_of s q) (row_of s q) ≡ number s i (column_of s p) (row_of s p) = λ (i : ℕ) (g : i ≤ s.k) (u : h.levels ≤ s.k - i). eqb-true _ _ (not-false _ (h.apart.above i g u)) in
      record {
        looks = rw (car-in t c on) (h.squares ∙ ap (λ (n : ℕ). 2 * n) (sym (differ-count h.apart)));
        came = rw (car-in t c on) (front-is h.entered (looked-apart sound (column_of s p) (row_of s p) (column-below s p within) (row_below s p within) (length e) room_in (column_of s q) (row_of s q) h.levels (column-below s q within) (row_below s q within) (λ i g u. sym (alike i g u)) h.apart.few));
        gone = rw (car-in t c on) (front-is h.left (looked-apart sound (column_of s q) (row_of s q) (column-below s q within) (row_below s q within) (length l) room_out (column_of s p) (row_of s p) h.levels (column-below s p within) (row_below s p within) alike h.apart.few));
      }

  pub sees-sound : {e' l' : List ℕ} {r : Crossed} → Sees s t.records.zones t.records.cars t.records.spots t.derived.starts t.derived.entries c (column_of s p) (row_of s p) e e' l l' r → Moves t c p e e' l l' r
  unfolding placed
  sees-sound h = ⊎_elim
      (λ (on : placed t c ≡ true). sees-moved on (h.moved on (sound.cars c on)))
      (λ (off : placed t c ≡ false). sees-new off (h.new off).0 (h.new off).1)
      (true-or-false (placed t c))
