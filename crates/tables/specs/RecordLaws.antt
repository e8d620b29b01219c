-- The records as the functions over one table read them, and as the town has them.
use Rattle.std.specs.Prelude.{◌≡◌, ℕ, Bool, true, false, cond, ◌&&◌, List, [], ◌∷◌, length, ◌==◌, nat_le, slice_index, slice_set}
use Rattle.std.proofs.Math.Path.{refl, sym}
use Rattle.std.proofs.Common.{ap, arith}
use Rattle.std.proofs.Math.Bool.{and-true}
use Rattle.std.proofs.Math.Option.{none, some}
use borrow.Author.Tests.{leb-true, ltb-true}
use Rattle.squares.specs.declared.shape.Rect.{Rect}
use Rattle.squares.specs.Shape.{holds}
use Rattle.position.specs.Answer.{column_of, row_of}
use Rattle.model.specs.Teams.{last_team}
use Rattle.model.specs.Model.{known, there, teamed}
use Rattle.tables.specs.Tables.{Tables, Derived, shape_of, rect_of, stands, stands_in, placed, placed_in, team_of, spot_of, zone_in, car_in, zone_holds, roster_has}
use Rattle.tables.specs.Slots.{team_fits, slot_in}
use Rattle.tables.specs.Derived.{starts_of, entries_of, rosters_of, tallies_of}
use Rattle.tables.specs.Sound.{Sound}

known-if : {A : Type 0} (b : Bool) (a : A) → known (cond b (some a) none) ≡ b
known-if true a = refl
known-if false a = refl

there-if : {A : Type 0} (b : Bool) (a : A) (test : A → Bool) → there (cond b (some a) none) test ≡ (b && test a)
there-if true a test = refl
there-if false a test = refl

module _ (t : Tables) where
  pub stands-known : (z : ℕ) → known (zone_in t z) ≡ stands t z
  unfolding zone_in
  stands-known z = known-if (stands t z) (rect_of t z)

  pub placed-known : (c : ℕ) → known (car_in t c) ≡ placed t c
  unfolding car_in
  placed-known c = known-if (placed t c) (record { position = spot_of t c; team = team_of t c })

  -- as the code reads them
  pub zone-known : (z : ℕ) → stands_in t.records.zones z ≡ known (zone_in t z)
  unfolding stands
  zone-known z = sym (stands-known z)

  pub car-known : (c : ℕ) → placed_in t.records.cars c ≡ known (car_in t c)
  unfolding placed
  car-known c = sym (placed-known c)

  pub zone-out : (z : ℕ) → stands t z ≡ false → zone_in t z ≡ none
  unfolding zone_in
  zone-out z e = rw e

  pub car-in : (c : ℕ) → placed t c ≡ true → car_in t c ≡ some (record { position = spot_of t c; team = team_of t c })
  unfolding car_in
  car-in c e = rw e

  pub car-out : (c : ℕ) → placed t c ≡ false → car_in t c ≡ none
  unfolding car_in
  car-out c e = rw e

  -- a team that a car may report
  pub team-known : (c g : ℕ) → team_fits t.records.cars c g ≡ teamed (car_in t c) g
  unfolding car_in placed team_fits
  team-known c g = go (placed_in t.records.cars c)
    where
      go : (b : Bool) → (nat_le g last_team && cond b (g == team_of t c) true) ≡ teamed (cond b (some (record { position = spot_of t c; team = team_of t c })) none) g
      go true = refl
      go false = and-true (nat_le g last_team)

  -- the team of a car on the map, where it is one of the eight
  pub slot-team : (c : ℕ) → placed t c ≡ true → nat_le (team_of t c) last_team ≡ true → slot_in t.records.cars c ≡ team_of t c
  unfolding placed
  slot-team c e f = omega (arith, ltb-true 0 (slice_index t.records.cars c) e, leb-true (team_of t c) last_team f)

  -- a zone that stands, and whose rectangle passes a test; holds a cell
  pub zone-there : (z : ℕ) (test : Rect → Bool) → there (zone_in t z) test ≡ (stands t z && test (rect_of t z))
  unfolding zone_in
  zone-there z test = there-if (stands t z) (rect_of t z) test

  pub zone-holds : (z x y : ℕ) → zone_holds t z x y ≡ (stands t z && holds (rect_of t z) x y)
  unfolding zone_holds
  zone-holds z x y = zone-there z (λ r. holds r x y)

  -- a car on the map, whose cell the zone holds
  pub roster-has : (z c : ℕ) → roster_has t z c ≡ (placed t c && zone_holds t z (column_of (shape_of t) (spot_of t c)) (row_of (shape_of t) (spot_of t c)))
  unfolding roster_has car_in zone_holds
  roster-has z c = there-if (placed t c) (record { position = spot_of t c; team = team_of t c }) _

-- ---- what is derived, table by table

module _ {t : Tables} (sound : Sound t) where
  pub starts-fresh : t.derived.starts ≡ starts_of t
  starts-fresh = ap (λ (d : Derived). d.starts) sound.derived

  pub entries-fresh : t.derived.entries ≡ entries_of t
  entries-fresh = ap (λ (d : Derived). d.entries) sound.derived

  pub rosters-fresh : t.derived.rosters ≡ rosters_of t
  rosters-fresh = ap (λ (d : Derived). d.rosters) sound.derived

  pub tallies-fresh : t.derived.tallies ≡ tallies_of t
  tallies-fresh = ap (λ (d : Derived). d.tallies) sound.derived

-- six numbers written one after the other
pub head-written : (l : List ℕ) (k P Q Z C E : ℕ) → length l ≡ 6 → slice_set (slice_set (slice_set (slice_set (slice_set (slice_set l 0 k) 1 P) 2 Q) 3 Z) 4 C) 5 E ≡ k ∷ P ∷ Q ∷ Z ∷ C ∷ E ∷ []
head-written [] k P Q Z C E e = absurd (omega arith)
head-written (a ∷ []) k P Q Z C E e = absurd (omega arith)
head-written (a ∷ b ∷ []) k P Q Z C E e = absurd (omega arith)
head-written (a ∷ b ∷ c ∷ []) k P Q Z C E e = absurd (omega arith)
head-written (a ∷ b ∷ c ∷ d ∷ []) k P Q Z C E e = absurd (omega arith)
head-written (a ∷ b ∷ c ∷ d ∷ f ∷ []) k P Q Z C E e = absurd (omega arith)
head-written (a ∷ b ∷ c ∷ d ∷ f ∷ g ∷ []) k P Q Z C E e = refl
head-written (a ∷ b ∷ c ∷ d ∷ f ∷ g ∷ h ∷ l) k P Q Z C E e = absurd (omega arith)
