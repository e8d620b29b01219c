-- Which rosters a report changes: those of the zones that hold one of the two cells and not both.
use Rattle.std.specs.Prelude.{ℕ, ◌≡◌, refl, Bool, true, false, eqb}
use Rattle.std.proofs.Math.Option.{Option, some}
use Rattle.std.proofs.Common.{sym, ⊎_elim, eqb-true, eq-eqb}
use Rattle.order.specs.Order.{upto}
use Rattle.order.specs.KeepLaws.{keep-ext}
use Rattle.order.specs.TestLaws.{true-or-false}
use Rattle.model.specs.Model.{Car, Town, there, holds_spot, holds_car, roster, except, car_at, after}

-- a test of what each number has, where one of them has something else of the same test
except-same : {A : Type 0} (test : Option A → Bool) (i : ℕ) (new : Option A) (old : ℕ → Option A) → test (old i) ≡ test new → (j : ℕ) → test (except i new old j) ≡ test (old j)
except-same test i new old e j = ⊎_elim
    (λ (q : eqb j i ≡ true). rw (q, eqb-true j i q) (sym e))
    (λ (q : eqb j i ≡ false). rw q)
    (true-or-false (eqb j i))

module _ (m : Town) (c : ℕ) (z : ℕ) where
  -- another car stays where it was
  pub report-other : (a : Car) (d : ℕ) → eqb d c ≡ false → holds_car (after (car_at c a) m) z d ≡ holds_car m z d
  report-other a d e = rw e

  -- the car is in the zones that hold its new cell
  pub report-own : (a : Car) → holds_car (after (car_at c a) m) z c ≡ holds_spot m z a.position
  report-own a = rw (eq-eqb c c refl)

  -- the zone holds the cell of a car, where one is there
  abbrev inside : Option Car → Bool
  inside car = there car (λ (a : Car). holds_spot m z a.position)

  -- a zone that has the car just if it holds the new cell: it holds both cells or neither, or the car comes from off the map and
  -- the zone does not hold the new cell
  pub report-same : (a : Car) → holds_car m z c ≡ holds_spot m z a.position → (d : ℕ) → holds_car (after (car_at c a) m) z d ≡ holds_car m z d
  report-same a e d = except-same inside c (some a) m.car e d

  pub report-roster : (a : Car) → holds_car m z c ≡ holds_spot m z a.position → roster (after (car_at c a) m) z ≡ roster m z
  report-roster a e = keep-ext (holds_car (after (car_at c a) m) z) (holds_car m z) (upto m.opening.cars) (λ d k. except-same inside c (some a) m.car e d)
