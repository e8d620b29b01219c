-- Which rosters a ride changes: that of its own zone. A ride of nothing changes none.
use Rattle.std.specs.Prelude.{ℕ, ◌≡◌, refl, Bool, true, false, not, ◌&&◌, [], ℤ}
use Rattle.std.proofs.Common.{ne_eqb}
use Rattle.order.specs.Order.{upto}
use Rattle.order.specs.HasLaws.{lacks-none}
use Rattle.order.specs.KeepLaws.{keep-ext, keep-none}
use Rattle.model.specs.Model.{Town, holds_car, roster, cut_of, cars_more, squares_more, zone_moved, after}

pub ride-other : (m : Town) (z : ℕ) (dx dy : ℤ) (y : ℕ) → (y ≡ z → ⊥) → roster (after (zone_moved z dx dy) m) y ≡ roster m y
ride-other m z dx dy y f = keep-ext (holds_car (after (zone_moved z dx dy) m) y) (holds_car m y) (upto m.opening.cars) (λ c k. rw (ne_eqb y z f))

-- in one town no car comes, and no square
and-not : (b : Bool) → (b && not b) ≡ false
and-not true = refl
and-not false = refl

pub none_more : (m : Town) (z : ℕ) → cars_more m m z ≡ []
none_more m z = keep-none (λ (c : ℕ). holds_car m z c && not (holds_car m z c)) (upto m.opening.cars) (λ c k. and-not (holds_car m z c))

pub no-squares : (m : Town) (z : ℕ) → squares_more m m z ≡ []
no-squares m z = lacks-none (cut_of m.opening.shape (m.zone z))
