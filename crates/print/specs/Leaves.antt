-- What the leaves promise.
use Rattle.std.specs.Prelude.{ℕ, ◌+◌, ◌≤◌, List}
use Rattle.order.specs.Order.{Wrote}

-- a text of at most m bytes stored from place `at` on, as far as the buffer goes
pub record Puts (b b' : List ℕ) (at r : ℕ) (t : List ℕ) (m : ℕ) : Type 0 where
  pub wrote : Wrote b b' at r t
  pub most : r ≤ at + m
