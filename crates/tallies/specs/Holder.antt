-- What the leaves of the holder answer, over plain lists.
use Rattle.std.specs.Prelude.{◌≡◌, ℕ, ◌+◌, ◌<◌, List, slice_index}
use Rattle.tallies.specs.declared.holder.Lead.{Lead}

-- a team alone, with its cars in a row of the tallies
abbrev pub lead_of : List ℕ → ℕ → Lead
lead_of row g = record { cars = slice_index row (g + 1); team = g }

-- of two leads the one with more cars; where they are level, nobody's
pub record Foremost (a b r : Lead) : Type 0 where
  pub second : a.cars < b.cars → r ≡ b
  pub first : b.cars < a.cars → r ≡ a
  pub level : a.cars ≡ b.cars → r ≡ record { cars = a.cars; team = 0 }
