-- The front of a list that is lent for a count.
use Rattle.std.specs.Prelude.{ℕ, ◌<◌, ◌≤◌, ◌≡◌, List, length, take}
use Rattle.std.proofs.Common.{sym, ◌∙◌, arith, take_all}
use Rattle.order.specs.BufferLaws.{count-front}
use Rattle.texts.specs.Leaves.{Fronts}

-- a count beyond the list lends all of it
pub fronts-all : (n : ℕ) (l : List ℕ) → length l < n → Fronts n l (length l)
fronts-all n l h = record { is = take_all (length l) l (omega arith) ∙ sym (take_all n l (omega arith)); within = omega arith }

module _ {n r : ℕ} {l : List ℕ} (f : Fronts n l r) where
  pub fronts-count : r ≡ length (take r l)
  fronts-count = count-front r l f.within

  pub fronts-few : length (take r l) ≤ length l
  fronts-few = omega (arith, fronts-count, f.within)
