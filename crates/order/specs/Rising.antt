-- Strictly rising lists, and a number put in its place in one.
use Rattle.std.specs.Prelude.{ℕ, ◌<◌, cond, ltb, eqb}
use mathlib.Core.List.{List, [], ◌∷◌, Memᴰ}

-- each number is below all that follow it
pub data Rising : List ℕ → Type 0 where
  none : Rising []
  more : {x : ℕ} {xs : List ℕ} → ((y : ℕ) → Memᴰ y xs → x < y) → Rising xs → Rising (x ∷ xs)

-- x put in its place in a rising list, unless it is there
unfoldable pub insert : ℕ → List ℕ → List ℕ
insert x [] = x ∷ []
insert x (y ∷ ys) = cond (ltb x y) (x ∷ y ∷ ys) (cond (eqb x y) (y ∷ ys) (y ∷ insert x ys))
