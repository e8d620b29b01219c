-- What the functions over a lent buffer promise.
use Rattle.std.specs.Prelude.{ℕ, suc, ◌-◌, ◌<◌, ◌≤◌, ◌≡◌, Bool, true, false, cond, List, [], ◌∷◌, ltb, eqb, length, get_or, take}
use Rattle.order.specs.Order.{over}
use Rattle.order.specs.Rising.{insert}

-- how many numbers at the front of a list are below x
unfoldable pub rank : ℕ → List ℕ → ℕ
rank x [] = 0
rank x (y ∷ ys) = cond (ltb y x) (suc (rank x ys)) 0

-- the last of the first n numbers is below x, or there is none
unfoldable pub ends_below : List ℕ → ℕ → ℕ → Bool
ends_below l x n = cond (eqb n 0) true (ltb (get_or l (n - 1) 0) x)

pub record Ranked (x : ℕ) (l : List ℕ) (r : ℕ) : Type 0 where
  pub is : r ≡ rank x l
  pub within : r ≤ length l

-- the number at i is left of those up to n, and below the one at j, where that is left of those up to its end
pub record Lower (l : List ℕ) (i n j end : ℕ) (r : Bool) : Type 0 where
  pub yes : r ≡ true → (i < n) × (j < end → get_or l i 0 < get_or l j 0)
  pub no : r ≡ false → i < n → (j < end) × (get_or l j 0 ≤ get_or l i 0)

-- x put in its place in a list that has room for so many
abbrev pub put_in : ℕ → ℕ → List ℕ → List ℕ
put_in room x l = cond (ltb (length l) room) (insert x l) l

-- the buffer at entry and at exit, how many of its numbers are in order at entry, the number put in, the answer
pub record Put (b b' : List ℕ) (n x r : ℕ) : Type 0 where
  pub written : b' ≡ over (put_in (length b) x (take n b)) b
  pub count : r ≡ length (put_in (length b) x (take n b))
