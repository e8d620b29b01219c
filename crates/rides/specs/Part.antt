-- The numbers of two rising lists parted: those that only the first has and those that only the second has, over plain lists.
use Rattle.std.specs.Prelude.{ℕ, ◌+◌, ◌≤◌, ◌≡◌, List, length, get_or, take, drop}
use Rattle.order.specs.Order.{lacks}
use Rattle.order.specs.Rising.{Rising}

-- b was the buffer and b' is it: of its first n numbers `gone` are left at the front, of the m after them `come` at the place n
pub record Parted (b b' : List ℕ) (n m gone come : ℕ) : Type 0 where
  -- within bounds, on any numbers
  pub fewer : gone ≤ n
  pub few : come ≤ m
  pub long : length b' ≡ length b
  pub rest : (q : ℕ) → n + m ≤ q → get_or b' q 0 ≡ get_or b q 0
  -- where both lists rise
  pub gone-is : Rising (take n b) → Rising (take m (drop n b)) → take gone b' ≡ lacks (take m (drop n b)) (take n b)
  pub come-is : Rising (take n b) → Rising (take m (drop n b)) → take come (drop n b') ≡ lacks (take n b) (take m (drop n b))
