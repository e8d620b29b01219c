-- Lists laid into a buffer side by side: for each of a few levels a list, stored from the level's place on.
use Rattle.std.specs.Prelude.{ℕ, zero, suc, ◌+◌, ◌<◌, ◌≤◌, ◌≡◌, List, length, get_or}
use Rattle.std.proofs.lemmas.List.Edits.{sets}

-- the lists of the levels below i laid into b
unfoldable pub laid : List ℕ → (ℕ → List ℕ) → List ℕ → ℕ → List ℕ
laid b lists places zero = b
laid b lists places (suc i) = sets (laid b lists places i) (get_or places i 0) (lists i)

-- each level has a place; the buffer was b and is b', and each place has moved past its list
pub record Lays (lists : ℕ → List ℕ) (b b' places places' : List ℕ) : Type 0 where
  pub stored : b' ≡ laid b lists places (length places)
  pub moved : (i : ℕ) → i < length places → get_or places' i 0 ≡ get_or places i 0 + length (lists i)
  pub levels : length places' ≡ length places

-- no list reaches the place of a later level
pub record Apart (lists : ℕ → List ℕ) (places : List ℕ) : Type 0 where
  pub apart : (i j : ℕ) → i < j → j < length places → get_or places i 0 + length (lists i) ≤ get_or places j 0
  pub few : (i : ℕ) → i < length places → get_or places i 0 + length (lists i) ≤ 87381
