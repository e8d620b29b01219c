-- Laws of what is told: a number that fits in 32 bits is kept, a larger one is the largest.
use Rattle.std.specs.Prelude.{ℕ, ◌<◌, ◌≤◌, ◌≡◌}
use Rattle.std.proofs.Common.{le-leb}
use Rattle.std.proofs.lemmas.Bool.{lt-leb}
use Rattle.values.specs.Promises.{capped}

pub capped_small : (n : ℕ) → n ≤ 4294967295 → capped n ≡ n
capped_small n h = rw (le-leb n 4294967295 h)

pub capped-large : (n : ℕ) → 4294967295 < n → capped n ≡ 4294967295
capped-large n h = rw (lt-leb n 4294967295 h)
