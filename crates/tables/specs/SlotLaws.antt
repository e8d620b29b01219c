-- Which team a car may report, test by test.
use Rattle.std.specs.Prelude.{◌≡◌, ℕ, ◌+◌, ◌-◌, ◌<◌, ◌≤◌, true, false, List, ◌==◌, ◌≢◌, slice_index, slice_index_or}
use Rattle.std.proofs.Common.{arith}
use borrow.Author.Tests.{le-leb, lt-leb, lt-ltb, le-ltb, eq-eqb, eqb-true}
use Rattle.order.specs.TestLaws.{both_ways}
use Rattle.model.specs.Teams.{last_team}
use Rattle.tables.specs.Slots.{team_fits}

module _ (cars : List ℕ) (c g : ℕ) where
  pub team-none : last_team < g → false ≡ team_fits cars c g
  unfolding team_fits
  team-none h = rw (lt-leb g last_team h)

  module _ (few : g ≤ last_team) where
    pub team-free : slice_index_or cars c 0 ≡ 0 → true ≡ team_fits cars c g
    unfolding team_fits
    team-free e = rw (le-leb g last_team few, le-ltb 0 (slice_index cars c) (omega arith))

    pub team-held : (slice_index cars c ≢ 0) → (slice_index cars c == g + 1) ≡ team_fits cars c g
    unfolding team_fits
    team-held f =
        let n = slice_index_or cars c 0 in
        rw (le-leb g last_team few, lt-ltb 0 n (omega arith)) (both_ways (n == g + 1) (g == n - 1) (λ e. eq-eqb g (n - 1) (omega (arith, eqb-true n (g + 1) e))) (λ e. eq-eqb n (g + 1) (omega (arith, eqb-true g (n - 1) e))))
