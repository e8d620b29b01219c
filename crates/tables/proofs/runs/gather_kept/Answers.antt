-- `gather_kept` puts the zones of a run one by one: what is left of the run, put into what stands, gives all.
use Rattle.std.proofs.Common.{ℕ, ◌+◌, ◌%◌, ◌<◌, ◌≤◌, ◌≡◌, ◌⊎◌, Bool, true, false, List, length, sym, ⊎_elim, add-zero, arith}
use Rattle.std.specs.Prelude.{slice_index}
use Rattle.std.specs.List.{between}
use Rattle.std.proofs.lemmas.List.Edits.{get_or-between}
use Rattle.order.specs.TestLaws.{lt-or-le}
use Rattle.order.specs.BufferLaws.{front-within}
use Rattle.tables.specs.Runs.{PutIf, Gathers}
use Rattle.tables.specs.GatherLaws.{Gathering, gather_none, gather-begins, gather-turns, gather-ends, put-taken, put-passed}
use Rattle.tables.proofs.runs.gather_kept.Goals as goal
use Rattle.tables.proofs.runs.gather_kept.Goals.{then-keeps, else-keeps}

-- the next number of the run
turns : {f : ℕ → Bool} {starts entries : List ℕ} {p : ℕ} {b : List ℕ} {n : ℕ} {b' b'' : List ℕ} {end m r : ℕ} (s k : ℕ) → Gathering f starts entries p b n b' (s + k) end m → (run : List ℕ) → run ≡ between s end entries → s + k < end → PutIf (f (slice_index run k % 256)) b' b'' m (slice_index run k % 256) r → Gathering f starts entries p b n b'' (s + (k + 1)) end r
turns {entries = entries} {end = end} s k g run e h u =
    let x : slice_index run k ≡ slice_index entries (s + k) = rw e (get_or-between entries s end k 0 h) in
    let i : s + (k + 1) ≡ s + k + 1 = omega arith in
    rw i (gather-turns g h (rw x at u))

-- a run that ends before it begins, or past the entries
none : (f : ℕ → Bool) (starts entries : List ℕ) (p : ℕ) (b : List ℕ) (n : ℕ) → n ≤ length b → (slice_index starts (p + 1) < slice_index starts p) ⊎ (length entries < slice_index starts (p + 1)) → Gathers f starts entries p b b n n
none f starts entries p b n small h = ⊎_elim
    (λ (past : length entries < slice_index starts (p + 1)). gather_none f starts entries p b n small past)
    (λ (in_table : slice_index starts (p + 1) ≤ length entries). gather-ends (gather-begins f starts entries p b n small in_table) (⊎_elim (λ (l : slice_index starts (p + 1) < slice_index starts p). omega arith) (λ (l : length entries < slice_index starts (p + 1)). absurd (omega arith)) h))
    (lt-or-le (length entries) (slice_index starts (p + 1)))

pub returns-in_default : goal.returns-in_default
returns-in_default g c = none _ _ _ _ _ _ c.requires.1.1.1.1 c.in_default.ensures.lookup.0

pub loop-key-init : goal.loop-key-init
loop-key-init g c = rw add-zero (gather-begins _ _ _ _ _ _ c.requires.1.1.1.1 c.in-Some.ensures.lookup.0.1)

pub loop-key-preserved : goal.loop-key-preserved
loop-key-preserved g c =
    let begun = c.loop-key.invariant in
    let small = front-within begun.front in
    elim c.if-keeps.branch [
      | then-keeps w ↦ rw (w.out-is, w.count-is) (turns _ _ begun _ c.in-Some.ensures.lookup.0.2 (omega (arith, c.in-Some.ensures.lookup.0.3)) (put-taken small (sym (c.requires.1.1.0 _ true (omega arith) w.if-keeps.ensures)) w.put-count.ensures))
      | else-keeps w ↦ rw (w.out-is, w.count-is) (turns _ _ begun _ c.in-Some.ensures.lookup.0.2 (omega (arith, c.in-Some.ensures.lookup.0.3)) (put-passed small (sym (c.requires.1.1.0 _ false (omega arith) w.if-keeps.ensures))))
    ]

pub returns : goal.returns
returns g c = gather-ends c.loop-key.invariant (omega (arith, c.in-Some.ensures.lookup.0.3))
