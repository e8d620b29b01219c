-- `merge_keys` merges from the back: what is merged stands after what is still to be merged.
use Rattle.std.proofs.Common.{◌≡◌, ℕ, ◌+◌, ◌-◌, ap, ◌∙◌, arith, rules}
use Rattle.entries.specs.Merge.{moved_up}
use Rattle.entries.specs.MergeLaws.{seat-front, merge-begins, merge-turns, merge-ends}
use Rattle.entries.proofs.merge.merge_keys.Goals as goal

pub loop-j-init : goal.loop-j-init
loop-j-init c = (search rules, merge-begins _ _ _ _ (search rules) (search rules))

pub loop-j-preserved : goal.loop-j-preserved
loop-j-preserved c =
    let e : c.loop-j.j - 1 + 1 ≡ c.loop-j.j = omega arith in
    let at = c.seat_of-at.result in
    let moved : c.move_up.new.entries ≡ moved_up at c.loop-j.j (c.loop-j.end - at) c.loop-j.entries = c.move_up.ensures ∙ ap (λ (k : ℕ). moved_up at k (c.loop-j.end - at) c.loop-j.entries) e in
    (search rules, rw moved (merge-turns c.loop-j.invariant.1 c.requires.n_in_bounds (omega arith) (seat-front _ _ (omega (arith, c.loop-j.invariant.1.olds, c.requires.n_in_bounds_2)) c.seat_of-at.ensures)))

pub returns : goal.returns
returns c = merge-ends c.loop-j.invariant.1 (omega arith)
