-- `parts`: no more than u, the last before is below the key, and the first after is not.
use Rattle.std.proofs.Common.{ℕ, ◌-◌, ◌<◌, ◌≤◌, ◌≡◌, List, length, take, sym, ◌∙◌, arith, length-take-le, get_or-take}
use Rattle.std.proofs.Math.Logic.{⊎_elim}
use borrow.Author.Tests.{not-true, not-false, eq-eqb}
use Rattle.order.specs.Buffer.{ends_below}
use Rattle.order.specs.TestLaws.{lt-or-le}
use Rattle.soundness.specs.StartLaws.{parts-many, parts_low, parts-high}
use Rattle.soundness.proofs.lists.parts.Goals as goal

-- the test of the first n is of them alone
ends-front : (l : List ℕ) (key n : ℕ) → n ≤ length l → ends_below (take n l) key (length (take n l)) ≡ ends_below l key n
unfolding ends_below
ends-front l key n h = rw (length-take-le n l h) (⊎_elim (λ (a : 0 < n). rw (get_or-take n l (n - 1) 0 (omega arith))) (λ (a : n ≤ 0). rw (eq-eqb n 0 (omega arith))) (lt-or-le 0 n))

pub returns-then-entries-n : goal.returns-then-entries-n
returns-then-entries-n c = parts-many _ _ _ _ c.if-entries-n.true

pub returns-then-not-ends_below : goal.returns-then-not-ends_below
returns-then-not-ends_below c = parts_low _ _ _ _ c.if-entries-n.false (sym (c.ends_below.ensures ∙ ends-front _ _ _ c.if-entries-n.false) ∙ not-true _ c.if-not-ends_below.true-raw)

pub returns : goal.returns
returns c = c.starts_above.ensures ∙ parts-high _ _ _ _ c.if-entries-n.false (sym (c.ends_below.ensures ∙ ends-front _ _ _ c.if-entries-n.false) ∙ not-false _ c.if-not-ends_below.false-raw)
