-- `entries_right`: the entries in use are no more than there are, they rise, each is right, they are all, and the others are free.
use Prim.Native.Nat.{◌-◌}
use mathlib.Core.Path.{◌≡◌, refl, sym, ◌∙◌}
use mathlib.Core.Bool.{true}
use borrow.Author.Tests.{not-true, not-false}
use Rattle.soundness.specs.Tests.{every, rises_at, right_at}
use Rattle.soundness.specs.SweepLaws.{rises-front, rights-front, entries-many, entries-fall, entries-wrong, entries-lack, entries-rest}
use Rattle.soundness.proofs.lists.entries_right.Goals as goal

pub returns-then-entries-u : goal.returns-then-entries-u
returns-then-entries-u c = entries-many _ _ _ _ _ c.if-entries-u.true

pub returns-then-not-rises : goal.returns-then-not-rises
returns-then-not-rises c = entries-fall _ _ _ _ _ c.if-entries-u.false (sym (c.rises.ensures ∙ rises-front _ _ c.if-entries-u.false) ∙ not-true _ c.if-not-rises.true-raw)

pub returns-then-not-rights : goal.returns-then-not-rights
returns-then-not-rights c =
    let rise : let a = c.args in every (rises_at a.entries.now) (a.u - 1) ≡ true = sym (c.rises.ensures ∙ rises-front _ _ c.if-entries-u.false) ∙ not-false _ c.if-not-rises.false-raw in
    entries-wrong _ _ _ _ _ c.if-entries-u.false rise (sym (c.rights.ensures ∙ rights-front _ _ c.if-entries-u.false _ _) ∙ not-true _ c.if-not-rights.true-raw)

pub returns-then-u-cut_sizes : goal.returns-then-u-cut_sizes
returns-then-u-cut_sizes c =
    let right : let a = c.args in every (right_at a.zones.s a.zones.zones.now a.entries.now) a.u ≡ true = sym (c.rights.ensures ∙ rights-front _ _ c.if-entries-u.false _ _) ∙ not-false _ c.if-not-rights.false-raw in
    let rise : let a = c.args in every (rises_at a.entries.now) (a.u - 1) ≡ true = sym (c.rises.ensures ∙ rises-front _ _ c.if-entries-u.false) ∙ not-false _ c.if-not-rises.false-raw in
    entries-lack _ _ _ _ _ c.if-entries-u.false rise right _ c.cut_sizes.ensures c.if-u-cut_sizes.true

pub returns : goal.returns
returns c =
    let right : let a = c.args in every (right_at a.zones.s a.zones.zones.now a.entries.now) a.u ≡ true = sym (c.rights.ensures ∙ rights-front _ _ c.if-entries-u.false _ _) ∙ not-false _ c.if-not-rights.false-raw in
    let rise : let a = c.args in every (rises_at a.entries.now) (a.u - 1) ≡ true = sym (c.rises.ensures ∙ rises-front _ _ c.if-entries-u.false) ∙ not-false _ c.if-not-rises.false-raw in
    c.frees.ensures ∙ entries-rest _ _ _ _ _ c.if-entries-u.false rise right _ c.cut_sizes.ensures c.if-u-cut_sizes.false _ refl
