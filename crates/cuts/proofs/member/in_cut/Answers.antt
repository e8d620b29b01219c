-- `in_cut`: the square is inside the rectangle, and its parent, if it has one, is not.
use mathlib.Core.Bool.{not}
use mathlib.Core.Path.{◌≡◌, ap, sym, ◌∙◌}
use native.Mathlib.Omega.{arith}
use borrow.Author.Tests.{not-true, not-false}
use Rattle.cuts.specs.Cut.{inside}
use Rattle.cuts.specs.MemberLaws.{Quarter, near-square, inside-square, both-parent, quarter, parent_of, parent-square, cut-outside, cut-top, cut-lower}
use Rattle.cuts.proofs.member.in_cut.Goals as goal

pub within-requires : goal.within-requires
within-requires c = near-square c.requires _ c.square-q.ensures

pub returns-then-not-within : goal.returns-then-not-within
returns-then-not-within c =
    let is-inside : let a = c.args in c.within.result ≡ inside a.s a.r a.level a.n = c.within.ensures ∙ inside-square c.requires _ c.square-q.ensures in
    sym (cut-outside _ _ _ _ (sym is-inside ∙ not-true _ c.if-not-within.true-raw))

pub returns-then-level-eq0 : goal.returns-then-level-eq0
returns-then-level-eq0 c =
    let is-inside : let a = c.args in c.within.result ≡ inside a.s a.r a.level a.n = c.within.ensures ∙ inside-square c.requires _ c.square-q.ensures in
    sym (cut-top _ _ _ _ c.if-level-eq0.true (sym is-inside ∙ not-false _ c.if-not-within.false-raw))

pub overflow_sub-parent : goal.overflow_sub-parent
overflow_sub-parent c =
    let child : let a = c.args in Quarter a.s a.level a.n c.square-q.result = quarter c.requires c.if-level-eq0.false _ c.square-q.ensures in
    omega (arith, child.x)

pub overflow_sub-parent-2 : goal.overflow_sub-parent-2
overflow_sub-parent-2 c =
    let child : let a = c.args in Quarter a.s a.level a.n c.square-q.result = quarter c.requires c.if-level-eq0.false _ c.square-q.ensures in
    omega (arith, child.y)

pub within-requires-2 : goal.within-requires-2
within-requires-2 c =
    let child : let a = c.args in Quarter a.s a.level a.n c.square-q.result = quarter c.requires c.if-level-eq0.false _ c.square-q.ensures in
    near-square (both-parent c.requires c.if-level-eq0.false) (parent_of _ c.square-q.result) (parent-square _ _ _ _ child)

pub returns : goal.returns
returns c =
    let child : let a = c.args in Quarter a.s a.level a.n c.square-q.result = quarter c.requires c.if-level-eq0.false _ c.square-q.ensures in
    let is-inside : let a = c.args in c.within.result ≡ inside a.s a.r a.level a.n = c.within.ensures ∙ inside-square c.requires _ c.square-q.ensures in
    let outer = both-parent c.requires c.if-level-eq0.false in
    ap not (c.within-2.ensures ∙ inside-square outer (parent_of _ c.square-q.result) (parent-square _ _ _ _ child))
    ∙ sym (cut-lower _ _ _ _ c.if-level-eq0.false (sym is-inside ∙ not-false _ c.if-not-within.false-raw))
