-- `ends_below` is the test of the last number, if there is one.
use Rattle.std.proofs.Common.{◌-◌, length, sym, ◌∙◌, arith}
use Rattle.std.proofs.lemmas.Option.{get_or_from_slice_get}
use Rattle.order.specs.RankLaws.{below_none, below-some}
use Rattle.order.proofs.ends_below.Goals as goal

pub returns-in-Some : goal.returns-in-Some
returns-in-Some c =
    let l = c.args.list.now in
    below-some _ _ _ (omega (arith, c.in-Some.ensures.item.3.0)) _ (c.wide.ensures ∙ sym (get_or_from_slice_get l (length l - 1) _ 0 (sym c.in-Some.ensures.value)))

pub returns-in-None : goal.returns-in-None
returns-in-None c = below_none _ _ _ (omega (arith, c.in-None.ensures.item.3))
