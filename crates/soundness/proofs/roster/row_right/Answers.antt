-- `row_right`: a zone that does not stand has no car, and of one that stands the bands of its rectangle say which it has.
use mathlib.Core.Path.{ap, ap₂, ◌∙◌}
use Rattle.squares.specs.Bounds.{Fits}
use Rattle.tables.specs.Slots.{car_between}
use Rattle.soundness.specs.Tests.{says}
use Rattle.soundness.specs.ZoneLaws.{zone-fits}
use Rattle.soundness.specs.RosterLaws.{has-down, has-between}
use Rattle.soundness.proofs.roster.row_right.Goals as goal

pub returns-then-r-eq0 : goal.returns-then-r-eq0
returns-then-r-eq0 c = c.bytes_clear.ensures ∙ ap (says _) (has-down _ _ _ _ _ _ c.rect_in-r.ensures c.if-r-eq0.true)

pub bands_of-requires : goal.bands_of-requires
bands_of-requires c =
    let fit : Fits c.args.zones.s c.rect_in-r.result = zone-fits _ _ _ c.rect_in-r.ensures _ _ c.requires.fitting c.if-r-eq0.false in
    record { allowed = c.requires.fitting.zoned.shape; fits = fit }

pub returns : goal.returns
returns c =
    let fit : Fits c.args.zones.s c.rect_in-r.result = zone-fits _ _ _ c.rect_in-r.ensures _ _ c.requires.fitting c.if-r-eq0.false in
    c.bytes_between.ensures ∙ ap (says _) (ap₂ (car_between _ _) c.bands_of.ensures.columns c.bands_of.ensures.rows ∙ has-between _ _ _ _ _ _ c.rect_in-r.ensures c.if-r-eq0.false fit _ c.requires.riding c.shared_slice_known-2-1.given)
