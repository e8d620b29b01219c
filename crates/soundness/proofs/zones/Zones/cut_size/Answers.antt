-- `cut_size`: a zone that does not stand has no entries, one that stands as many as its cut has squares.
use Rattle.soundness.specs.ZoneLaws.{zone-fits, size-down, size-up}
use Rattle.soundness.proofs.zones.Zones.cut_size.Goals as goal

pub returns-then-r-eq0 : goal.returns-then-r-eq0
returns-then-r-eq0 c = size-down _ _ _ c.rect_in-r.ensures _ c.if-r-eq0.true

pub cut_count-requires : goal.cut_count-requires
cut_count-requires c = record { shape = c.requires.fitting.zoned.shape; rect = zone-fits _ _ _ c.rect_in-r.ensures _ _ c.requires.fitting c.if-r-eq0.false }

pub returns : goal.returns
returns c = size-up _ _ _ c.rect_in-r.ensures _ c.if-r-eq0.false _ c.cut_count.ensures
