-- `fits`: a zone that does not stand passes, and of one that stands the rectangle is asked.
use Rattle.soundness.specs.ZoneLaws.{fits-down, fits-up}
use Rattle.soundness.proofs.zones.Zones.fits.Goals as goal

pub returns-then-r-eq0 : goal.returns-then-r-eq0
returns-then-r-eq0 c = fits-down _ _ _ c.rect_in-r.ensures _ c.if-r-eq0.true

pub returns : goal.returns
returns c = fits-up _ _ _ c.rect_in-r.ensures _ c.if-r-eq0.false _ c.fits.ensures
