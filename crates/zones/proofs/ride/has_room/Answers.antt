-- `has_room` asks three things in turn.
use mathlib.Core.Path.{◌≡◌}
use mathlib.Core.Bool.{true}
use Rattle.squares.specs.Shape.{fits}
use Rattle.squares.specs.ShapeLaws.{fits→}
use Rattle.squares.specs.RefusalLaws.{holds, fails}
use Rattle.zones.specs.RideLaws.{room-none, room-short, room-told}
use Rattle.zones.proofs.ride.has_room.Goals as goal

pub returns-then-not-fits : goal.returns-then-not-fits
returns-then-not-fits c = room-none _ _ _ _ _ (fails c.fits.ensures c.if-not-fits.true-raw)

pub returns-then-many-used : goal.returns-then-many-used
returns-then-many-used c =
    let fitting : fits c.args.s c.args.old ≡ true = holds c.fits.ensures c.if-not-fits.false-raw in
    room-short _ _ _ _ _ fitting c.if-many-used.true

pub cut_count-gone-requires : goal.cut_count-gone-requires
cut_count-gone-requires c =
    let fitting : fits c.args.s c.args.old ≡ true = holds c.fits.ensures c.if-not-fits.false-raw in
    record { shape = c.requires.allowed; rect = fits→ _ _ fitting }

pub returns : goal.returns
returns c =
    let fitting : fits c.args.s c.args.old ≡ true = holds c.fits.ensures c.if-not-fits.false-raw in
    room-told _ _ _ _ _ fitting c.if-many-used.false _ _ c.cut_count-gone.ensures.is c.cut_count-come.ensures.is
