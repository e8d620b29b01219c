-- `cell_of` puts off the map what is not of the whole side's band, and answers for any other float by its bits.
use mathlib.Core.Bool.{true}
use mathlib.Core.Path.{◌≡◌, sym, ap, ◌∙◌}
use lib.Dec.{T}
use lib.Ieee.{fits, binary32}
use borrow.Author.Tests.{not-true, not-false}
use Rattle.position.specs.Band.{band_of, in_band}
use Rattle.position.specs.declared.band.Band.{Band}
use Rattle.position.proofs.Sides.{off-side, bits-few, cell-is}
use Rattle.position.proofs.cell_of.Goals as goal

pub returns-then-not-in_band : goal.returns-then-not-in_band
returns-then-not-in_band c =
    let held : T (fits binary32 c.args.x) = rw c.well_formed.0.1 tt in
    let banded : let at = c.args in c.in_band.result ≡ in_band (band_of 0 at.side at.side) at.x = c.in_band.ensures ∙ ap (λ (b : Band). in_band b c.args.x) c.band_of.ensures in
    off-side c.requires _ held (sym banded ∙ not-true _ c.if-not-in_band.true-raw)

pub cell_in-requires : goal.cell_in-requires
cell_in-requires c =
    let held : T (fits binary32 c.args.x) = rw c.well_formed.0.1 tt in
    let banded : let at = c.args in c.in_band.result ≡ in_band (band_of 0 at.side at.side) at.x = c.in_band.ensures ∙ ap (λ (b : Band). in_band b c.args.x) c.band_of.ensures in
    let on : let at = c.args in in_band (band_of 0 at.side at.side) at.x ≡ true = sym banded ∙ not-false _ c.if-not-in_band.false-raw in
    record { side = c.requires; bits_bound = bits-few c.requires _ held on }

pub returns : goal.returns
returns c =
    let held : T (fits binary32 c.args.x) = rw c.well_formed.0.1 tt in
    let banded : let at = c.args in c.in_band.result ≡ in_band (band_of 0 at.side at.side) at.x = c.in_band.ensures ∙ ap (λ (b : Band). in_band b c.args.x) c.band_of.ensures in
    let on : let at = c.args in in_band (band_of 0 at.side at.side) at.x ≡ true = sym banded ∙ not-false _ c.if-not-in_band.false-raw in
    cell-is c.requires _ held on c.cell_in.ensures
