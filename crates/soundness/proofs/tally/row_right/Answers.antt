-- `row_right`: the zone's numbers are those of the row.
use Rattle.std.proofs.Common.{◌+◌, ◌-◌, ◌*◌, refl}
use Rattle.std.proofs.lemmas.Slice.Eq.{slice_eq-Decides}
use Rattle.std.proofs.lemmas.Bool.Decides.{Decides-eqb}
use Rattle.soundness.specs.EveryLaws.{every-part}
use Rattle.tables.specs.Tables.{tally}
use borrow.Rule.Slice.PartMut.{mid_of}
use Rattle.soundness.proofs.tally.row_right.Goals as goal

pub returns : goal.returns
returns c =
    let from = c.args.z * tally in
    let row = mid_of from (from + tally - from) c.args.tallies.now in
    every-part c.args.tallies.now c.args.row.now from (from + tally) tally refl c.requires.tally_in_bounds c.requires.row_len _ (slice_eq-Decides Decides-eqb row c.args.row.now _ c.eq.ensures)
