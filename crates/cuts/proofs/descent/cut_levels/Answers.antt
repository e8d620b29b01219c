-- The cut: each level's place is set, and then the rows of blocks store their squares.
use Prim.Native.Nat.{◌+◌}
use mathlib.Core.Path.{◌≡◌, ◌∙◌}
use native.Mathlib.Omega.{arith}
use lib.ListN.{length}
use lib.Seq.{length-take-le}
use Rattle.cuts.specs.LoopLaws.{cut-room, cut-laid}
use Rattle.cuts.proofs.descent.cut_levels.Goals as goal

pub cut_rows-requires : goal.cut_rows-requires
cut_rows-requires c =
    let sized : length c.set_places-count.new.places ≡ c.args.s.k + 1 = c.set_places-count.auto.places ∙ length-take-le _ _ (omega (arith, c.requires.shape.levels)) in
    cut-room c.requires sized c.set_places-count.ensures _

pub returns : goal.returns
returns c =
    let sized : length c.set_places-count.new.places ≡ c.args.s.k + 1 = c.set_places-count.auto.places ∙ length-take-le _ _ (omega (arith, c.requires.shape.levels)) in
    cut-laid c.requires sized c.set_places-count.ensures _ c.cut_rows.ensures
