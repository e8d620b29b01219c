-- `key_right`: the place is one of the town's, the zone stands, and the square at the place is in the cut of its rectangle.
use Prim.Native.Nat.{◌/◌}
use mathlib.Core.Path.{◌∙◌}
use Rattle.soundness.specs.Tests.{InTown}
use Rattle.soundness.specs.ZoneLaws.{zone-fits}
use Rattle.soundness.specs.EntryLaws.{key-past, key-none, key-down, key-cut}
use Rattle.soundness.proofs.zones.Zones.key_right.Goals as goal

pub returns-then-squares-p : goal.returns-then-squares-p
returns-then-squares-p c = key-past _ _ _ (rw c.squares.ensures.is at c.if-squares-p.true)

pub returns-then-self-z : goal.returns-then-self-z
returns-then-self-z c =
    let in-town : InTown c.args.self.s (c.args.key / 256) = record { shape = c.requires.zoned.shape; below = rw c.squares.ensures.is at c.if-squares-p.false } in
    key-none _ _ _ in-town.below _ c.requires.zoned.many c.if-self-z.true

pub returns-then-r-eq0 : goal.returns-then-r-eq0
returns-then-r-eq0 c =
    let in-town : InTown c.args.self.s (c.args.key / 256) = record { shape = c.requires.zoned.shape; below = rw c.squares.ensures.is at c.if-squares-p.false } in
    key-down _ _ _ in-town.below _ c.rect_in-r.ensures c.if-r-eq0.true

pub square_at-q-requires : goal.square_at-q-requires
square_at-q-requires c =
    let in-town : InTown c.args.self.s (c.args.key / 256) = record { shape = c.requires.zoned.shape; below = rw c.squares.ensures.is at c.if-squares-p.false } in
    in-town

pub in_cut-requires : goal.in_cut-requires
in_cut-requires c = let fitting = c.requires in
    record { shape = fitting.zoned.shape; rect = zone-fits _ _ _ c.rect_in-r.ensures _ _ fitting c.if-r-eq0.false; level = c.square_at-q.ensures.deep; number = c.square_at-q.ensures.within }

pub returns : goal.returns
returns c =
    let in-town : InTown c.args.self.s (c.args.key / 256) = record { shape = c.requires.zoned.shape; below = rw c.squares.ensures.is at c.if-squares-p.false } in
    c.in_cut.ensures ∙ key-cut _ _ _ in-town.below _ c.rect_in-r.ensures c.if-r-eq0.false _ c.square_at-q.ensures
