-- `write_zone` stores a rectangle's four numbers, one after the other.
use native.Mathlib.Omega.{arith}
use lib.ListN.{length-set}
use Rattle.edits.specs.ZoneLaws.{zone-stored}
use Rattle.edits.proofs.zones.write_zone.Goals as goal

pub bounds-zones-at-2 : goal.bounds-zones-at-2
bounds-zones-at-2 c = simp length-set (omega arith)

pub bounds-zones-at-3 : goal.bounds-zones-at-3
bounds-zones-at-3 c = simp length-set (omega arith)

pub bounds-zones-at-4 : goal.bounds-zones-at-4
bounds-zones-at-4 c = simp length-set (omega arith)

pub returns : goal.returns
returns c = zone-stored c.args.zones.now c.args.z c.args.r
