-- `climb_to_zone` has found no zone on the lists below, and stands at the place of the next square up.
use Rattle.std.proofs.Common.{arith}
use Rattle.lookup.specs.ClimbLaws.{climb-begins, climb-start, climb-turns, climb-found, climb-ended}
use Rattle.lookup.proofs.climb.climb_to_zone.Goals as goal

pub loop-s-init : goal.loop-s-init
loop-s-init c = climb-begins c.requires.on_map _ c.number.ensures c.place_of-place.ensures

pub listed-requires : goal.listed-requires
listed-requires c = climb-start c.requires.on_map _ c.loop-s.invariant c.requires.starts_len

pub loop-s-preserved : goal.loop-s-preserved
loop-s-preserved c = climb-turns c.requires.on_map _ c.loop-s.invariant c.listed.ensures c.if-listed.false (omega arith) c.parent_of-place.ensures

pub returns-then-listed : goal.returns-then-listed
returns-then-listed c = climb-found c.requires.on_map _ c.loop-s.invariant c.listed.ensures c.if-listed.true

pub returns-then-levels-s : goal.returns-then-levels-s
returns-then-levels-s c = climb-ended c.requires.on_map _ c.loop-s.invariant c.listed.ensures c.if-listed.false (omega arith)
