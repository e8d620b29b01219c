-- `cross` has gathered from the squares of both cells on the levels below, and goes up as long as they differ.
use Rattle.lookup.specs.LookLaws.{cross-begins, cross-old, cross-new, cross-turns}
use Rattle.lookup.proofs.looks.cross.Goals as goal

pub loop-init : goal.loop-init
loop-init c = cross-begins c.requires.on_map c.requires.on_map_2 _ _ _ _ _ c.number.ensures c.number-2.ensures c.steps_apart-differing.ensures c.place_of-old.ensures c.place_of-new.ensures

pub gather_outside-came-requires-clause-p_in_bounds : goal.gather_outside-came-requires-clause-p_in_bounds
gather_outside-came-requires-clause-p_in_bounds c = cross-new c.requires.on_map c.requires.on_map_2 c.loop.invariant c.loop-test.true c.requires.starts_len

pub gather_outside-gone-requires-clause-p_in_bounds : goal.gather_outside-gone-requires-clause-p_in_bounds
gather_outside-gone-requires-clause-p_in_bounds c = cross-old c.requires.on_map c.requires.on_map_2 c.loop.invariant c.loop-test.true c.requires.starts_len

pub loop-preserved : goal.loop-preserved
loop-preserved c = cross-turns c.requires.on_map c.requires.on_map_2 c.loop.invariant c.loop-test.true c.gather_outside-came.ensures c.gather_outside-gone.ensures c.parent_of-old.ensures c.parent_of-new.ensures
