-- `look_up` has gathered the zones of the squares looked into, and stands at the place of the next one up.
use native.Mathlib.Omega.{arith}
use Rattle.lookup.specs.LookLaws.{look-begins, look-start, look-turns}
use Rattle.lookup.proofs.looks.look_up.Goals as goal

pub loop-init : goal.loop-init
loop-init c = look-begins c.requires.on_map _ _ _ c.number.ensures c.place_of-place.ensures

pub gather-found-requires-clause-p_in_bounds : goal.gather-found-requires-clause-p_in_bounds
gather-found-requires-clause-p_in_bounds c = look-start c.requires.on_map c.loop.invariant (omega arith) c.requires.starts_len

pub loop-preserved : goal.loop-preserved
loop-preserved c = look-turns c.requires.on_map c.loop.invariant (omega arith) c.gather-found.ensures c.parent_of-place.ensures
