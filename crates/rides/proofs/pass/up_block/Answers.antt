-- `up_block` moves the rest, or up to the last number that is dropped, which it finds.
use native.Mathlib.Omega.{arith}
use borrow.Author.Rules.{rules}
use Rattle.rides.specs.PassLaws.{up_ends, up-stops, lift-room, up-turns}
use Rattle.rides.proofs.pass.up_block.Goals as goal

pub returns-then-keys-next : goal.returns-then-keys-next
returns-then-keys-next c = up_ends c.requires (omega arith) (search rules) c.lift.ensures

pub returns-then-at-u : goal.returns-then-at-u
returns-then-at-u c = up-stops c.requires (omega arith) c.find_key.ensures c.if-at-u.true

pub lift-requires-2 : goal.lift-requires-2
lift-requires-2 c = lift-room c.requires (omega arith) c.find_key.ensures c.if-at-u.false

pub returns : goal.returns
returns c = up-turns c.requires (omega arith) c.find_key.ensures c.if-at-u.false (search rules) c.lift-2.ensures
