-- `down_block` moves the rest, or up to the last number that is taken up, whose place it finds.
use native.Mathlib.Omega.{arith}
use borrow.Author.Rules.{rules}
use Rattle.rides.specs.PassLaws.{down_ends, sink-room, down-turns}
use Rattle.rides.proofs.pass.down_block.Goals as goal

pub returns-then-keys-next : goal.returns-then-keys-next
returns-then-keys-next c = down_ends c.requires (omega arith) (search rules) c.sink.ensures

pub sink-requires-2 : goal.sink-requires-2
sink-requires-2 c = sink-room c.requires (omega arith) c.find_key.ensures

pub returns : goal.returns
returns c = down-turns c.requires (omega arith) c.find_key.ensures (search rules) c.sink-2.ensures
