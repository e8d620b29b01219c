-- `join` counts a car where its byte is not 0, and else changes nothing.
use Rattle.tallies.specs.CountLaws.{join_one, join-none}
use Rattle.tallies.proofs.counts.join.Goals as goal

pub returns-then-byte-ne0 : goal.returns-then-byte-ne0
returns-then-byte-ne0 c = join_one _ _ _ c.if-byte-ne0.true c.raise.ensures

pub returns-else-byte-ne0 : goal.returns-else-byte-ne0
returns-else-byte-ne0 c = join-none _ _ _ c.if-byte-ne0.false
