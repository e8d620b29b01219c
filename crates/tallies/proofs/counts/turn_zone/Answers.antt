-- `turn_zone` turns a zone's row where it is there, and else changes nothing.
use Rattle.tallies.specs.CountLaws.{turn-there, turn-away}
use Rattle.tallies.proofs.counts.turn_zone.Goals as goal

pub returns-then-end-tallies : goal.returns-then-end-tallies
returns-then-end-tallies c = turn-there _ _ _ _ c.if-end-tallies.true _ c.turn.ensures

pub returns-else-end-tallies : goal.returns-else-end-tallies
returns-else-end-tallies c = turn-away _ _ _ _ c.if-end-tallies.false
