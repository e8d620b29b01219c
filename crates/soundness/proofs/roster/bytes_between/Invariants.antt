-- `bytes_between`: what its loop keeps.
use lib.ListN.{length}
use Rattle.tables.specs.Slots.{car_between}
use Rattle.soundness.specs.Tests.{says_at}
use Rattle.soundness.specs.EveryLaws.{Asked}
use Rattle.soundness.proofs.roster.bytes_between.Given as goal

abbrev pub invariant-loop-c : goal.invariant-loop-c
invariant-loop-c l = Asked (says_at l.row (car_between l.cars l.spots l.bands.columns l.bands.rows)) (length l.row) l.c l.right
