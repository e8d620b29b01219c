-- `bytes_clear`: what its loop keeps.
use mathlib.Core.Bool.{false}
use lib.ListN.{length}
use Rattle.soundness.specs.Tests.{says_at}
use Rattle.soundness.specs.EveryLaws.{Asked}
use Rattle.soundness.proofs.roster.bytes_clear.Given as goal

abbrev pub invariant-loop-byte : goal.invariant-loop-byte
invariant-loop-byte l = Asked (says_at l.row (λ x. false)) (length l.row) l.byte-index l.clear
