-- `soundness_of_town` answers the test of soundness, past check 3.
use mathlib.Core.Path.{sym}
use Rattle.squares.specs.RefusalLaws.{holds, fails}
use Rattle.tables.specs.CheckLaws.{sized→}
use Rattle.readings.specs.SoundnessLaws.{soundness-refused, soundness-done}
use Rattle.readings.proofs.verdict.soundness_of_town.Goals as goal

pub returns-then-not-sized : goal.returns-then-not-sized
returns-then-not-sized c = soundness-refused _ (fails c.sized.ensures c.if-not-sized.true-raw)

pub sound-requires : goal.sound-requires
sound-requires c = sized→ _ (holds c.sized.ensures c.if-not-sized.false-raw)

pub returns : goal.returns
returns c = soundness-done _ (holds c.sized.ensures c.if-not-sized.false-raw) c.sound.result (sym c.sound.ensures)
