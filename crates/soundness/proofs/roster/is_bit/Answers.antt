-- `is_bit`: a byte of 1 says yes, and 0 says no.
use Rattle.std.specs.Prelude.{eqb}
use Rattle.std.proofs.Common.{ap, ◌∙◌}
use Rattle.soundness.specs.RosterLaws.{byte-bit}
use Rattle.soundness.proofs.roster.is_bit.Goals as goal

pub returns : goal.returns
returns c = ap (eqb c.args.byte) (c.from.ensures ∙ byte-bit c.args.yes)
