-- `finish` is not refused.
use Rattle.run_log.specs.CarriedLaws.{not-refused}
use Rattle.run_log.proofs.finish.Goals as goal

pub unreachable-requires : goal.unreachable-requires
unreachable-requires g c = not-refused c.requires c.answer_end.ensures c.in_default.is
