-- `key_codes`: what its loop keeps.
use Rattle.order.specs.SetLaws.{Setting}
use Rattle.entries.specs.KeyLaws.{key_at}
use Rattle.entries.proofs.keys.key_codes.Given as goal

abbrev pub invariant-loop-code : goal.invariant-loop-code
invariant-loop-code l = Setting (key_at l.s l.z l.initial.codes) l.initial.codes l.codes l.code-index
