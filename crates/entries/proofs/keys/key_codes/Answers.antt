-- `key_codes` turns squares into keys one by one.
use Rattle.std.proofs.Common.{ap, ◌∙◌, arith}
use Rattle.order.specs.SetLaws.{set-begins, set_next, set-turns, set-ends, map_each}
use Rattle.entries.specs.Keys.{code_key}
use Rattle.entries.proofs.keys.key_codes.Goals as goal

pub loop-code-init : goal.loop-code-init
loop-code-init c = set-begins _ _

pub code_key-requires : goal.code_key-requires
code_key-requires c = rw (set_next c.loop-code.invariant (omega arith)) (c.requires c.loop-code.code-index (omega arith))

pub loop-code-preserved : goal.loop-code-preserved
loop-code-preserved c = set-turns c.loop-code.invariant (omega arith) _ (c.code_key.ensures ∙ ap (code_key _ _) (set_next c.loop-code.invariant (omega arith)))

pub returns : goal.returns
returns c = set-ends c.loop-code.invariant (omega arith) ∙ map_each (code_key c.args.s c.args.z) c.args.codes.now
