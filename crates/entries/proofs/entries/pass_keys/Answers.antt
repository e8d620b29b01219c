-- `pass_keys` packs the keys of other zones among the first u entries, and writes free marks after them.
use Rattle.std.proofs.Common.{arith}
use Rattle.entries.specs.DropLaws.{pass-fills}
use Rattle.entries.proofs.entries.pass_keys.Goals as goal

pub returns : goal.returns
returns c = pass-fills c.requires c.pack_keys-kept.ensures (omega arith) _ (c.fill.ensures.after (λ y e. e))
