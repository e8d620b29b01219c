-- `write_keys` has more room than the keys take.
use Rattle.entries.specs.KeyLaws.{key-space}
use Rattle.entries.proofs.keys.write_keys.Goals as goal

pub write_keys_into-requires : goal.write_keys_into-requires
write_keys_into-requires c = key-space c.requires
