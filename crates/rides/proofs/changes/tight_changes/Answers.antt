-- `tight_changes` writes the keys that only the old rectangle has, and after them, where all keys of the new have room, its own.
use native.Mathlib.Omega.{arith}
use Rattle.rides.specs.ChangeLaws.{room-first, room-second, changes-tight}
use Rattle.rides.proofs.changes.tight_changes.Goals as goal

pub write_apart-gone-requires : goal.write_apart-gone-requires
write_apart-gone-requires c = room-first c.requires

pub write_apart-come-requires : goal.write_apart-come-requires
write_apart-come-requires c = room-second c.requires c.write_apart-gone.ensures

pub returns : goal.returns
returns c = changes-tight c.requires c.write_apart-gone.ensures c.write_apart-come.ensures c.cut_count.ensures.is c.cut_count-2.ensures.is (record { first = omega arith; second = omega arith; within = λ m a b. omega arith })
