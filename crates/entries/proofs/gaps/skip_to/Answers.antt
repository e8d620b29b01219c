-- `skip_to` is 0, or how far the start of the key's place lies on.
use Rattle.std.proofs.Common.{◌/◌, arith, rules}
use Rattle.entries.proofs.gaps.skip_to.Goals as goal

pub overflow_cast-at : goal.overflow_cast-at
overflow_cast-at c = omega (arith, c.shared_slice_known-1.given (c.args.key / 256))

pub returns : goal.returns
returns c = record { within = search rules; low = λ below right. omega (arith, right (omega arith)) }
