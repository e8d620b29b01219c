-- `raise_at` adds to one number of a row.
use Rattle.std.proofs.Common.{set, ap}
use Rattle.tallies.proofs.counts.raise_at.Goals as goal

pub returns : goal.returns
returns c = let a = c.args in ap (set a.row.now a.at) c.wrapping_add_u32.ensures.value
