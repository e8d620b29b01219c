-- `find_key` passes over what the start of the key's place counts, and counts on from there.
use Rattle.entries.specs.GapLaws.{found}
use Rattle.entries.proofs.gaps.find_key.Goals as goal

pub returns : goal.returns
returns c = found c.skip_to-i.ensures c.rank_of.ensures
