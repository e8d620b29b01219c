-- `listed` compares a place's start with the next.
use Rattle.std.proofs.Common.{refl}
use Rattle.tables.specs.Runs.{listed_at}
use Rattle.tables.proofs.runs.listed.Goals as goal

pub returns : goal.returns
unfolding listed_at
returns c = refl
