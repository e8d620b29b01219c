-- `starts_above`: there is no entry after the first n, or it is not below the key.
use Rattle.soundness.specs.StartLaws.{above-none, above-some}
use Rattle.soundness.proofs.lists.starts_above.Goals as goal

pub returns-then-n-entries : goal.returns-then-n-entries
returns-then-n-entries c = above-none _ _ _ _ c.if-n-entries.true

pub returns : goal.returns
returns c = above-some _ _ _ _ c.if-n-entries.false _ c.wide.ensures
