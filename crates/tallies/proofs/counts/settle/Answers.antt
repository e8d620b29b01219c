-- `settle` writes the team that leads.
use Rattle.tallies.specs.CountLaws.{settle-one}
use Rattle.tallies.proofs.counts.settle.Goals as goal

pub returns : goal.returns
returns c = settle-one _ c.holder_in-holder.ensures
