use Rattle.cluster.proofs.Calling.{called_by_step}
use Rattle.cluster.proofs.cluster.Cluster.deliver.Goals as goal

pub returns : goal.returns
returns g c =
    called_by_step g.R.VotingRule.quorum g.B.Bank.meaning g.met.R.VotingRule.shared g.met.R.VotingRule.grows g.met.R.VotingRule.void
    _ _ _ _ _ _ c.deliver_step.ensures
