use Rattle.cluster.proofs.Calling.{bootstrap_called}
use Rattle.cluster.proofs.cluster.Cluster.bootstrap.Goals as goal

pub returns : goal.returns
returns g c =
    bootstrap_called g.R.VotingRule.quorum g.B.Bank.meaning g.met.R.VotingRule.shared g.met.R.VotingRule.grows g.met.R.VotingRule.void
    _ _ _ _ _ c.bootstrap_step.ensures
