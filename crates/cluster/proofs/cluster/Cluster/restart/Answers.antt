use Rattle.cluster.proofs.Calling.{restart_called}
use Rattle.cluster.proofs.cluster.Cluster.restart.Goals as goal

pub returns : goal.returns
returns g c =
    restart_called g.R.VotingRule.quorum g.B.Bank.meaning g.met.R.VotingRule.shared g.met.R.VotingRule.grows g.met.R.VotingRule.void
    _ _ _ _ c.restart_step.ensures
