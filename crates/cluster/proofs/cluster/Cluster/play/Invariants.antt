use Rattle.std.proofs.Common.{◌≡◌}
use Rattle.node.specs.Setups.{meant}
use Rattle.cluster.specs.Clusters.{with_log}
use Rattle.cluster.specs.Playing.{calls_in}
use Rattle.cluster.proofs.SoFar.{SoFar}
use Rattle.cluster.proofs.cluster.Cluster.play.Given as goal

-- the setup and the calls are as they were, and the turns so far are taken
abbrev pub invariant-loop-turn : goal.invariant-loop-turn
invariant-loop-turn g l =
    (l.self.setup ≡ l.initial.self.setup)
    × (calls_in l.turns ≡ calls_in l.initial.turns)
    × SoFar (meant g.R.VotingRule.quorum l.initial.self.setup) (with_log g.B.Bank.meaning l.initial.self.nodes l.initial.log) l.turns l.turn-index
    (with_log g.B.Bank.meaning l.self.nodes l.log)
