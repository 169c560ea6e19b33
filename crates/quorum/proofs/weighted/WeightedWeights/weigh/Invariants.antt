-- The total so far is the weight of the nodes below the next one, each of them 15 at most.
use Rattle.std.proofs.Common.{◌≡◌, ◌*◌, ◌≤◌, drop}
use Rattle.quorum.specs.Rules.{weight_below, by_table}
use Rattle.quorum.proofs.weighted.WeightedWeights.weigh.Given as goal

abbrev pub invariant-loop-node : goal.invariant-loop-node
invariant-loop-node l =
    (l.node-iterator.a.end ≡ 16) × (l.node-iterator.b.rest.now ≡ drop l.node-iterator.a.start l.self.weights)
    × (l.node-iterator.a.start ≤ 16)
    × (l.total ≡ weight_below l.node-iterator.a.start (by_table l.self.weights) l.set) × (l.total ≤ 15 * l.node-iterator.a.start)
