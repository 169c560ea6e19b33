-- Each turn takes the next weight, and adds it where the set has its node.
use Rattle.std.proofs.Common.{rules, arith}
use Rattle.std.proofs.lemmas.List.{drop_more}
use Rattle.quorum.specs.Rules.{weight_below, by_table}
use Rattle.quorum.specs.WeightsLemmas.{weight_of_one_more}
use Rattle.quorum.proofs.weighted.WeightedWeights.weigh.Goals as goal

pub loop-node-init : goal.loop-node-init
unfolding weight_below
loop-node-init c = search rules

pub loop-node-preserved-then-contains : goal.loop-node-preserved-then-contains
loop-node-preserved-then-contains c =
    let next = drop_more c.args.self.now.weights c.in-Some.node 0 in
    let one = weight_of_one_more c.in-Some.node (by_table c.args.self.now.weights) c.args.set in
    grind arith

pub loop-node-preserved : goal.loop-node-preserved
loop-node-preserved c =
    let next = drop_more c.args.self.now.weights c.in-Some.node 0 in
    let one = weight_of_one_more c.in-Some.node (by_table c.args.self.now.weights) c.args.set in
    grind arith
