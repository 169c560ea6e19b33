-- The bits from `nodes` on are 0 where the set is below 2 ^ nodes.
use Rattle.std.proofs.Common.{◌≡◌, not, eqb, arith}
use Rattle.std.proofs.lemmas.Bool.Decides.{nat_tests, Decides-at}
use Rattle.quorum.specs.Sets.{legal_configuration}
use Rattle.quorum.specs.MembersLemmas.{none_above, configuration_by_members}
use Rattle.quorum.proofs.node_set.NodeSet.is_configuration.Goals as goal

pub returns-then-not-is_empty : goal.returns-then-not-is_empty
returns-then-not-is_empty c =
    let above = none_above c.args.self.bits c.args.nodes in
    let test : eqb c.from_node.result 0 ≡ legal_configuration c.args.nodes c.args.self = grind (arith, nat_tests) in
    record { test = test; meaning = Decides-at _ _ test (configuration_by_members 16 c.args.nodes c.args.self (omega arith)) }

pub returns-else-not-is_empty : goal.returns-else-not-is_empty
returns-else-not-is_empty c =
    let test : not c.is_empty.result ≡ legal_configuration c.args.nodes c.args.self = grind (arith, nat_tests) in
    record { test = test; meaning = Decides-at _ _ test (configuration_by_members 16 c.args.nodes c.args.self (omega arith)) }
