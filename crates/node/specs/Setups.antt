-- The setup that the definitions of the decisions take, from what the code has.
use Rattle.std.specs.Prelude.{ℕ, Bool, ◌==◌}
use Rattle.quorum.specs.declared.node_set.NodeSet.{NodeSet}
use Rattle.protocol.specs.Decisions.{Setup as Fixed}
use Rattle.node.specs.declared.setup.Setup.{Setup}

-- what the code's setup means, where `quorum` says what its rule means; two values are the same if they are equal numbers
abbrev pub meant : {R : Type 0} → (R → NodeSet → NodeSet → Bool) → Setup R → Fixed ℕ
meant quorum setup = record {
  quorum = quorum setup.rule;
  same_value = ◌==◌;
  initial_configuration = setup.initial_configuration;
  initial_value = setup.initial_value;
}
