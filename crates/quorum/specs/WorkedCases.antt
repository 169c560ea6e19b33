-- A worked case of the weighted rule.
use Rattle.std.specs.Prelude.{◌≡◌, ℕ, true, false, List, [], ◌∷◌}
use Rattle.quorum.specs.declared.node_set.NodeSet.{NodeSet}
use Rattle.quorum.specs.Rules.{weighted}

-- nodes 0, 1 and 2 weigh 3, 1 and 1, and every other node 1
abbrev pub three_one_one : List ℕ
three_one_one = 3 ∷ 1 ∷ 1 ∷ []

-- the sets {0}, {1, 2} and {0, 1, 2}
abbrev pub first_node : NodeSet
first_node = record { bits = 1 }

abbrev pub light_nodes : NodeSet
light_nodes = record { bits = 6 }

abbrev pub three_nodes : NodeSet
three_nodes = record { bits = 7 }

-- with weights 3, 1 and 1, {0} is a quorum of {0, 1, 2}, and {1, 2} is none
pub record HeavyNodeDecides : Type 0 where
  pub heavy : weighted three_one_one first_node three_nodes ≡ true
  pub light : weighted three_one_one light_nodes three_nodes ≡ false
