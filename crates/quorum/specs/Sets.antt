-- Sets of nodes. Bit n of the number stands for node n.
use Rattle.std.specs.Prelude.{◌≡◌, ℕ, ◌/◌, ◌%◌, ◌^◌, ◌<◌, Bool, true, cond, ◌&&◌, ◌==◌, bit_and, bit_or, nat_lt}
use Rattle.quorum.specs.declared.node_set.NodeSet.{NodeSet}

-- node n is in the set
unfoldable pub member : ℕ → NodeSet → Bool
member n s = s.bits / 2 ^ n % 2 == 1

-- the set without nodes
abbrev pub nobody : NodeSet
nobody = record { bits = 0 }

-- the set and node n; a number from 16 on is no node's, and changes nothing
abbrev pub with_node : ℕ → NodeSet → NodeSet
with_node n s = cond (nat_lt n 16) (record { bits = bit_or s.bits (2 ^ n) }) s

-- the nodes that are in both
abbrev pub common : NodeSet → NodeSet → NodeSet
common a b = record { bits = bit_and a.bits b.bits }

-- a legal configuration of n nodes: not the empty set, and no bit from n on
abbrev pub legal_configuration : ℕ → NodeSet → Bool
legal_configuration n s = nat_lt 0 s.bits && nat_lt s.bits (2 ^ n)

-- the same in words of members: some node is in it, and none but nodes below n
pub record Configuration (n : ℕ) (s : NodeSet) : Type 0 where
  pub some : (k : ℕ) × (member k s ≡ true)
  pub known : (k : ℕ) → member k s ≡ true → k < n
