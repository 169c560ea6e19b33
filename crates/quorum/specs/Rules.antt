-- The two voting rules: the votes inside a configuration weigh more than half of it.
use Rattle.std.specs.Prelude.{ℕ, zero, suc, ◌+◌, ◌*◌, min, max, Bool, cond, List, nat_lt, slice_index}
use Rattle.quorum.specs.declared.node_set.NodeSet.{NodeSet}
use Rattle.quorum.specs.Sets.{member, common}

-- the weights of those of the first k nodes that are in the set, added up
unfoldable pub weight_below : ℕ → (ℕ → ℕ) → NodeSet → ℕ
weight_below zero weight s = 0
weight_below (suc k) weight s = weight_below k weight s + cond (member k s) (weight k) 0

-- the weight of a set of up to 16 nodes
abbrev pub weight_of : (ℕ → ℕ) → NodeSet → ℕ
weight_of weight s = weight_below 16 weight s

-- twice the weight of the votes inside the configuration exceeds its weight
abbrev pub outweighs : (ℕ → ℕ) → NodeSet → NodeSet → Bool
outweighs weight votes configuration =
    nat_lt (weight_of weight configuration) (2 * weight_of weight (common votes configuration))

-- every node counts for one
abbrev pub one_each : ℕ → ℕ
one_each n = 1

-- a weight is from 1 to 15: 0 is taken as 1, and more than 15 as 15
abbrev pub taken_as : ℕ → ℕ
taken_as w = max 1 (min w 15)

-- node n counts for the weight at place n of the table
abbrev pub by_table : List ℕ → ℕ → ℕ
by_table weights n = taken_as (slice_index weights n)

-- the majority rule: twice the votes inside the configuration exceed its size
abbrev pub majority : NodeSet → NodeSet → Bool
majority = outweighs one_each

-- the weighted rule
abbrev pub weighted : List ℕ → NodeSet → NodeSet → Bool
weighted weights = outweighs (by_table weights)
