-- The laws that every voting rule keeps. A rule is a test of two sets: votes, and a configuration.
use Rattle.std.specs.Prelude.{◌≡◌, ℕ, ◌<◌, Bool, true, false}
use Rattle.quorum.specs.declared.node_set.NodeSet.{NodeSet}
use Rattle.quorum.specs.Sets.{member, nobody}

-- two quorums of one configuration share a node
abbrev pub Shared : (NodeSet → NodeSet → Bool) → Type 0
Shared quorum =
    (a b configuration : NodeSet) → quorum a configuration ≡ true → quorum b configuration ≡ true
    → (n : ℕ) × (member n a ≡ true) × (member n b ≡ true)

-- more votes never undo a yes
abbrev pub Grows : (NodeSet → NodeSet → Bool) → Type 0
Grows quorum =
    (a b configuration : NodeSet) → ((n : ℕ) → member n a ≡ true → member n b ≡ true)
    → quorum a configuration ≡ true → quorum b configuration ≡ true

-- every set that has a node is a quorum of itself
abbrev pub Whole : (NodeSet → NodeSet → Bool) → Type 0
Whole quorum = (s : NodeSet) (n : ℕ) → n < 16 → member n s ≡ true → quorum s s ≡ true

-- the empty set has no quorum
abbrev pub Void : (NodeSet → NodeSet → Bool) → Type 0
Void quorum = (votes : NodeSet) → quorum votes nobody ≡ false
