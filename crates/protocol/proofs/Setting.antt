-- What the protocol is run with: a voting rule that keeps the laws, and the initial configuration.
use Rattle.std.proofs.Common.{◌≡◌, Bool, true}
use Rattle.std.proofs.lemmas.Bool.{both_ways}
use Rattle.quorum.specs.declared.node_set.NodeSet.{NodeSet}
use Rattle.quorum.specs.Sets.{nobody}
use Rattle.quorum.specs.Laws.{Shared, Grows, Void}

-- a voting rule with three laws, and the initial configuration
pub record Setting : Type 0 where
  pub quorum : NodeSet → NodeSet → Bool
  pub shared : Shared quorum
  pub grows : Grows quorum
  pub void : Void quorum
  pub initial : NodeSet

-- a configuration that has a quorum is not empty
pub quorum_of_somebody : (S : Setting) (votes c : NodeSet) → S.quorum votes c ≡ true → c ≡ nobody → ⊥
quorum_of_somebody S votes c h e =
    let q : S.quorum votes nobody ≡ true = rw e at h in both_ways (S.quorum votes nobody) (S.void votes) q
