-- What a log certifies: points that stand, the step from a point to its successor, elections and choices.
use Rattle.std.proofs.Common.{◌≡◌, ℕ, ◌<◌, true, ◌⊎◌, List, refl}
use Rattle.quorum.specs.declared.node_set.NodeSet.{NodeSet}
use Rattle.quorum.specs.Sets.{member}
use Rattle.protocol.specs.declared.message.Message.{Message}
use Rattle.protocol.specs.declared.message.Message.TheVariants as message
use Rattle.protocol.specs.declared.message.Join.{Join}
use Rattle.protocol.specs.declared.message.Publication.{Publication}
use Rattle.protocol.specs.declared.message.Response.{Response}
use Rattle.protocol.specs.declared.message.Commit.{Commit}
use Rattle.protocol.specs.History.{Published}
use Rattle.protocol.proofs.Setting.{Setting}
use Rattle.protocol.proofs.Log.{Has}
use Rattle.protocol.proofs.Points.{Upto}

module _ {V : Type 0} (log : List (Message V)) where
  -- some commit of the log is of term t and version v
  pub record Decided (t v : ℕ) : Type 0 where
    pub commit : Commit
    pub has : Has log (message.Commit commit)
    pub of_term : commit.term ≡ t
    pub of_version : commit.version ≡ v

  -- some publication is of term t and version v
  pub record PublicationAt (t v : ℕ) : Type 0 where
    pub publication : Publication V
    pub published : Published log publication t v

  -- s has joined n in term T
  pub record Voted (s n T : ℕ) : Type 0 where
    pub join : Join
    pub has : Has log (message.Join join)
    pub of_source : join.source ≡ s
    pub of_destination : join.destination ≡ n
    pub of_term : join.term ≡ T

  -- s has joined n in term T, and the point of that join is not after (bt, bv)
  pub record Joined (s n T bt bv : ℕ) : Type 0 where
    pub vote : Voted s n T
    pub upto : Upto vote.join.base_term vote.join.base_version bt bv

  -- s has accepted the publication of term t and version v
  pub record Responded (s t v : ℕ) : Type 0 where
    pub response : Response
    pub has : Has log (message.Response response)
    pub of_source : response.source ≡ s
    pub of_term : response.term ≡ t
    pub of_version : response.version ≡ v

  -- a vote in a term is one in that term by any name
  pub voted_in : {s n T U : ℕ} → T ≡ U → Voted s n T → Voted s n U
  voted_in e v = rw e at v

  -- the log has this publication, so it is published at its point
  pub published_at : {p : Publication V} → Has log (message.Publication p) → Published log p p.term p.version
  published_at {p} h = record { entry = h.entry; there = h.there; of_term = refl; of_version = refl }

  -- what is published at a point is in the log
  pub published_has : {p : Publication V} {t v : ℕ} → Published log p t v → Has log (message.Publication p)
  published_has h = record { entry = h.entry; there = h.there }

module _ {V : Type 0} (S : Setting) (log : List (Message V)) where
  -- The point (t, v) stands with committed configuration K and configuration C: it is a root, which has term 0 and the
  -- initial configuration for both, or a publication has it and them.
  pub data Stands (t v : ℕ) (K C : NodeSet) : Type 0 where
    root : t ≡ 0 → K ≡ S.initial → C ≡ S.initial → Stands t v K C
    published : (p : Publication V) → Published log p t v → K ≡ p.committed_configuration → C ≡ p.configuration
        → Stands t v K C

  -- K and C may follow the point (t, v): K is its committed configuration, or its configuration if it is committed, and C is
  -- its configuration, unless K is.
  pub record Follows (t v : ℕ) (K C : NodeSet) : Type 0 where
    pub base_committed : NodeSet
    pub base_configuration : NodeSet
    pub stands : Stands t v base_committed base_configuration
    pub keeps : (K ≡ base_committed) ⊎ ((K ≡ base_configuration) × Decided log t v)
    pub moves : (C ≡ base_configuration) ⊎ (K ≡ base_configuration)

  -- n is elected in term T by the joins of J on top of the point (bt, bv), which K and C follow
  pub record Elected (T n bt bv : ℕ) (K C J : NodeSet) : Type 0 where
    pub earlier : bt < T
    pub follows : Follows bt bv K C
    pub joins : (s : ℕ) → member s J ≡ true → Joined log s n T bt bv
    pub of_configuration : S.quorum J C ≡ true
    pub of_committed : S.quorum J K ≡ true

  -- n is elected in term T, on top of some point
  pub record Election (T n : ℕ) : Type 0 where
    pub base_term : ℕ
    pub base_version : ℕ
    pub committed : NodeSet
    pub configuration : NodeSet
    pub voters : NodeSet
    pub elected : Elected T n base_term base_version committed configuration voters

  -- the publication p is chosen: the nodes that accepted it are a quorum of both its configurations
  pub record Chosen (t v : ℕ) : Type 0 where
    pub publication : Publication V
    pub published : Published log publication t v
    pub voters : NodeSet
    pub responses : (s : ℕ) → member s voters ≡ true → Responded log s t v
    pub of_configuration : S.quorum voters publication.configuration ≡ true
    pub of_committed : S.quorum voters publication.committed_configuration ≡ true
