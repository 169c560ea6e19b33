-- What may follow the point that a node has accepted.
use Rattle.std.proofs.Common.{◌≡◌, ◌⊎◌, List, refl, ◌∙◌, inl, inr, ⊎_elim}
use Rattle.quorum.specs.declared.node_set.NodeSet.{NodeSet}
use Rattle.quorum.specs.Sets.{nobody}
use Rattle.protocol.specs.declared.record.Record.{Record}
use Rattle.protocol.specs.declared.message.Message.{Message}
use Rattle.protocol.proofs.Setting.{Setting}
use Rattle.protocol.proofs.Certificates.{Follows}
use Rattle.protocol.proofs.Certificates.Stands.{root, published}
use Rattle.protocol.proofs.NodeInvariant.{Accepted}
use Rattle.protocol.proofs.NodeInvariant.Accepted.{nothing_yet, publication}

-- A node that is bootstrapped may go on from what it has accepted: with the same configuration, or with any other where its
-- two configurations are one.
pub accepted_is_followed : {V : Type 0} (S : Setting) (log : List (Message V)) (r : Record V) (C : NodeSet) → Accepted S log r
    → (r.last_accepted_configuration ≡ nobody → ⊥)
    → (C ≡ r.last_accepted_configuration) ⊎ (r.last_committed_configuration ≡ r.last_accepted_configuration)
    → Follows S log r.last_accepted_term r.last_accepted_version r.last_committed_configuration C
accepted_is_followed S log r C (nothing_yet z k (inl e)) some goes = absurd (some e)
accepted_is_followed S log r C (nothing_yet z k (inr e)) some goes =
    record {
      base_committed = S.initial;
      base_configuration = S.initial;
      stands = root z refl refl;
      keeps = inl (k ∙ e);
      moves = inr (k ∙ e);
    }
accepted_is_followed S log r C (publication p h v c k) some goes =
    record {
      base_committed = p.committed_configuration;
      base_configuration = p.configuration;
      stands = published p h refl refl;
      keeps = k;
      moves = ⊎_elim (λ x. inl (x ∙ c)) (λ y. inr (y ∙ c)) goes;
    }
