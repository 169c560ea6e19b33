-- A response delivered: the leader counts a vote more, and what its votes decide is chosen.
use Rattle.std.proofs.Common.{◌≡◌, ℕ, true, ◌⊎◌, List, sym, inl, inr, ⊎_elim}
use Rattle.std.proofs.lemmas.Bool.{and_parts}
use Rattle.quorum.specs.declared.node_set.NodeSet.{NodeSet}
use Rattle.quorum.specs.Sets.{member, with_node}
use Rattle.protocol.specs.declared.record.Record.{Record}
use Rattle.protocol.specs.declared.volatile.Volatile.{Volatile}
use Rattle.protocol.specs.declared.message.Message.{Message}
use Rattle.protocol.specs.declared.message.Publication.{Publication}
use Rattle.protocol.specs.declared.message.Response.{Response}
use Rattle.protocol.proofs.Setting.{Setting}
use Rattle.protocol.proofs.Certificates.{Decided, PublicationAt, Responded, Chosen}
use Rattle.protocol.proofs.LogInvariant.{LogInvariant}
use Rattle.protocol.proofs.NodeInvariant.{Leads, LastPublished, NodeInvariant}
use Rattle.protocol.proofs.Descent.{decided_is_chosen}
use Rattle.protocol.proofs.Effects.{counting_response, decides}
use Rattle.protocol.proofs.Steps.{MayCountResponse}
use Rattle.protocol.proofs.Votes.{vote_is_old_or_new}

module _ {V : Type 0} (S : Setting) {log : List (Message V)} (I : LogInvariant S log) {n : ℕ} {r : Record V} {w : Volatile}
    (N : NodeInvariant S log n r w) (m : Response) (may : MayCountResponse log n r w m) where
  -- the votes with the new one
  abbrev votes : NodeSet
  votes = with_node m.source w.publish_votes

  -- each vote is a response to the last publication
  votes_respond : (s : ℕ) → member s votes ≡ true → Responded log s r.current_term w.last_published_version
  votes_respond s v =
      ⊎_elim (λ old. N.votes_are_responses s old)
      (λ e. record { response = m; has = may.sent; of_source = sym e; of_term = may.current; of_version = may.last })
      (vote_is_old_or_new m.source w.publish_votes s v)

  -- the leader with one publish vote more
  pub count_response_keeps : NodeInvariant S log n r (counting_response m.source w)
  count_response_keeps =
      record {
        joins_are_past = N.joins_are_past;
        publications_are_past = N.publications_are_past;
        accepted_is_past = N.accepted_is_past;
        responses_are_accepted = N.responses_are_accepted;
        accepted = N.accepted;
        votes_are_joins = N.votes_are_joins;
        leader_started_join = N.leader_started_join;
        of_configuration = N.of_configuration;
        of_committed = N.of_committed;
        leader_is_elected = N.leader_is_elected;
        publisher_leads = λ j p h e t. leads p (N.publisher_leads j p h e t);
        last_published = λ e p h.
            let l = N.last_published e p h in record { configuration = l.configuration; committed = l.committed };
        votes_lead = λ s v. may.won;
        votes_are_responses = votes_respond;
      }
    where
      leads : (p : Publication V) → Leads S r w p → Leads S r (counting_response m.source w) p
      leads p l =
          record {
            won = l.won;
            not_newer = l.not_newer;
            of_configuration = l.of_configuration;
            of_committed = l.of_committed;
            last_or_accepted = l.last_or_accepted;
            ahead = l.ahead;
          }

  -- what the votes decide is chosen
  pub decided_by_votes_is_chosen : decides S.quorum r w votes ≡ true → Chosen S log m.term m.version
  decided_by_votes_is_chosen e = rw (may.current, may.last) (go known.committed)
    where
      last : PublicationAt log r.current_term w.last_published_version
      last = rw (may.current, may.last) at (I.response-answers m may.sent)

      known : LastPublished S log n r w last.publication
      known = N.last_published may.won last.publication last.published

      quorums : (S.quorum votes r.last_committed_configuration ≡ true)
          × (S.quorum votes w.last_published_configuration ≡ true)
      quorums =
          and_parts (S.quorum votes r.last_committed_configuration) (S.quorum votes w.last_published_configuration) e

      quorum_at : {c d : NodeSet} → c ≡ d → S.quorum votes c ≡ true → S.quorum votes d ≡ true
      quorum_at x h = rw x at h

      go : (r.last_committed_configuration ≡ last.publication.committed_configuration)
          ⊎ Decided log r.current_term w.last_published_version
          → Chosen S log r.current_term w.last_published_version
      go (inl k) =
          record {
            publication = last.publication;
            published = last.published;
            voters = votes;
            responses = votes_respond;
            of_configuration = quorum_at known.configuration quorums.1;
            of_committed = quorum_at k quorums.0;
          }
      go (inr d) = decided_is_chosen S log I d
