-- The steps that change a node's record or reset the node, in one log: restart, bootstrap, start join and a commit delivered.
use Rattle.std.proofs.Common.{◌≡◌, ℕ, true, List, sym, refl, ◌∙◌, inr, arith}
use Rattle.quorum.specs.Sets.{nobody}
use Rattle.protocol.specs.declared.record.Record.{Record}
use Rattle.protocol.specs.declared.volatile.Volatile.{Volatile}
use Rattle.protocol.specs.declared.message.Message.{Message}
use Rattle.protocol.specs.declared.message.Publication.{Publication}
use Rattle.protocol.specs.declared.message.Commit.{Commit}
use Rattle.protocol.proofs.Setting.{Setting, quorum_of_somebody}
use Rattle.protocol.proofs.Certificates.{Decided, published_has}
use Rattle.protocol.proofs.LogInvariant.{LogInvariant}
use Rattle.protocol.proofs.NodeInvariant.{Accepted, Leads, NodeInvariant}
use Rattle.protocol.proofs.NodeInvariant.Accepted.{nothing_yet, publication}
use Rattle.protocol.proofs.Effects.{reset, ready, bootstrapped, in_term, marked}
use Rattle.protocol.proofs.Steps.{MayBootstrap, MayStartJoin, MayMark}
use Rattle.protocol.proofs.Votes.{never, no_vote, no_bits}

module _ {V : Type 0} (S : Setting) {log : List (Message V)} (I : LogInvariant S log) {n : ℕ} {r : Record V} {w : Volatile}
    (N : NodeInvariant S log n r w) where
  -- a restart forgets the votes
  pub reset_keeps : NodeInvariant S log n r (reset r)
  reset_keeps =
      record {
        joins_are_past = N.joins_are_past;
        publications_are_past = N.publications_are_past;
        accepted_is_past = N.accepted_is_past;
        responses_are_accepted = N.responses_are_accepted;
        accepted = N.accepted;
        votes_are_joins = λ s m. no_vote s m;
        leader_started_join = never;
        of_configuration = never;
        of_committed = never;
        leader_is_elected = never;
        publisher_leads = never;
        last_published = never;
        votes_lead = λ s m. no_vote s m;
        votes_are_responses = λ s m. no_vote s m;
      }

  -- start join: the votes are forgotten, and the node has done nothing yet in the new term
  pub start_join_keeps : (t : ℕ) → MayStartJoin r t → NodeInvariant S log n (in_term t r) (ready r)
  start_join_keeps t may =
      record {
        joins_are_past = λ j h e. omega (arith, N.joins_are_past j h e);
        publications_are_past = λ p h e. omega (arith, N.publications_are_past p h e);
        accepted_is_past = omega arith;
        responses_are_accepted = N.responses_are_accepted;
        accepted = stays N.accepted;
        votes_are_joins = λ s m. no_vote s m;
        leader_started_join = never;
        of_configuration = never;
        of_committed = never;
        leader_is_elected = never;
        publisher_leads = λ j p h e t. absurd (omega (arith, N.publications_are_past p h e));
        last_published = never;
        votes_lead = λ s m. no_vote s m;
        votes_are_responses = λ s m. no_vote s m;
      }
    where
      stays : Accepted S log r → Accepted S log (in_term t r)
      stays (nothing_yet z k c) = nothing_yet z k c
      stays (publication p h v c k) = publication p h v c k

  -- bootstrap: the node had no configuration, so it has accepted nothing and leads nobody
  pub bootstrap_keeps : (value : V) → MayBootstrap r → NodeInvariant S log n (bootstrapped value S.initial r) w
  bootstrap_keeps value may =
      record {
        joins_are_past = N.joins_are_past;
        publications_are_past = N.publications_are_past;
        accepted_is_past = N.accepted_is_past;
        responses_are_accepted = N.responses_are_accepted;
        accepted = first N.accepted;
        votes_are_joins = N.votes_are_joins;
        leader_started_join = N.leader_started_join;
        of_configuration = no_leader;
        of_committed = no_leader;
        leader_is_elected = N.leader_is_elected;
        publisher_leads = λ j p h e t. no_leader (N.publisher_leads j p h e t).won;
        last_published = no_leader;
        votes_lead = N.votes_lead;
        votes_are_responses = N.votes_are_responses;
      }
    where
      empty : r.last_accepted_configuration ≡ nobody
      empty = no_bits r.last_accepted_configuration may.empty

      no_leader : {A : Type 0} → w.election_won ≡ true → A
      no_leader e =
          absurd (quorum_of_somebody S w.join_votes r.last_accepted_configuration (N.of_configuration e) empty)

      first : Accepted S log r → Accepted S log (bootstrapped value S.initial r)
      first (nothing_yet z k c) = nothing_yet z refl (inr refl)
      first (publication p h v c k) =
          let b = (I.sound p (published_has log h)).backed in
          absurd (quorum_of_somebody S b.voters p.configuration b.of_configuration (sym c ∙ empty))

  -- a commit delivered: what the node has accepted is committed
  pub mark_keeps : (m : Commit) → MayMark log r w m → NodeInvariant S log n (marked r) w
  mark_keeps m may =
      record {
        joins_are_past = N.joins_are_past;
        publications_are_past = N.publications_are_past;
        accepted_is_past = N.accepted_is_past;
        responses_are_accepted = N.responses_are_accepted;
        accepted = marks N.accepted;
        votes_are_joins = N.votes_are_joins;
        leader_started_join = N.leader_started_join;
        of_configuration = N.of_configuration;
        of_committed = N.of_configuration;
        leader_is_elected = N.leader_is_elected;
        publisher_leads = λ j p h e t. leads p (N.publisher_leads j p h e t);
        last_published = λ e p h. record {
          configuration = (N.last_published e p h).configuration;
          committed = inr (record {
            commit = m;
            has = may.sent;
            of_term = may.current;
            of_version = may.accepted_version ∙ may.not_newer e;
          });
        };
        votes_lead = N.votes_lead;
        votes_are_responses = N.votes_are_responses;
      }
    where
      decided : Decided log r.last_accepted_term r.last_accepted_version
      decided = record { commit = m; has = may.sent; of_term = may.accepted_term; of_version = may.accepted_version }

      marks : Accepted S log r → Accepted S log (marked r)
      marks (nothing_yet z k c) = nothing_yet z refl c
      marks (publication p h v c k) = publication p h v c (inr (c, decided))

      leads : (p : Publication V) → Leads S r w p → Leads S (marked r) w p
      leads p l =
          record {
            won = l.won;
            not_newer = l.not_newer;
            of_configuration = l.of_configuration;
            of_committed = l.of_committed;
            last_or_accepted = l.last_or_accepted;
            ahead = l.ahead;
          }
