-- A publication delivered: the node accepts it.
use Rattle.std.proofs.Common.{◌≡◌, ℕ, true, List, sym, refl, ap, ◌∙◌, inl, inr, ⊎_elim, arith}
use Rattle.protocol.specs.declared.record.Record.{Record}
use Rattle.protocol.specs.declared.volatile.Volatile.{Volatile}
use Rattle.protocol.specs.declared.message.Message.{Message}
use Rattle.protocol.specs.declared.message.Publication.{Publication}
use Rattle.protocol.specs.History.{Published}
use Rattle.protocol.proofs.Setting.{Setting}
use Rattle.protocol.proofs.Points.{Upto, upto_trans}
use Rattle.protocol.proofs.Certificates.{published_at}
use Rattle.protocol.proofs.LogInvariant.{LogInvariant}
use Rattle.protocol.proofs.NodeInvariant.{Leads, NodeInvariant}
use Rattle.protocol.proofs.NodeInvariant.Accepted.{publication}
use Rattle.protocol.proofs.Descent.{same_publication}
use Rattle.protocol.proofs.Election.{publisher_is_leader}
use Rattle.protocol.proofs.Effects.{accepting}
use Rattle.protocol.proofs.Steps.{MayAccept}

module _ {V : Type 0} (S : Setting) {log : List (Message V)} (I : LogInvariant S log) {n : ℕ} {r : Record V} {w : Volatile}
    (N : NodeInvariant S log n r w) (m : Publication V) (may : MayAccept log r m) where
  -- what the node accepts now is after what it had accepted
  accepts_later : Upto r.last_accepted_term r.last_accepted_version m.term m.version
  accepts_later =
      record {
        terms = omega arith;
        versions = λ e. omega (arith, may.not_accepted (sym e));
      }

  -- the publication, as one of the current term
  current : Published log m r.current_term m.version
  current = record { entry = may.sent.entry; there = may.sent.there; of_term = may.current; of_version = refl }

  -- a leader accepts only its own publications
  leader_accepts_own : w.election_won ≡ true → Leads S r w m
  leader_accepts_own e =
      N.publisher_leads (N.leader_started_join e) m may.sent (publisher_is_leader S log I (N.leader_is_elected e) current)
      may.current

  -- and of those only the last
  leader_accepts_last : w.election_won ≡ true → m.version ≡ w.last_published_version
  leader_accepts_last e =
      ⊎_elim (λ last. last) (λ old. absurd (omega (arith, may.not_accepted (may.current ∙ sym old.0))))
      (leader_accepts_own e).last_or_accepted

  -- the node with what it accepts
  pub accept_keeps : NodeInvariant S log n (accepting m r) w
  accept_keeps =
      record {
        joins_are_past = N.joins_are_past;
        publications_are_past = N.publications_are_past;
        accepted_is_past = omega arith;
        responses_are_accepted = λ k h e. upto_trans (N.responses_are_accepted k h e) accepts_later;
        accepted = publication m (published_at log may.sent) refl refl (inl refl);
        votes_are_joins =
            λ s v. record { vote = (N.votes_are_joins s v).vote; upto = upto_trans (N.votes_are_joins s v).upto accepts_later };
        leader_started_join = N.leader_started_join;
        of_configuration = λ e. (leader_accepts_own e).of_configuration;
        of_committed = λ e. (leader_accepts_own e).of_committed;
        leader_is_elected = N.leader_is_elected;
        publisher_leads = λ j p h e t. leads p (N.publisher_leads j p h e t);
        last_published = λ e p h. record {
          configuration = (N.last_published e p h).configuration;
          committed = inl (ap (λ (x : Publication V). x.committed_configuration)
              (same_publication S log I (rw (leader_accepts_last e) at current) h));
        };
        votes_lead = N.votes_lead;
        votes_are_responses = N.votes_are_responses;
      }
    where
      leads : (p : Publication V) → Leads S r w p → Leads S (accepting m r) w p
      leads p l =
          record {
            won = l.won;
            not_newer = l.not_newer;
            of_configuration = l.of_configuration;
            of_committed = l.of_committed;
            last_or_accepted =
                ⊎_elim inl
                (λ old. inr (may.current, omega (arith, may.not_accepted (may.current ∙ sym old.0))))
                l.last_or_accepted;
            ahead = λ lt. absurd (omega arith);
          }
