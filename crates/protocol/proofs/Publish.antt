-- A leader publishes: the new publication is sound, the newest of its term, and descends from every commit.
use Rattle.std.proofs.Common.{◌≡◌, ℕ, ◌<◌, ◌≤◌, ◌⊎◌, List, sym, refl, ap, ◌∙◌, inl, inr, ⊎_elim, arith}
use Rattle.std.proofs.lemmas.Bool.{cases_lt, cases_eq}
use Rattle.quorum.specs.declared.node_set.NodeSet.{NodeSet}
use Rattle.protocol.specs.declared.record.Record.{Record}
use Rattle.protocol.specs.declared.volatile.Volatile.{Volatile}
use Rattle.protocol.specs.declared.message.Message.{Message}
use Rattle.protocol.specs.declared.message.Message.TheVariants as message
use Rattle.protocol.specs.declared.message.Publication.{Publication}
use Rattle.protocol.specs.declared.message.Join.{Join}
use Rattle.protocol.specs.declared.message.Response.{Response}
use Rattle.protocol.specs.declared.message.Commit.{Commit}
use Rattle.protocol.specs.History.{Published, Descends}
use Rattle.protocol.specs.History.Descends.{from_base, by_base}
use Rattle.protocol.proofs.Setting.{Setting, quorum_of_somebody}
use Rattle.protocol.proofs.Log.{Has, Adds, impossible}
use Rattle.protocol.proofs.Certificates.{Decided, Follows, Elected, published_has}
use Rattle.protocol.proofs.LogInvariant.{LogInvariant, Sound}
use Rattle.protocol.proofs.NodeInvariant.{Accepted, Leads, LastPublished, NodeInvariant}
use Rattle.protocol.proofs.NodeInvariant.Accepted.{nothing_yet, publication}
use Rattle.protocol.proofs.Descent.{committed_upto_base_is_ancestor}
use Rattle.protocol.proofs.Election.{an_election_sees_every_chosen_point, publisher_is_leader}
use Rattle.protocol.proofs.Fits.{FitsPublication}
use Rattle.protocol.proofs.Growth.{joined_grows, election_grows}
use Rattle.protocol.proofs.NodeGrowth.{accepted_grows}
use Rattle.protocol.proofs.Effects.{publishing, publication_message}
use Rattle.protocol.proofs.Steps.{MayPublish}
use Rattle.protocol.proofs.Votes.{no_vote}
use Rattle.protocol.proofs.AcceptedPoint.{accepted_is_followed}

module _ {V : Type 0} (S : Setting) {log : List (Message V)} (I : LogInvariant S log) {n : ℕ} {r : Record V} {w : Volatile}
    (N : NodeInvariant S log n r w) (t v : ℕ) (value : V) (C : NodeSet) (may : MayPublish S r w t v C) where
  -- the new publication
  abbrev made : Publication V
  made = publication_message n r.current_term v value C r

  -- it may follow what the leader has accepted
  made_follows : Follows S log r.last_accepted_term r.last_accepted_version r.last_committed_configuration C
  made_follows =
      accepted_is_followed S log r C N.accepted
      (quorum_of_somebody S w.join_votes r.last_accepted_configuration (N.of_configuration may.won))
      may.reconfigures_once

  -- a leader that has accepted nothing of its term is elected on what it has accepted
  made_elects : r.last_accepted_term < r.current_term
      → Elected S log r.current_term n r.last_accepted_term r.last_accepted_version
      r.last_committed_configuration C w.join_votes
  made_elects lt =
      record {
        earlier = lt;
        follows = made_follows;
        joins = N.votes_are_joins;
        of_configuration = may.join_quorum;
        of_committed = N.of_committed may.won;
      }

  -- it is sound
  made_is_sound : Sound S log made
  made_is_sound =
      record {
        base_terms = N.accepted_is_past;
        base_versions = omega arith;
        follows = made_follows;
        elects = λ lt. record { voters = w.join_votes; elected = made_elects lt };
        backed = record {
          voters = w.join_votes;
          joins = λ s m. (N.votes_are_joins s m).vote;
          of_configuration = may.join_quorum;
        };
        election = N.leader_is_elected may.won;
      }

  -- every publication of this term is the leader's own
  own : (q : Publication V) → Has log (message.Publication q) → q.term ≡ r.current_term → Leads S r w q
  own q h e =
      let here : Published log q r.current_term q.version =
      record { entry = h.entry; there = h.there; of_term = e; of_version = refl } in
      N.publisher_leads (N.leader_started_join may.won) q h
      (publisher_is_leader S log I (N.leader_is_elected may.won) here) e

  -- and the leader has accepted it, or a newer one
  accepted_own : (q : Publication V) → Has log (message.Publication q) → q.term ≡ r.current_term
      → (r.last_accepted_term ≡ r.current_term) × (q.version ≤ r.last_accepted_version)
  accepted_own q h e =
      let l = own q h e in
      let le : q.version ≤ r.last_accepted_version = omega arith in
      ⊎_elim (λ lt. absurd (omega (arith, l.ahead lt))) (λ ge. (omega arith, le))
      (cases_lt r.last_accepted_term r.current_term)

  -- the new publication is newer than the others of its term
  newest : (q : Publication V) → Has log (message.Publication q) → q.term ≡ r.current_term → q.version < v
  newest q h e = omega (arith, (own q h e).not_newer)

  -- and descends from them
  descends : (q : Publication V) → Has log (message.Publication q) → q.term ≡ r.current_term
      → Descends log made q.term q.version
  descends q h e = go N.accepted (cases_eq q.version r.last_accepted_version)
    where
      accepted : (r.last_accepted_term ≡ r.current_term) × (q.version ≤ r.last_accepted_version)
      accepted = accepted_own q h e

      go : Accepted S log r → (q.version ≡ r.last_accepted_version) ⊎ (q.version ≡ r.last_accepted_version → ⊥)
          → Descends log made q.term q.version
      go a (inl same) = from_base (accepted.0 ∙ sym e) (sym same)
      go (nothing_yet z k c) (inr other) = absurd (omega (arith, (N.leader_is_elected may.won).elected.earlier, accepted.0))
      go (publication p g x c k) (inr other) =
          by_base g (I.one_line_a_term q p h (published_has log g) (e ∙ sym accepted.0 ∙ sym g.of_term)
          (omega (arith, accepted.1, g.of_version)))

  -- the new publication descends from the commits of earlier terms
  descends_from_commits : (c : Commit) → Has log (message.Commit c) → c.term < r.current_term
      → Descends log made c.term c.version
  descends_from_commits c h lt = go N.accepted (cases_lt r.last_accepted_term r.current_term)
    where
      decided : Decided log c.term c.version
      decided = record { commit = c; has = h; of_term = refl; of_version = refl }

      go : Accepted S log r → (r.last_accepted_term < r.current_term) ⊎ (r.current_term ≤ r.last_accepted_term)
          → Descends log made c.term c.version
      go a (inl before) =
          committed_upto_base_is_ancestor S log I {p = made} decided made_follows.stands
          (an_election_sees_every_chosen_point S log I (made_elects before) (I.commit_is_chosen c h) lt)
      go (nothing_yet z k e) (inr same) = absurd (omega arith)
      go (publication p g x e k) (inr same) =
          by_base g (I.later_terms_descend c p h (published_has log g) (omega arith))

  -- it fits the log
  pub made_fits : FitsPublication S log made
  made_fits =
      record { sound = made_is_sound; newest = newest; descends = descends; descends_from_commits = descends_from_commits }

  module _ {log' : List (Message V)} (a : Adds log log' (message.Publication made)) where
    -- a publication of the longer log is an old one or the new one
    new_or_old : (q : Publication V) → Has log' (message.Publication q) → Has log (message.Publication q) ⊎ (q ≡ made)
    new_or_old q h = ⊎_elim inl (λ e. inr cc) (a.new (message.Publication q) h)

    -- a join or a response is an old one
    old_join : (j : Join) → Has log' (message.Join j) → Has log (message.Join j)
    old_join j h = ⊎_elim (λ old. old) (λ e. impossible cc) (a.new (message.Join j) h)

    old_response : (m : Response) → Has log' (message.Response m) → Has log (message.Response m)
    old_response m h = ⊎_elim (λ old. old) (λ e. impossible cc) (a.new (message.Response m) h)

    -- the leader with the new publication
    pub publish_keeps : NodeInvariant S log' n r (publishing v C w)
    publish_keeps =
        record {
          joins_are_past = λ j h e. N.joins_are_past j (old_join j h) e;
          publications_are_past = λ q h e.
              ⊎_elim (λ old. N.publications_are_past q old e) (λ x. rw x (omega arith)) (new_or_old q h);
          accepted_is_past = N.accepted_is_past;
          responses_are_accepted = λ m h e. N.responses_are_accepted m (old_response m h) e;
          accepted = accepted_grows S a.keeps N.accepted;
          votes_are_joins = λ s m. joined_grows a.keeps (N.votes_are_joins s m);
          leader_started_join = N.leader_started_join;
          of_configuration = N.of_configuration;
          of_committed = N.of_committed;
          leader_is_elected = λ e. election_grows a.keeps S (N.leader_is_elected e);
          publisher_leads = λ j q h e t. leads q t (new_or_old q h);
          last_published = λ e q h. last q h (new_or_old q (published_has log' h));
          votes_lead = λ s m. no_vote s m;
          votes_are_responses = λ s m. no_vote s m;
        }
      where
        leads : (q : Publication V) → q.term ≡ r.current_term → Has log (message.Publication q) ⊎ (q ≡ made)
            → Leads S r (publishing v C w) q
        leads q t (inl h) =
            let l = own q h t in
            record {
              won = l.won;
              not_newer = omega arith;
              of_configuration = l.of_configuration;
              of_committed = l.of_committed;
              last_or_accepted = inr (accepted_own q h t);
              ahead = l.ahead;
            }
        leads q t (inr e) = rw e leads_made
          where
            leads_made : Leads S r (publishing v C w) made
            leads_made =
                record {
                  won = may.won;
                  not_newer = omega arith;
                  of_configuration = may.join_quorum;
                  of_committed = N.of_committed may.won;
                  last_or_accepted = inl refl;
                  ahead = λ lt. omega arith;
                }

        last : (q : Publication V) → Published log' q r.current_term v → Has log (message.Publication q) ⊎ (q ≡ made)
            → LastPublished S log' n r (publishing v C w) q
        last q h (inl old) = absurd (omega (arith, newest q old h.of_term))
        last q h (inr e) =
            record {
              configuration = sym (ap (λ (x : Publication V). x.configuration) e);
              committed = inl (sym (ap (λ (x : Publication V). x.committed_configuration) e));
            }
