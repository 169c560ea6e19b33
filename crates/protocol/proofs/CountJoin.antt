-- A join delivered: the node counts a vote more, and may win by it.
use Rattle.std.proofs.Common.{◌≡◌, ℕ, true, false, not, ◌&&◌, ◌⊎◌, List, sym, refl, ◌∙◌, inl, inr, ⊎_elim, arith}
use Rattle.std.proofs.lemmas.Bool.{both_ways, cases_Bool, cases_lt, and_parts, and_from, and_right, not_from_true, cond-false}
use Rattle.quorum.specs.declared.node_set.NodeSet.{NodeSet}
use Rattle.quorum.specs.Sets.{member, with_node}
use Rattle.protocol.specs.declared.record.Record.{Record}
use Rattle.protocol.specs.declared.volatile.Volatile.{Volatile}
use Rattle.protocol.specs.declared.message.Message.{Message}
use Rattle.protocol.specs.declared.message.Join.{Join}
use Rattle.protocol.specs.declared.message.Publication.{Publication}
use Rattle.protocol.specs.History.{Published}
use Rattle.protocol.proofs.Setting.{Setting, quorum_of_somebody}
use Rattle.protocol.proofs.Certificates.{Joined, Election, voted_in, published_has}
use Rattle.protocol.proofs.LogInvariant.{LogInvariant}
use Rattle.protocol.proofs.NodeInvariant.{Accepted, Leads, LastPublished, NodeInvariant}
use Rattle.protocol.proofs.NodeInvariant.Accepted.{nothing_yet, publication}
use Rattle.protocol.proofs.Election.{one_vote, publisher_is_leader}
use Rattle.protocol.proofs.Effects.{wins, counting_join}
use Rattle.protocol.proofs.Steps.{MayCountJoin}
use Rattle.protocol.proofs.Votes.{vote_stays, vote_is_old_or_new}
use Rattle.protocol.proofs.AcceptedPoint.{accepted_is_followed}

module _ {V : Type 0} (S : Setting) {log : List (Message V)} (I : LogInvariant S log) {n : ℕ} {r : Record V} {w : Volatile}
    (N : NodeInvariant S log n r w) (m : Join) (may : MayCountJoin log n r w m) where
  -- the votes with the new one
  abbrev votes : NodeSet
  votes = with_node m.source w.join_votes

  -- a quorum stays a quorum
  still_quorum : (c : NodeSet) → S.quorum w.join_votes c ≡ true → S.quorum votes c ≡ true
  still_quorum c h = S.grows w.join_votes votes c (vote_stays m.source w.join_votes) h

  -- each vote is a join
  votes_join : (s : ℕ) → member s votes ≡ true
      → Joined log s n r.current_term r.last_accepted_term r.last_accepted_version
  votes_join s v =
      ⊎_elim (λ old. N.votes_are_joins s old)
      (λ e. record {
        vote = record { join = m; has = may.sent; of_source = sym e; of_destination = may.destination; of_term = may.current };
        upto = may.not_ahead;
      })
      (vote_is_old_or_new m.source w.join_votes s v)

  -- a leader stays a leader
  still_wins : w.election_won ≡ true → wins S.quorum r votes ≡ true
  still_wins e =
      and_from (S.quorum votes r.last_accepted_configuration) (S.quorum votes r.last_committed_configuration)
      (still_quorum r.last_accepted_configuration (N.of_configuration e))
      (still_quorum r.last_committed_configuration (N.of_committed e))

  -- what winning votes are quorums of
  winners : wins S.quorum r votes ≡ true
      → (S.quorum votes r.last_accepted_configuration ≡ true) × (S.quorum votes r.last_committed_configuration ≡ true)
  winners e =
      and_parts (S.quorum votes r.last_accepted_configuration) (S.quorum votes r.last_committed_configuration) e

  -- a leader's last published version stays
  version_stays : w.election_won ≡ true
      → (counting_join S.quorum r m.source w).last_published_version ≡ w.last_published_version
  version_stays e =
      cond-false (wins S.quorum r votes && not w.election_won) r.last_accepted_version w.last_published_version
      (and_right (wins S.quorum r votes) (not w.election_won) (not_from_true w.election_won e))

  -- who wins now has accepted nothing of its current term
  winner_accepted_before : wins S.quorum r votes ≡ true → w.election_won ≡ false
      → r.last_accepted_term ≡ r.current_term → ⊥
  winner_accepted_before e lost same = go N.accepted
    where
      go : Accepted S log r → ⊥
      go (nothing_yet z k c) = omega (arith, I.join_is_later m may.sent)
      go (publication p h v c k) =
          let has = published_has log h in
          let b = (I.sound p has).backed in
          let quorum : S.quorum votes p.configuration ≡ true = rw c at (winners e).0 in
          let both = S.shared b.voters votes p.configuration b.of_configuration quorum in
          let term : p.term ≡ r.current_term = h.of_term ∙ same in
          let theirs = voted_in log term (b.joins both.0 both.1) in
          let own = one_vote S log I theirs (votes_join both.0 both.2).vote in
          both_ways w.election_won lost (N.publisher_leads may.started p has own term).won

  -- who wins now is elected on what it has accepted
  winner_is_elected : wins S.quorum r votes ≡ true → w.election_won ≡ false → Election S log r.current_term n
  winner_is_elected e lost =
      record {
        base_term = r.last_accepted_term;
        base_version = r.last_accepted_version;
        committed = r.last_committed_configuration;
        configuration = r.last_accepted_configuration;
        voters = votes;
        elected = record {
          earlier = ⊎_elim (λ lt. lt) (λ ge. absurd (winner_accepted_before e lost (omega arith)))
              (cases_lt r.last_accepted_term r.current_term);
          follows = accepted_is_followed S log r r.last_accepted_configuration N.accepted
              (quorum_of_somebody S votes r.last_accepted_configuration (winners e).0) (inl refl);
          joins = votes_join;
          of_configuration = (winners e).0;
          of_committed = (winners e).1;
        };
      }

  -- the leader after the step is elected
  leader_elected : wins S.quorum r votes ≡ true → Election S log r.current_term n
  leader_elected e = ⊎_elim (λ won. N.leader_is_elected won) (λ lost. winner_is_elected e lost) (cases_Bool w.election_won)

  -- who wins now has published nothing in its current term, and nobody else has
  winner_publishes_first : {p : Publication V} {v : ℕ} → wins S.quorum r votes ≡ true → w.election_won ≡ false
      → Published log p r.current_term v → ⊥
  winner_publishes_first {p} e lost h =
      let own = publisher_is_leader S log I (winner_is_elected e lost) h in
      both_ways w.election_won lost (N.publisher_leads may.started p (published_has log h) own h.of_term).won

  -- the node with one join vote more
  pub count_join_keeps : NodeInvariant S log n r (counting_join S.quorum r m.source w)
  count_join_keeps =
      record {
        joins_are_past = N.joins_are_past;
        publications_are_past = N.publications_are_past;
        accepted_is_past = N.accepted_is_past;
        responses_are_accepted = N.responses_are_accepted;
        accepted = N.accepted;
        votes_are_joins = votes_join;
        leader_started_join = λ e. may.started;
        of_configuration = λ e. (winners e).0;
        of_committed = λ e. (winners e).1;
        leader_is_elected = leader_elected;
        publisher_leads = λ j p h e t. leads p (N.publisher_leads j p h e t);
        last_published = λ e p h. last p e h (cases_Bool w.election_won);
        votes_lead = λ s v. still_wins (N.votes_lead s v);
        votes_are_responses = λ s v. rw (version_stays (N.votes_lead s v)) (N.votes_are_responses s v);
      }
    where
      leads : (p : Publication V) → Leads S r w p → Leads S r (counting_join S.quorum r m.source w) p
      leads p l =
          record {
            won = still_wins l.won;
            not_newer = rw (version_stays l.won) l.not_newer;
            of_configuration = still_quorum p.configuration l.of_configuration;
            of_committed = still_quorum p.committed_configuration l.of_committed;
            last_or_accepted = rw (version_stays l.won) l.last_or_accepted;
            ahead = l.ahead;
          }

      last : (p : Publication V) → wins S.quorum r votes ≡ true
          → Published log p r.current_term (counting_join S.quorum r m.source w).last_published_version
          → (w.election_won ≡ true) ⊎ (w.election_won ≡ false)
          → LastPublished S log n r (counting_join S.quorum r m.source w) p
      last p e h (inl won) =
          let l = N.last_published won p (rw (version_stays won) at h) in
          record { configuration = l.configuration; committed = rw (version_stays won) l.committed }
      last p e h (inr lost) = absurd (winner_publishes_first e lost h)
