-- The invariant of a node holds on while the log grows, if what is new does not concern the node.
use Rattle.std.proofs.Common.{◌≡◌, ℕ, ◌≤◌, true, List, inl, inr, ⊎_elim}
use Rattle.protocol.specs.declared.record.Record.{Record}
use Rattle.protocol.specs.declared.volatile.Volatile.{Volatile}
use Rattle.protocol.specs.declared.message.Message.{Message}
use Rattle.protocol.specs.declared.message.Message.TheVariants as message
use Rattle.protocol.specs.declared.message.Join.{Join}
use Rattle.protocol.specs.declared.message.Publication.{Publication}
use Rattle.protocol.specs.declared.message.Response.{Response}
use Rattle.protocol.specs.History.{Published}
use Rattle.protocol.proofs.Setting.{Setting}
use Rattle.protocol.proofs.Log.{Has, Grown}
use Rattle.protocol.proofs.Points.{Upto}
use Rattle.protocol.proofs.Growth.{published_grows, decided_grows, joined_grows, responded_grows, election_grows}
use Rattle.protocol.proofs.NodeInvariant.{Accepted, NodeInvariant}
use Rattle.protocol.proofs.NodeInvariant.Accepted.{nothing_yet, publication}

-- what a node has accepted it has accepted in a longer log
pub accepted_grows : {V : Type 0} (S : Setting) {log log' : List (Message V)} → Grown log log' → {r : Record V}
    → Accepted S log r → Accepted S log' r
accepted_grows S grown (nothing_yet e k c) = nothing_yet e k c
accepted_grows S grown (publication p h v c k) =
    publication p (published_grows grown h) v c (⊎_elim inl (λ d. inr (d.0, decided_grows grown d.1)) k)

-- What a longer log must not have for the invariant of node n to hold on: joins of n in later terms, responses of n to what it
-- has not accepted, new publications of n, and new ones at the point that n, as a leader, published last.
pub record Unconcerned {V : Type 0} (log log' : List (Message V)) (n : ℕ) (r : Record V) (w : Volatile) : Type 0 where
  pub grown : Grown log log'
  pub joins_are_past : (j : Join) → Has log' (message.Join j) → j.source ≡ n → j.term ≤ r.current_term
  pub responses_are_accepted : (m : Response) → Has log' (message.Response m) → m.source ≡ n
      → Upto m.term m.version r.last_accepted_term r.last_accepted_version
  pub own_publications : (p : Publication V) → Has log' (message.Publication p) → p.source ≡ n → Has log (message.Publication p)
  pub last_publication : w.election_won ≡ true → (p : Publication V)
      → Published log' p r.current_term w.last_published_version
      → Published log p r.current_term w.last_published_version

-- the invariant of a node that a longer log does not concern
pub node_grows : {V : Type 0} (S : Setting) {log log' : List (Message V)} {n : ℕ} {r : Record V} {w : Volatile}
    → Unconcerned log log' n r w → NodeInvariant S log n r w → NodeInvariant S log' n r w
node_grows S u N =
    record {
      joins_are_past = u.joins_are_past;
      publications_are_past = λ p h e. N.publications_are_past p (u.own_publications p h e) e;
      accepted_is_past = N.accepted_is_past;
      responses_are_accepted = u.responses_are_accepted;
      accepted = accepted_grows S u.grown N.accepted;
      votes_are_joins = λ s m. joined_grows u.grown (N.votes_are_joins s m);
      leader_started_join = N.leader_started_join;
      of_configuration = N.of_configuration;
      of_committed = N.of_committed;
      leader_is_elected = λ e. election_grows u.grown S (N.leader_is_elected e);
      publisher_leads = λ j p h e. N.publisher_leads j p (u.own_publications p h e) e;
      last_published = λ e p h.
          let l = N.last_published e p (u.last_publication e p h) in
          record {
            configuration = l.configuration;
            committed = ⊎_elim inl (λ d. inr (decided_grows u.grown d)) l.committed;
          };
      votes_lead = N.votes_lead;
      votes_are_responses = λ s m. responded_grows u.grown (N.votes_are_responses s m);
    }
