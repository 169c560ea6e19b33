-- The invariant of a node: everything that speaks of what one node has stored or keeps in memory.
use Rattle.std.proofs.Common.{◌≡◌, ℕ, ◌<◌, ◌≤◌, true, ◌⊎◌, List}
use Rattle.quorum.specs.Sets.{member, nobody}
use Rattle.protocol.specs.declared.record.Record.{Record}
use Rattle.protocol.specs.declared.volatile.Volatile.{Volatile}
use Rattle.protocol.specs.declared.message.Message.{Message}
use Rattle.protocol.specs.declared.message.Message.TheVariants as message
use Rattle.protocol.specs.declared.message.Join.{Join}
use Rattle.protocol.specs.declared.message.Publication.{Publication}
use Rattle.protocol.specs.declared.message.Response.{Response}
use Rattle.protocol.specs.History.{Published}
use Rattle.protocol.proofs.Setting.{Setting}
use Rattle.protocol.proofs.Log.{Has}
use Rattle.protocol.proofs.Points.{Upto}
use Rattle.protocol.proofs.Certificates.{Decided, Joined, Responded, Election}

module _ {V : Type 0} (S : Setting) (log : List (Message V)) (r : Record V) where
  -- What a node has accepted: nothing but perhaps the initial configuration, or a publication with its value and its
  -- configuration, which the node may know to be committed.
  pub data Accepted : Type 0 where
    nothing_yet : r.last_accepted_term ≡ 0 → r.last_committed_configuration ≡ r.last_accepted_configuration
        → (r.last_accepted_configuration ≡ nobody) ⊎ (r.last_accepted_configuration ≡ S.initial) → Accepted
    publication : (p : Publication V) → Published log p r.last_accepted_term r.last_accepted_version
        → r.last_accepted_value ≡ p.value → r.last_accepted_configuration ≡ p.configuration
        → (r.last_committed_configuration ≡ p.committed_configuration)
        ⊎ ((r.last_committed_configuration ≡ p.configuration)
        × Decided log r.last_accepted_term r.last_accepted_version)
        → Accepted

module _ {V : Type 0} (S : Setting) (r : Record V) (w : Volatile) where
  -- how a node that has started a join stands to a publication of its own in its current term
  pub record Leads (p : Publication V) : Type 0 where
    -- it has won the election
    pub won : w.election_won ≡ true
    -- the publication is not newer than its last
    pub not_newer : p.version ≤ w.last_published_version
    -- its join votes are a quorum of the publication's configurations
    pub of_configuration : S.quorum w.join_votes p.configuration ≡ true
    pub of_committed : S.quorum w.join_votes p.committed_configuration ≡ true
    -- the publication is its last, or it has accepted that one or a newer one
    pub last_or_accepted : (p.version ≡ w.last_published_version)
        ⊎ ((r.last_accepted_term ≡ r.current_term) × (p.version ≤ r.last_accepted_version))
    -- while it has accepted nothing of this term, the publication is newer than what it has accepted
    pub ahead : r.last_accepted_term < r.current_term → r.last_accepted_version < p.version

module _ {V : Type 0} (S : Setting) (log : List (Message V)) (n : ℕ) (r : Record V) (w : Volatile) where
  -- the node's last publication, as it stands in the log
  pub record LastPublished (p : Publication V) : Type 0 where
    pub configuration : w.last_published_configuration ≡ p.configuration
    pub committed : (r.last_committed_configuration ≡ p.committed_configuration)
        ⊎ Decided log r.current_term w.last_published_version

  -- what holds of node n with record r and memory w
  pub record NodeInvariant : Type 0 where
    -- it has joined in no later term
    pub joins_are_past : (j : Join) → Has log (message.Join j) → j.source ≡ n → j.term ≤ r.current_term
    -- it has published in no later term
    pub publications_are_past : (p : Publication V) → Has log (message.Publication p) → p.source ≡ n
        → p.term ≤ r.current_term
    -- it has accepted nothing of a later term
    pub accepted_is_past : r.last_accepted_term ≤ r.current_term
    -- what it has responded to is not after what it has accepted
    pub responses_are_accepted : (m : Response) → Has log (message.Response m) → m.source ≡ n
        → Upto m.term m.version r.last_accepted_term r.last_accepted_version
    -- what it has accepted
    pub accepted : Accepted S log r
    -- each join vote is a join to it in its current term, on a point not after what it has accepted
    pub votes_are_joins : (s : ℕ) → member s w.join_votes ≡ true
        → Joined log s n r.current_term r.last_accepted_term r.last_accepted_version
    -- a leader has started a join
    pub leader_started_join : w.election_won ≡ true → w.started_join ≡ true
    -- its join votes are a quorum of its configurations
    pub of_configuration : w.election_won ≡ true → S.quorum w.join_votes r.last_accepted_configuration ≡ true
    pub of_committed : w.election_won ≡ true → S.quorum w.join_votes r.last_committed_configuration ≡ true
    -- it was elected in its current term
    pub leader_is_elected : w.election_won ≡ true → Election S log r.current_term n
    -- who has published in its current term, and has started a join, leads
    pub publisher_leads : w.started_join ≡ true → (p : Publication V) → Has log (message.Publication p) → p.source ≡ n
        → p.term ≡ r.current_term → Leads S r w p
    -- a leader knows the configurations of its last publication
    pub last_published : w.election_won ≡ true → (p : Publication V)
        → Published log p r.current_term w.last_published_version → LastPublished p
    -- each publish vote is a response to a leader's last publication
    pub votes_lead : (s : ℕ) → member s w.publish_votes ≡ true → w.election_won ≡ true
    pub votes_are_responses : (s : ℕ) → member s w.publish_votes ≡ true
        → Responded log s r.current_term w.last_published_version
