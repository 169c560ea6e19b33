-- The steps of the protocol, by frames: what a step asks, what the node that takes it then has, and that nothing else changes.
use Rattle.std.proofs.Common.{◌≡◌, ℕ, ◌<◌, true, false, ◌⊎◌, List, []}
use Rattle.quorum.specs.declared.node_set.NodeSet.{NodeSet}
use Rattle.quorum.specs.Sets.{with_node}
use Rattle.protocol.specs.declared.record.Record.{Record}
use Rattle.protocol.specs.declared.volatile.Volatile.{Volatile}
use Rattle.protocol.specs.declared.message.Message.{Message}
use Rattle.protocol.specs.declared.message.Message.TheVariants as message
use Rattle.protocol.specs.declared.message.Join.{Join}
use Rattle.protocol.specs.declared.message.Publication.{Publication}
use Rattle.protocol.specs.declared.message.Response.{Response}
use Rattle.protocol.specs.declared.message.Commit.{Commit}
use Rattle.protocol.proofs.Setting.{Setting}
use Rattle.protocol.proofs.Log.{Has, Sent}
use Rattle.protocol.proofs.Points.{Upto}
use Rattle.protocol.specs.Decisions.{NodeState}
use Rattle.protocol.proofs.Effects.{
  reset,
  ready,
  bootstrapped,
  in_term,
  accepting,
  marked,
  counting_join,
  publishing,
  counting_response,
  decides,
  join_message,
  publication_message,
  response_message,
  commit_message,
}

-- every node by its number, and the log
pub record State (V : Type 0) : Type 0 where
  pub node : ℕ → NodeState V
  pub log : List (Message V)

-- what a node has stored
abbrev pub stored : {V : Type 0} → State V → ℕ → Record V
stored s n = (s.node n).kept

-- what a node has in memory
abbrev pub memory : {V : Type 0} → State V → ℕ → Volatile
memory s n = (s.node n).volatile

-- What each step asks of the node that takes it, with its record r and its memory w. The code refuses more: the sender and
-- the destination of a message are nodes, and a configuration is legal. Nothing of that is needed here.

-- bootstrap: no configuration yet
pub record MayBootstrap {V : Type 0} (r : Record V) : Type 0 where
  pub empty : r.last_accepted_configuration.bits ≡ 0

-- start join: a higher term
pub record MayStartJoin {V : Type 0} (r : Record V) (t : ℕ) : Type 0 where
  pub higher : r.current_term < t

-- publish in term t a value of version v with configuration C
pub record MayPublish {V : Type 0} (S : Setting) (r : Record V) (w : Volatile) (t v : ℕ) (C : NodeSet) : Type 0 where
  pub won : w.election_won ≡ true
  pub nothing_under_way : w.last_published_version ≡ r.last_accepted_version
  pub current : t ≡ r.current_term
  pub higher : w.last_published_version < v
  pub reconfigures_once : (C ≡ r.last_accepted_configuration)
      ⊎ (r.last_committed_configuration ≡ r.last_accepted_configuration)
  pub join_quorum : S.quorum w.join_votes C ≡ true

module _ {V : Type 0} (log : List (Message V)) where
  -- a join delivered to node n
  pub record MayCountJoin (n : ℕ) (r : Record V) (w : Volatile) (m : Join) : Type 0 where
    pub sent : Has log (message.Join m)
    pub destination : m.destination ≡ n
    pub current : m.term ≡ r.current_term
    pub started : w.started_join ≡ true
    pub not_ahead : Upto m.base_term m.base_version r.last_accepted_term r.last_accepted_version

  -- a publication delivered
  pub record MayAccept (r : Record V) (m : Publication V) : Type 0 where
    pub sent : Has log (message.Publication m)
    pub current : m.term ≡ r.current_term
    pub not_accepted : m.term ≡ r.last_accepted_term → r.last_accepted_version < m.version

  -- a response delivered to node n
  pub record MayCountResponse (n : ℕ) (r : Record V) (w : Volatile) (m : Response) : Type 0 where
    pub sent : Has log (message.Response m)
    pub destination : m.destination ≡ n
    pub won : w.election_won ≡ true
    pub current : m.term ≡ r.current_term
    pub last : m.version ≡ w.last_published_version

  -- a commit delivered
  pub record MayMark (r : Record V) (w : Volatile) (m : Commit) : Type 0 where
    pub sent : Has log (message.Commit m)
    pub current : m.term ≡ r.current_term
    pub accepted_term : m.term ≡ r.last_accepted_term
    pub accepted_version : m.version ≡ r.last_accepted_version
    pub not_newer : w.election_won ≡ true → r.last_accepted_version ≡ w.last_published_version

module _ {V : Type 0} (S : Setting) (value : V) (log : List (Message V)) (r : Record V) (w : Volatile) where
  -- the four writes to a node's store, with the record after each
  pub data Write (r' : Record V) : Type 0 where
    bootstrap : MayBootstrap r → r' ≡ bootstrapped value S.initial r → Write r'
    start_join : (t : ℕ) → MayStartJoin r t → r' ≡ in_term t r → Write r'
    accept : (m : Publication V) → MayAccept log r m → r' ≡ accepting m r → Write r'
    mark : (m : Commit) → MayMark log r w m → r' ≡ marked r → Write r'

-- node n is now as these say, and every other node is as it was
pub record Moves {V : Type 0} (before after : State V) (n : ℕ) (r : Record V) (w : Volatile) : Type 0 where
  pub now : after.node n ≡ record { kept = r; volatile = w }
  pub others : (k : ℕ) → (k ≡ n → ⊥) → after.node k ≡ before.node k

-- a step from one state to another; the value is the one to bootstrap with
pub data Step {V : Type 0} (S : Setting) (value : V) (before after : State V) : Type 0 where
  bootstrap : (n : ℕ)
      → MayBootstrap (stored before n)
      → Moves before after n (bootstrapped value S.initial (stored before n)) (memory before n)
      → after.log ≡ before.log → Step S value before after
  start_join : (n d t : ℕ)
      → MayStartJoin (stored before n) t
      → Moves before after n (in_term t (stored before n)) (ready (stored before n))
      → Sent before.log after.log (message.Join (join_message n d t (stored before n))) → Step S value before after
  deliver_join : (n : ℕ) (m : Join)
      → MayCountJoin before.log n (stored before n) (memory before n) m
      → Moves before after n (stored before n) (counting_join S.quorum (stored before n) m.source (memory before n))
      → after.log ≡ before.log → Step S value before after
  publish : (n t v : ℕ) (x : V) (configuration : NodeSet)
      → MayPublish S (stored before n) (memory before n) t v configuration
      → Moves before after n (stored before n) (publishing v configuration (memory before n))
      → Sent before.log after.log (message.Publication (publication_message n t v x configuration (stored before n)))
      → Step S value before after
  deliver_publication : (n : ℕ) (m : Publication V)
      → MayAccept before.log (stored before n) m
      → Moves before after n (accepting m (stored before n)) (memory before n)
      → Sent before.log after.log (message.Response (response_message n m)) → Step S value before after
  deliver-response : (n : ℕ) (m : Response)
      → MayCountResponse before.log n (stored before n) (memory before n) m
      → decides S.quorum (stored before n) (memory before n) (with_node m.source (memory before n).publish_votes) ≡ false
      → Moves before after n (stored before n) (counting_response m.source (memory before n))
      → after.log ≡ before.log → Step S value before after
  deliver_deciding_response : (n : ℕ) (m : Response)
      → MayCountResponse before.log n (stored before n) (memory before n) m
      → decides S.quorum (stored before n) (memory before n) (with_node m.source (memory before n).publish_votes) ≡ true
      → Moves before after n (stored before n) (counting_response m.source (memory before n))
      → Sent before.log after.log (message.Commit (commit_message n m)) → Step S value before after
  deliver_commit : (n : ℕ) (m : Commit)
      → MayMark before.log (stored before n) (memory before n) m
      → Moves before after n (marked (stored before n)) (memory before n)
      → after.log ≡ before.log → Step S value before after
  restart : (n : ℕ)
      → Moves before after n (stored before n) (reset (stored before n))
      → after.log ≡ before.log → Step S value before after
  -- a write that a power cut broke off: the store has the record as it was or the new one, and the node is reset
  unfinished_write : (n : ℕ) (written kept : Record V)
      → Write S value before.log (stored before n) (memory before n) written
      → (kept ≡ stored before n) ⊎ (kept ≡ written)
      → Moves before after n kept (reset kept)
      → after.log ≡ before.log → Step S value before after

-- A node that was never started: its terms are 0 and its configurations empty. Version and value do not matter.
pub record FreshNode {V : Type 0} (s : NodeState V) : Type 0 where
  pub no_term : s.kept.current_term ≡ 0
  pub no_accepted_term : s.kept.last_accepted_term ≡ 0
  pub no_configuration : s.kept.last_accepted_configuration.bits ≡ 0
  pub no_committed_configuration : s.kept.last_committed_configuration.bits ≡ 0
  pub no_memory : s.volatile ≡ reset s.kept

-- the state before the first step
pub record Fresh {V : Type 0} (s : State V) : Type 0 where
  pub nodes : (n : ℕ) → FreshNode (s.node n)
  pub no_messages : s.log ≡ []

-- a state that steps lead to from a fresh start
pub data Reached {V : Type 0} (S : Setting) (value : V) : State V → Type 0 where
  start : {s : State V} → Fresh s → Reached S value s
  next : {s t : State V} → Reached S value s → Step S value s t → Reached S value t
