-- What a call does to a cluster: its answer, and the world that it leaves.
use Rattle.std.specs.Prelude.{ℕ, Bool, false, cond, not, ◌&&◌, List, [], ◌∷◌, ◌++◌, map, length, Some, None, Ok, Err, Option, Result, ◌==◌, nat_le, nat_lt, slice_set}
use Rattle.std.specs.List.{slice_get}
use Rattle.quorum.specs.declared.node_set.NodeSet.{NodeSet}
use Rattle.quorum.specs.Sets.{nobody, legal_configuration}
use Rattle.protocol.specs.declared.change.Change.{Change}
use Rattle.protocol.specs.declared.message.Message.{Message}
use Rattle.protocol.specs.declared.message.Message.TheVariants as message
use Rattle.protocol.specs.declared.refusal.Refusal.{Refusal}
use Rattle.protocol.specs.declared.refusal.Refusal.TheVariants.{
  UnknownNode,
  NoSuchEntry,
  OtherDestination,
  IllegalConfiguration,
  LogFull,
  WriteUnfinished,
}
use Rattle.protocol.specs.Changes.{changed}
use Rattle.protocol.specs.Decisions.{NodeState, Setup, Effect, decided, same_set, restarted, bootstrap_tests, bootstrap_effect, start_join_tests, start_join_effect, publish_tests, publish_effect, restart_effect, deliver_decided}
use Rattle.protocol.specs.Messages.{is_for}
use Rattle.protocol.specs.Positions.{position}

-- An entry of a log: a message, or the refusal with which reading it ends (its kind is unknown, or its body against the
-- rules). All count as entries. A log that a cluster began cleared has messages only.
abbrev pub Entry : Type 0 → Type 0
Entry V = Result (Message V) Refusal

-- the entries of a log that has messages only
abbrev pub entries_of : {V : Type 0} → List (Message V) → List (Entry V)
entries_of log = map Ok log

-- A cluster's nodes, and the log that its calls are lent.
pub record World (V : Type 0) : Type 0 where
  pub nodes : List (NodeState V)
  pub capacity : ℕ
  pub entries : List (Entry V)

-- What becomes of a write: it is finished, or else the store keeps the new record or the old.
pub record Fate : Type 0 where
  pub finished : Bool
  pub keeps_new : Bool

-- What a call answers (an entry, none, or a refusal), and the world that it leaves.
pub record Outcome (V : Type 0) : Type 0 where
  pub answer : Result (Option ℕ) Refusal
  pub world : World V

-- A log after a message is sent, and the entry that it is: the lowest equal one, or a new one at the end.
pub record Sent (V : Type 0) : Type 0 where
  pub entry : Option ℕ
  pub entries : List (Entry V)

-- The five calls, with their numbers.
pub data Call (V : Type 0) : Type 0 where
  bootstrap : (n : ℕ) → Call V
  start_join : (n d t : ℕ) → Call V
  publish : (n t v : ℕ) (value : V) (configuration : NodeSet) → Call V
  deliver : (e n : ℕ) → Call V
  restart : (n : ℕ) → Call V

module _ {V : Type 0} (setup : Setup V) where
  -- equal messages
  abbrev pub same_message : Message V → Message V → Bool
  same_message (message.Join a) (message.Join b) =
      (a.source == b.source)
      && (a.destination == b.destination
      && (a.term == b.term
      && (a.base_term == b.base_term && a.base_version == b.base_version)))
  same_message (message.Publication a) (message.Publication b) =
      (a.source == b.source)
      && (a.term == b.term
      && (a.version == b.version
      && (a.base_term == b.base_term
      && (a.base_version == b.base_version
      && (setup.same_value a.value b.value
      && (same_set a.configuration b.configuration
      && same_set a.committed_configuration b.committed_configuration))))))
  same_message (message.Response a) (message.Response b) =
      (a.source == b.source)
      && (a.destination == b.destination && (a.term == b.term && a.version == b.version))
  same_message (message.Commit a) (message.Commit b) =
      (a.source == b.source) && (a.term == b.term && a.version == b.version)
  same_message (message.Join a) (message.Publication b) = false
  same_message (message.Join a) (message.Response b) = false
  same_message (message.Join a) (message.Commit b) = false
  same_message (message.Publication a) (message.Join b) = false
  same_message (message.Publication a) (message.Response b) = false
  same_message (message.Publication a) (message.Commit b) = false
  same_message (message.Response a) (message.Join b) = false
  same_message (message.Response a) (message.Publication b) = false
  same_message (message.Response a) (message.Commit b) = false
  same_message (message.Commit a) (message.Join b) = false
  same_message (message.Commit a) (message.Publication b) = false
  same_message (message.Commit a) (message.Response b) = false

  -- an entry is this message
  abbrev pub is_message : Message V → Entry V → Bool
  is_message m (Ok other) = same_message m other
  is_message m (Err why) = false

  module _ (world : World V) where
    -- how many nodes there are
    abbrev pub nodes_count : ℕ
    nodes_count = length world.nodes

    -- No room is needed for no message, or for one that is there; else there has to be some.
    abbrev pub sent_unless : Option ℕ → Message V → Option (Sent V)
    sent_unless (Some e) m = Some (record { entry = Some e; entries = world.entries })
    sent_unless None m =
        cond (nat_lt (length world.entries) world.capacity)
        (Some (record { entry = Some (length world.entries); entries = world.entries ++ Ok m ∷ [] }))
        None

    abbrev pub sent : Option (Message V) → Option (Sent V)
    sent None = Some (record { entry = None; entries = world.entries })
    sent (Some m) = sent_unless (position (is_message m) world.entries) m

    -- the world with another node n, and other entries
    abbrev pub with_node_at : ℕ → NodeState V → List (Entry V) → World V
    with_node_at n node entries = record { nodes = slice_set world.nodes n node; capacity = world.capacity; entries = entries }

    -- An effect is carried out: its message needs room, and then its write has to finish. A write that does not finish
    -- leaves the record that the store keeps, and the node restarted; the log is as it was.
    abbrev pub written : (n : ℕ) → NodeState V → Fate → Option (Change V) → Effect V → Sent V → Outcome V
    written n node fate None effect s = record {
      answer = Ok s.entry;
      world = with_node_at n (record { kept = node.kept; volatile = effect.volatile }) s.entries;
    }
    written n node fate (Some change) effect s =
        cond fate.finished
        (record {
          answer = Ok s.entry;
          world = with_node_at n (record { kept = changed change node.kept; volatile = effect.volatile }) s.entries;
        })
        (let kept = cond fate.keeps_new (changed change node.kept) node.kept in
        record {
          answer = Err WriteUnfinished;
          world = with_node_at n (record { kept = kept; volatile = restarted kept }) world.entries;
        })

    abbrev pub refused : Refusal → Outcome V
    refused why = record { answer = Err why; world = world }

    abbrev pub with_room : (n : ℕ) → NodeState V → Fate → Effect V → Option (Sent V) → Outcome V
    with_room n node fate effect None = refused LogFull
    with_room n node fate effect (Some s) = written n node fate effect.change effect s

    abbrev pub carried_out : (n : ℕ) → NodeState V → Fate → Result (Effect V) Refusal → Outcome V
    carried_out n node fate (Err why) = refused why
    carried_out n node fate (Ok effect) = with_room n node fate effect (sent effect.message)

    -- a call on node n, if there is such a node
    abbrev pub if_known : (n : ℕ) → Fate → (NodeState V → Result (Effect V) Refusal) → Option (NodeState V) → Outcome V
    if_known n fate decision None = refused UnknownNode
    if_known n fate decision (Some node) = carried_out n node fate (decision node)

    abbrev pub on_node : (n : ℕ) → Fate → (NodeState V → Result (Effect V) Refusal) → Outcome V
    on_node n fate decision = if_known n fate decision (slice_get world.nodes n)

    -- what node n decides on an entry that is looked up
    abbrev pub decided_on : (n : ℕ) → NodeState V → Option (Entry V) → Result (Effect V) Refusal
    decided_on n node None = Err NoSuchEntry
    decided_on n node (Some (Err why)) = Err why
    decided_on n node (Some (Ok m)) = cond (is_for n m) (deliver_decided setup node n m) (Err OtherDestination)

    -- the node that a call is for
    abbrev pub node_called : Call V → ℕ
    node_called (bootstrap n) = n
    node_called (start_join n d t) = n
    node_called (publish n t v value configuration) = n
    node_called (deliver e n) = n
    node_called (restart n) = n

    -- what that node decides: first the tests of the call's input, then those of the node's state
    abbrev pub decision : Call V → NodeState V → Result (Effect V) Refusal
    decision (bootstrap n) node = decided (bootstrap_tests setup node) (bootstrap_effect setup node)
    decision (start_join n d t) node =
        decided (record { refuses = nat_le nodes_count d; with = UnknownNode } ∷ start_join_tests setup node t) (start_join_effect setup node n d t)
    decision (publish n t v value configuration) node =
        decided
        (record { refuses = not (legal_configuration nodes_count configuration); with = IllegalConfiguration }
        ∷ publish_tests setup node t v configuration)
        (publish_effect setup node n t v value configuration)
    decision (deliver e n) node = decided_on n node (slice_get world.entries e)
    decision (restart n) node = Ok (restart_effect setup node)

    -- Each call, for every number.
    abbrev pub called : Call V → Fate → Outcome V
    called call fate = on_node (node_called call) fate (decision call)

  -- Fresh nodes: both terms are 0, both configurations are empty, and the value is the initial one; the version is free.
  -- The volatile values are empty, false or 0.
  abbrev pub fresh_node : (version : ℕ) → NodeState V
  fresh_node version = record {
    kept = record {
      current_term = 0;
      last_accepted_term = 0;
      last_accepted_version = version;
      last_accepted_value = setup.initial_value;
      last_accepted_configuration = nobody;
      last_committed_configuration = nobody;
    };
    volatile = record {
      join_votes = nobody;
      started_join = false;
      election_won = false;
      last_published_version = 0;
      last_published_configuration = nobody;
      publish_votes = nobody;
    };
  }
