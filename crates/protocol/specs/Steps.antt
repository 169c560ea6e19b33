-- The steps of the calls are the steps of the model: a call is taken exactly when the model's action is enabled, the log has
-- room and the write finishes, and then the action leads from the state that the world denotes to the one that it denotes
-- afterwards. A write that does not finish is a restart, or the action and then a restart.
use Rattle.std.specs.Prelude.{◌≡◌, ℕ, ◌<◌, true, false, ◌⊎◌, List, [], ◌∷◌, map, length, get_or, Some, None, Ok, Err, Decides, Option, slice_index, slice_index_or}
use Rattle.std.specs.List.{slice_get}
use Rattle.protocol.specs.declared.change.Change.{Change}
use Rattle.protocol.specs.declared.message.Join.{Join}
use Rattle.protocol.specs.declared.message.Publication.{Publication}
use Rattle.protocol.specs.declared.message.Response.{Response}
use Rattle.protocol.specs.declared.message.Commit.{Commit}
use Rattle.protocol.specs.declared.message.Message.{Message}
use Rattle.protocol.specs.declared.message.Message.TheVariants as message
use Rattle.protocol.specs.declared.refusal.Refusal.TheVariants.{WriteUnfinished}
use Rattle.protocol.specs.Decisions.{
  NodeState,
  Setup,
  Effect,
  bootstrap_effect,
  start_join_effect,
  publish_effect,
  join_effect,
  publication_effect,
  response_effect,
  commit_effect,
  restart_effect,
}
use Rattle.protocol.specs.Calls.{
  Entry,
  World,
  Fate,
  Outcome,
  Call,
  bootstrap,
  start_join,
  publish,
  deliver,
  restart,
  fresh_node,
  called,
  node_called,
}
use Rattle.protocol.specs.History.{Published, Descends}
use Rattle.protocol.specs.Runs.{Opened, Reached}
use Rattle.protocol.specs.Model as model
use Rattle.protocol.specs.Model.{◌∈◌, ◌∪◌, ❴◌❵, Nodes, State}

-- Messages of ours in the model. A publication and a commit are for every node: one message to each.
abbrev pub join_of : Join → model.JoinMessage
join_of m = record {
  source = m.source;
  dest = m.destination;
  term = m.term;
  laTerm = m.base_term;
  laVersion = m.base_version;
}

abbrev pub publication_of : {V : Type 0} → Publication V → (n : ℕ) → model.PublishRequestMessage V
publication_of m n = record {
  source = m.source;
  dest = n;
  term = m.term;
  version = m.version;
  value = m.value;
  config = m.configuration;
  commConf = m.committed_configuration;
}

abbrev pub response_of : Response → model.PublishResponseMessage
response_of m = record { source = m.source; dest = m.destination; term = m.term; version = m.version }

abbrev pub commit_of : Commit → (n : ℕ) → model.CommitMessage
commit_of m n = record { source = m.source; dest = n; term = m.term; version = m.version }

abbrev pub meant : {V : Type 0} → (N : ℕ) → Message V → List (model.Message V)
meant N (message.Join m) = ❴ model.Join (join_of m) ❵
meant N (message.Publication m) = map (λ n. model.PublishRequest (publication_of m n)) (Nodes N)
meant N (message.Response m) = ❴ model.PublishResponse (response_of m) ❵
meant N (message.Commit m) = map (λ n. model.Commit (commit_of m n)) (Nodes N)

-- an entry that is no message means none
abbrev pub meant_by : {V : Type 0} → (N : ℕ) → Entry V → List (model.Message V)
meant_by N (Ok m) = meant N m
meant_by N (Err why) = []

abbrev pub all_meant : {V : Type 0} → (N : ℕ) → List (Entry V) → List (model.Message V)
all_meant N [] = []
all_meant N (entry ∷ entries) = meant_by N entry ∪ all_meant N entries

-- the messages among the entries
abbrev pub messages_of : {V : Type 0} → List (Entry V) → List (Message V)
messages_of [] = []
messages_of (Ok m ∷ entries) = m ∷ messages_of entries
messages_of (Err why ∷ entries) = messages_of entries

-- descendant and the bases in a log: each element is a chain of them, and each of them is an element
pub record Tied {V : Type 0} (log : List (Message V)) (descendant : List model.Descendant) : Type 0 where
  pub chains : (d : model.Descendant) → d ∈ descendant
      → (p : Publication V) × Published log p d.nextT d.nextV × Descends log p d.prevT d.prevV
  pub bases : (p : Publication V) → Published log p p.term p.version
      → record { prevT = p.base_term; prevV = p.base_version; nextT = p.term; nextV = p.version } ∈ descendant

module _ {V : Type 0} (setup : Setup V) where
  -- what stands where no node is
  abbrev pub blank : NodeState V
  blank = fresh_node setup 0

  -- The state of the model that N nodes and a log denote; the accepted versions at the opening and the set descendant are no
  -- part of ours, and given.
  abbrev pub state : (versions : ℕ → ℕ) (descendant : List model.Descendant) (N : ℕ) → List (NodeState V) → List (Entry V) → State V
  state versions descendant N nodes entries = record {
    messages = all_meant N entries;
    descendant = descendant;
    initialConfiguration = setup.initial_configuration;
    initialValue = setup.initial_value;
    initialAcceptedVersion = versions;
    currentTerm = λ n. (get_or nodes n blank).kept.current_term;
    lastCommittedConfiguration = λ n. (get_or nodes n blank).kept.last_committed_configuration;
    lastAcceptedTerm = λ n. (get_or nodes n blank).kept.last_accepted_term;
    lastAcceptedVersion = λ n. (get_or nodes n blank).kept.last_accepted_version;
    lastAcceptedValue = λ n. (get_or nodes n blank).kept.last_accepted_value;
    lastAcceptedConfiguration = λ n. (get_or nodes n blank).kept.last_accepted_configuration;
    joinVotes = λ n. (get_or nodes n blank).volatile.join_votes;
    startedJoinSinceLastReboot = λ n. (get_or nodes n blank).volatile.started_join;
    electionWon = λ n. (get_or nodes n blank).volatile.election_won;
    lastPublishedVersion = λ n. (get_or nodes n blank).volatile.last_published_version;
    lastPublishedConfiguration = λ n. (get_or nodes n blank).volatile.last_published_configuration;
    publishVotes = λ n. (get_or nodes n blank).volatile.publish_votes;
  }

  abbrev pub denoted : (versions : ℕ → ℕ) (descendant : List model.Descendant) → World V → State V
  denoted versions descendant world = state versions descendant (length world.nodes) world.nodes world.entries

  module _ (world : World V) where
    abbrev pub count : ℕ
    count = length world.nodes

    -- The action of the model that a call is, with its input in range: the node exists, and so does the leader of a join;
    -- a configuration is legal; an entry is a message for the node.
    abbrev pub Delivery : (n : ℕ) → Option (Entry V) → State V → State V → Type 0
    Delivery n None σ σ' = ⊥
    Delivery n (Some (Err why)) σ σ' = ⊥
    Delivery n (Some (Ok (message.Join m))) σ σ' =
        (m.destination ≡ n) × model.HandleJoin count setup.quorum σ σ' n (model.Join (join_of m))
    Delivery n (Some (Ok (message.Publication m))) σ σ' =
        model.HandlePublishRequest count setup.quorum σ σ' n (model.PublishRequest (publication_of m n))
    Delivery n (Some (Ok (message.Response m))) σ σ' =
        (m.destination ≡ n) × model.HandlePublishResponse count setup.quorum σ σ' n (model.PublishResponse (response_of m))
    Delivery n (Some (Ok (message.Commit m))) σ σ' =
        model.HandleCommit count setup.quorum σ σ' n (model.Commit (commit_of m n))

    abbrev pub Action : Call V → State V → State V → Type 0
    Action (bootstrap n) σ σ' = (n < count) × model.SetInitialState count setup.quorum σ σ' n
    Action (start_join n d t) σ σ' = (n < count) × ((d < count) × model.HandleStartJoin count setup.quorum σ σ' n d t)
    Action (publish n t v value configuration) σ σ' =
        (n < count)
        × (model.ValidConfigs count configuration × model.HandleClientValue count setup.quorum σ σ' n t v value configuration)
    Action (deliver e n) σ σ' = (n < count) × Delivery n (slice_get world.entries e) σ σ'
    Action (restart n) σ σ' = (n < count) × model.RestartNode count setup.quorum σ σ' n

    -- what the call does to its node, unless it is refused: its write and its message
    abbrev pub delivery_effect : (n : ℕ) → Option (Entry V) → Option (Effect V)
    delivery_effect n None = None
    delivery_effect n (Some (Err why)) = None
    delivery_effect n (Some (Ok (message.Join m))) = Some (join_effect setup (slice_index_or world.nodes n blank) m)
    delivery_effect n (Some (Ok (message.Publication m))) = Some (publication_effect setup (slice_index_or world.nodes n blank) n m)
    delivery_effect n (Some (Ok (message.Response m))) = Some (response_effect setup (slice_index_or world.nodes n blank) n m)
    delivery_effect n (Some (Ok (message.Commit m))) = Some (commit_effect setup (slice_index_or world.nodes n blank))

    abbrev pub effect_of : Call V → Option (Effect V)
    effect_of (bootstrap n) = Some (bootstrap_effect setup (slice_index_or world.nodes n blank))
    effect_of (start_join n d t) = Some (start_join_effect setup (slice_index_or world.nodes n blank) n d t)
    effect_of (publish n t v value configuration) =
        Some (publish_effect setup (slice_index_or world.nodes n blank) n t v value configuration)
    effect_of (deliver e n) = delivery_effect n (slice_get world.entries e)
    effect_of (restart n) = Some (restart_effect setup (slice_index_or world.nodes n blank))

    -- the log holds the message, or has room for it
    abbrev pub Room : Option (Message V) → Type 0
    Room None = Unit {0}
    Room (Some m) = (Ok m ∈ world.entries) ⊎ (length world.entries < world.capacity)

    abbrev pub Finishes : Fate → Option (Change V) → Type 0
    Finishes fate None = Unit {0}
    Finishes fate (Some change) = fate.finished ≡ true

    abbrev pub GoesThrough : Fate → Option (Effect V) → Type 0
    GoesThrough fate None = ⊥
    GoesThrough fate (Some effect) = Room effect.message × Finishes fate effect.change

    -- all but the write
    abbrev pub CutShort : Fate → Option (Change V) → Type 0
    CutShort fate None = ⊥
    CutShort fate (Some change) = fate.finished ≡ false

    abbrev pub IsCut : Fate → Option (Effect V) → Type 0
    IsCut fate None = ⊥
    IsCut fate (Some effect) = Room effect.message × CutShort fate effect.change

    -- descendant after the call: the model's, and the same but at a publication
    abbrev pub descendant_after : (ℕ → ℕ) → List model.Descendant → Call V → List model.Descendant
    descendant_after versions descendant (bootstrap n) = descendant
    descendant_after versions descendant (start_join n d t) = descendant
    descendant_after versions descendant (publish n t v value configuration) =
        descendant
        ∪ ❴ model.newEntry count setup.quorum (denoted versions descendant world) n t v ❵
        ∪ model.newTransitiveElems count setup.quorum (denoted versions descendant world) n t v
    descendant_after versions descendant (deliver e n) = descendant
    descendant_after versions descendant (restart n) = descendant

  -- the second state, with the messages of the first
  abbrev pub unsent : State V → State V → State V
  unsent σ σ₁ = record {
    messages = σ.messages;
    descendant = σ₁.descendant;
    initialConfiguration = σ₁.initialConfiguration;
    initialValue = σ₁.initialValue;
    initialAcceptedVersion = σ₁.initialAcceptedVersion;
    currentTerm = σ₁.currentTerm;
    lastCommittedConfiguration = σ₁.lastCommittedConfiguration;
    lastAcceptedTerm = σ₁.lastAcceptedTerm;
    lastAcceptedVersion = σ₁.lastAcceptedVersion;
    lastAcceptedValue = σ₁.lastAcceptedValue;
    lastAcceptedConfiguration = σ₁.lastAcceptedConfiguration;
    joinVotes = σ₁.joinVotes;
    startedJoinSinceLastReboot = σ₁.startedJoinSinceLastReboot;
    electionWon = σ₁.electionWon;
    lastPublishedVersion = σ₁.lastPublishedVersion;
    lastPublishedConfiguration = σ₁.lastPublishedConfiguration;
    publishVotes = σ₁.publishVotes;
  }

  -- the call is not refused
  pub record Taken (outcome : Outcome V) : Type 0 where
    pub entry : Option ℕ
    pub answered : outcome.answer ≡ Ok entry

  module _ (world : World V) (call : Call V) (fate : Fate) (versions : ℕ → ℕ) (descendant : List model.Descendant) where
    -- there is a next state of the model, the log has room, and the write finishes
    pub record Possible : Type 0 where
      pub enabled : (σ' : State V) × Action world call (denoted versions descendant world) σ'
      pub goes_through : GoesThrough world fate (effect_of world call)

    pub record StepIsTheModels : Type 0 where
      pub only_when : Taken (called setup world call fate) → Possible
      pub whenever : Possible → Taken (called setup world call fate)
      pub step : Taken (called setup world call fate)
          → Action world call (denoted versions descendant world)
          (denoted versions (descendant_after world versions descendant call) (called setup world call fate).world)
      pub tied : Taken (called setup world call fate) → Tied (messages_of world.entries) descendant
          → Tied (messages_of (called setup world call fate).world.entries) (descendant_after world versions descendant call)
      pub next : Taken (called setup world call fate)
          → model.Next (count world) setup.quorum (denoted versions descendant world)
          (denoted versions (descendant_after world versions descendant call) (called setup world call fate).world)

    -- there is a next state of the model, the log has room, and the write does not finish
    pub record Stopped : Type 0 where
      pub enabled : (σ' : State V) × Action world call (denoted versions descendant world) σ'
      pub cut : IsCut world fate (effect_of world call)

    -- Then the node has restarted; where the store keeps the new record, the action came before, and its message is lost.
    pub record CutIsTheModels : Type 0 where
      pub answers : Stopped → (called setup world call fate).answer ≡ Err WriteUnfinished
      pub keeps_old : Stopped → fate.keeps_new ≡ false
          → model.RestartNode (count world) setup.quorum (denoted versions descendant world)
          (denoted versions descendant (called setup world call fate).world) (node_called setup world call)
      pub keeps_new : Stopped → fate.keeps_new ≡ true
          → (σ₁ : State V) × Action world call (denoted versions descendant world) σ₁
          × model.RestartNode (count world) setup.quorum (unsent (denoted versions descendant world) σ₁)
          (denoted versions (descendant_after world versions descendant call) (called setup world call fate).world)
          (node_called setup world call)

-- Every call on every world is taken, or its write is cut, or it leaves the world as it was; a cluster that is opened is at
-- the model's beginning, with descendant tied to its log; and what the model asserts holds in every run.
pub record StepsAreTheModels (V : Type 0) : Type 0 where
  pub steps : (setup : Setup V) → ((x y : V) → Decides (setup.same_value x y) (x ≡ y))
      → (world : World V) (call : Call V) (fate : Fate) (versions : ℕ → ℕ) (descendant : List model.Descendant)
      → StepIsTheModels setup world call fate versions descendant
  pub cuts : (setup : Setup V) → ((x y : V) → Decides (setup.same_value x y) (x ≡ y))
      → (world : World V) (call : Call V) (fate : Fate) (versions : ℕ → ℕ) (descendant : List model.Descendant)
      → CutIsTheModels setup world call fate versions descendant
  pub otherwise : (setup : Setup V) → ((x y : V) → Decides (setup.same_value x y) (x ≡ y))
      → (world : World V) (call : Call V) (fate : Fate) (versions : ℕ → ℕ) (descendant : List model.Descendant)
      → Taken setup (called setup world call fate)
      ⊎ (Stopped setup world call fate versions descendant ⊎ ((called setup world call fate).world ≡ world))
  pub opening : (setup : Setup V) (world : World V) (opened : Opened setup world)
      → model.Init (count setup world) setup.quorum (denoted setup (λ n. slice_index opened.versions n) [] world)
  pub opening_tied : (setup : Setup V) (world : World V) → Opened setup world → Tied (messages_of world.entries) []
  pub asserts : (setup : Setup V) → ((x y : V) → Decides (setup.same_value x y) (x ≡ y))
      → (world : World V) → Reached setup world → (versions : ℕ → ℕ) (descendant : List model.Descendant) (σ' : State V) (n : ℕ)
      → model.SetInitialState (count setup world) setup.quorum (denoted setup versions descendant world) σ' n
      → model.SetInitialStateAsserts (count setup world) setup.quorum (denoted setup versions descendant world) σ' n
