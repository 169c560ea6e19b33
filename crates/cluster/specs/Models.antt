-- A step over bytes is the public model's step.
use Rattle.std.specs.Prelude.{◌≡◌, ℕ, ◌<◌, ◌≤◌, true, ◌⊎◌, List, length, None, Decides, slice_index}
use Rattle.quorum.specs.Sets.{legal_configuration}
use Rattle.protocol.specs.Decisions.{Setup}
use Rattle.protocol.specs.Calls as messages
use Rattle.protocol.specs.Model as model
use Rattle.protocol.specs.Runs.{Lawful}
use Rattle.protocol.specs.Steps.{Taken, Stopped, StepIsTheModels, CutIsTheModels}
use Rattle.message_log.specs.Layout.{well_formed}
use Rattle.cluster.specs.declared.call.Call.{Call}
use Rattle.cluster.specs.declared.call.Call.TheVariants.{Bootstrap, StartJoin, Publish, Deliver, Restart}
use Rattle.cluster.specs.States.{State, most_nodes, node_at}
use Rattle.cluster.specs.Calls.{Answer, node_called, Step}
use Rattle.cluster.specs.Worlds.{world_of, call_of, fate_of}
use Rattle.cluster.specs.Runs.{Reached}

-- what is asked where a call is lent the log; a bootstrap and a restart are not
abbrev pub IfLent : Call → Type 0 → Type 0
IfLent (Bootstrap n power) asked = Unit {0}
IfLent (StartJoin n d t power) asked = asked
IfLent (Publish n t v value configuration) asked = asked
IfLent (Deliver e n power) asked = asked
IfLent (Restart n) asked = Unit {0}

-- the numbers are a log, and each of them is a byte
pub record IsLog (log : List ℕ) : Type 0 where
  pub formed : well_formed log ≡ true
  pub bytes : (i : ℕ) → slice_index log i < 256

-- What is asked of a state for a call to be the model's. Its entries may be any bytes.
pub record Sensible (state : State) (call : Call) : Type 0 where
  -- the cluster is open
  pub is_open : state.shut ≡ None
  -- it has at most 16 stores, and a place for the volatile values of each
  pub few : length state.stores ≤ most_nodes
  pub places : length state.volatile ≡ most_nodes
  -- what the call is lent is a log
  pub log : IfLent call (IsLog state.log)
  -- if the node that is called has won an election, its committed configuration is legal
  pub leads : node_called call < length state.stores
      → (node_at state (node_called call)).volatile.election_won ≡ true
      → legal_configuration (length state.stores) (node_at state (node_called call)).kept.last_committed_configuration ≡ true

-- an answer and a state, with the world that the state denotes
abbrev pub outcome : Answer → State → messages.Outcome ℕ
outcome answer state = record { answer = answer; world = world_of state }

-- A call and its answer, as defined over bytes, and as the public model has them: in a sensible state, for any accepted
-- versions at the opening and any set descendant.
pub record Modelled (setup : Setup ℕ) (before : State) (call : Call) (answer : Answer) (after : State) : Type 0 where
  -- the answer and the next state are those of the definition
  pub step : Step setup before call answer after
  -- the answer, and what is denoted after, are those of the call over messages, from what is denoted before
  pub agrees : Sensible before call
      → messages.called setup (world_of before) (call_of call) (fate_of before call step.keeps_new) ≡ outcome answer after
  -- that call is taken exactly when the model's action is enabled, the log has room and the write finishes; then the action
  -- leads from the state that is denoted before to the one that is denoted after
  pub steps : (versions : ℕ → ℕ) (descendant : List model.Descendant)
      → StepIsTheModels setup (world_of before) (call_of call) (fate_of before call step.keeps_new) versions descendant
  -- a write of it that is cut is the model's restart, or its action with the message lost and then a restart
  pub cuts : (versions : ℕ → ℕ) (descendant : List model.Descendant)
      → CutIsTheModels setup (world_of before) (call_of call) (fate_of before call step.keeps_new) versions descendant
  -- a call that is neither taken nor cut leaves what is denoted as it was
  pub otherwise : Sensible before call → (versions : ℕ → ℕ) (descendant : List model.Descendant)
      → Taken setup (outcome answer after)
      ⊎ (Stopped setup (world_of before) (call_of call) (fate_of before call step.keeps_new) versions descendant
      ⊎ (world_of after ≡ world_of before))

-- Every step over bytes is the model's, from a sensible state; and every state that calls reach is sensible for every
-- call, while the cluster is open.
pub record StepsOverBytesAreTheModels : Type 0 where
  pub modelled : (setup : Setup ℕ) → ((x y : ℕ) → Decides (setup.same_value x y) (x ≡ y))
      → (before after : State) (call : Call) (answer : Answer) → Step setup before call answer after
      → Modelled setup before call answer after
  pub sensible : (setup : Setup ℕ) → Lawful setup → (state : State) → Reached setup state → state.shut ≡ None
      → (call : Call) → Sensible state call
