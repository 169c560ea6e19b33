-- What each call does to a cluster and its log: its answer, and the state that it leaves.
use Rattle.std.specs.Prelude.{◌≡◌, ℕ, min, Bool, true, cond, not, List, [], ◌∷◌, length, is_some, Some, None, Ok, Err, Option, Result, nat_le, slice_set}
use Rattle.quorum.specs.declared.node_set.NodeSet.{NodeSet}
use Rattle.quorum.specs.Sets.{legal_configuration}
use Rattle.protocol.specs.declared.change.Change.{Change}
use Rattle.protocol.specs.declared.effect.Effect.{Effect}
use Rattle.protocol.specs.declared.message.Message.{Message}
use Rattle.protocol.specs.declared.refusal.Refusal.{Refusal}
use Rattle.protocol.specs.declared.refusal.Refusal.TheVariants.{
  UnknownNode,
  IllFormedLog,
  IllegalConfiguration,
  ClusterShut,
  WriteUnfinished,
}
use Rattle.protocol.specs.declared.volatile.Volatile.{Volatile}
use Rattle.protocol.specs.Decisions.{
  Setup,
  Test,
  checked,
  decided,
  restarted,
  bootstrap_tests,
  bootstrap_effect,
  start_join_tests,
  start_join_effect,
  publish_tests,
  publish_effect,
  restart_effect,
}
use Rattle.message_log.specs.declared.fault.Fault.{Fault}
use Rattle.message_log.specs.Faults.{refusal_of}
use Rattle.message_log.specs.Layout.{well_formed}
use Rattle.message_log.specs.Log.{appended, message_at}
use Rattle.message_log.specs.Rules.{Fits}
use Rattle.node.specs.Deliveries.{on_entry}
use Rattle.store.specs.declared.power.Power.{Power}
use Rattle.store.specs.Stores.{Meaning, finishes, after_write}
use Rattle.store.specs.Banks.{store_at}
use Rattle.cluster.specs.declared.call.Call.{Call}
use Rattle.cluster.specs.declared.call.Call.TheVariants.{Bootstrap, StartJoin, Publish, Deliver, Restart}
use Rattle.cluster.specs.States.{State, most_nodes, node_at}

-- an answer: an entry, none, or a refusal
abbrev pub Answer : Type 0
Answer = Result (Option ℕ) Refusal

-- what a call answers, and the state that it leaves
pub record Outcome : Type 0 where
  pub answer : Answer
  pub state : State

-- the node that a call is for
abbrev pub node_called : Call → ℕ
node_called (Bootstrap n power) = n
node_called (StartJoin n d t power) = n
node_called (Publish n t v value configuration) = n
node_called (Deliver e n power) = n
node_called (Restart n) = n

-- no power at all
abbrev pub no_power : Power
no_power = record { budget = 0; residue = 0 }

-- the power that its write has; a publish and a restart write nothing, and need none
abbrev pub power_of : Call → Power
power_of (Bootstrap n power) = power
power_of (StartJoin n d t power) = power
power_of (Publish n t v value configuration) = no_power
power_of (Deliver e n power) = power
power_of (Restart n) = no_power

-- The entry at which a log has the message that is due, or will have it; a full log has no place for a new one. And the
-- log with that message in it.
abbrev pub place_for : (log : List ℕ) → Option (Message ℕ) → Result (Option ℕ) Fault
place_for log None = Ok None
place_for log (Some m) = elim (appended log m).answer [ Ok e ↦ Ok (Some e) | Err fault ↦ Err fault ]

-- an answer of the log, as one of a call: a fault is the refusal of its name
abbrev pub told : Result (Option ℕ) Fault → Answer
told (Ok entry) = Ok entry
told (Err fault) = Err (refusal_of fault)

abbrev pub log_with : (log : List ℕ) → Option (Message ℕ) → List ℕ
log_with log None = log
log_with log (Some m) = (appended log m).bytes

-- the message that a decision sends
abbrev pub message_in : Result (Effect ℕ) Refusal → Option (Message ℕ)
message_in (Err why) = None
message_in (Ok effect) = effect.message

-- what it writes, if that message has a place
abbrev pub change_if : Result (Option ℕ) Fault → Effect ℕ → Option (Change ℕ)
change_if (Err fault) effect = None
change_if (Ok entry) effect = effect.change

abbrev pub change_in : (log : List ℕ) → Result (Effect ℕ) Refusal → Option (Change ℕ)
change_in log (Err why) = None
change_in log (Ok effect) = change_if (place_for log effect.message) effect

-- what a store may keep of the change that is written to it, if one is
abbrev pub Allowed : Meaning → Option (Change ℕ) → Power → (keeps_new : Bool) → Type 0
Allowed store None power keeps_new = Unit {0}
Allowed store (Some change) power keeps_new = store.may_keep change power keeps_new ≡ true

-- whether the write that is due finishes, if one is due
abbrev pub finished : Meaning → Option (Change ℕ) → Power → Bool
finished store None power = true
finished store (Some change) power = finishes store power

-- the stores after a change is written to store n, if one is due
abbrev pub stores_after : List Meaning → (n : ℕ) → Option (Change ℕ) → Power → (keeps_new : Bool) → List Meaning
stores_after stores n None power keeps_new = stores
stores_after stores n (Some change) power keeps_new = slice_set stores n (after_write (store_at stores n) change power keeps_new)

-- the numbers of the message that is sent fit their places in its body
abbrev pub AllFit : Option (Message ℕ) → Type 0
AllFit None = Unit {0}
AllFit (Some m) = Fits m

module _ (state : State) where
  -- how many nodes the cluster has: one for each store, and at most 16; an open cluster has no more stores
  abbrev pub count : ℕ
  count = min (length state.stores) most_nodes

  -- the tests that come first: the cluster is shut; a number is no node's; the bytes are no log
  abbrev pub shut_test : Test
  shut_test = record { refuses = is_some state.shut; with = ClusterShut }

  abbrev pub node_test : ℕ → Test
  node_test n = record { refuses = nat_le count n; with = UnknownNode }

  abbrev pub log_test : Test
  log_test = record { refuses = not (well_formed state.log); with = IllFormedLog }

  -- the configuration to publish is not legal
  abbrev pub configuration_test : NodeSet → Test
  configuration_test configuration = record { refuses = not (legal_configuration count configuration); with = IllegalConfiguration }

  -- the tests of a publish on its input
  abbrev pub publish_input_tests : (n : ℕ) → NodeSet → List Test
  publish_input_tests n configuration = shut_test ∷ node_test n ∷ log_test ∷ configuration_test configuration ∷ []

  -- a refusal leaves everything as it was
  abbrev pub refused : Refusal → Outcome
  refused why = record { answer = Err why; state = state }

  -- the state with other stores, other volatile values of node n, and another log
  abbrev pub moved : (n : ℕ) → List Meaning → Volatile → List ℕ → State
  moved n stores volatile log = record {
    shut = state.shut;
    stores = stores;
    volatile = slice_set state.volatile n volatile;
    log = log;
  }

  -- the step is taken: the node has its next volatile values, and the message that is due is in the log
  abbrev pub taken : (n : ℕ) → List Meaning → Effect ℕ → (entry : Option ℕ) → Outcome
  taken n stores effect entry = record {
    answer = Ok entry;
    state = moved n stores effect.volatile (log_with state.log effect.message);
  }

  -- the write was cut: the store holds what it kept, the node is restarted from that, and the log is as it was
  abbrev pub cut : (n : ℕ) → List Meaning → Outcome
  cut n stores = record {
    answer = Err WriteUnfinished;
    state = moved n stores (restarted (store_at stores n).content) state.log;
  }

  -- The write that is due, if any, is made; which record a cut write keeps is given.
  abbrev pub written : (n : ℕ) (power : Power) (keeps_new : Bool) → Effect ℕ → (entry : Option ℕ) → Outcome
  written n power keeps_new effect entry =
      let stores = stores_after state.stores n effect.change power keeps_new in
      cond (finished (store_at state.stores n) effect.change power) (taken n stores effect entry) (cut n stores)

  -- An effect is carried out: its message needs a place, and then its write has to finish. A call that sends has found the
  -- bytes to be a log, so that the fault can only be a full one.
  abbrev pub if_placed : (n : ℕ) (power : Power) (keeps_new : Bool) → Effect ℕ → Result (Option ℕ) Fault → Outcome
  if_placed n power keeps_new effect (Err fault) = refused (refusal_of fault)
  if_placed n power keeps_new effect (Ok entry) = written n power keeps_new effect entry

  abbrev pub carried_out : (n : ℕ) (power : Power) (keeps_new : Bool) → Result (Effect ℕ) Refusal → Outcome
  carried_out n power keeps_new (Err why) = refused why
  carried_out n power keeps_new (Ok effect) = if_placed n power keeps_new effect (place_for state.log effect.message)

module _ (setup : Setup ℕ) (state : State) where
  -- What the node that is called decides: the tests of the input, then those of its state, then its effect. Reading an
  -- entry refuses bytes that are no log, an entry that is absent, an unknown kind and an invalid body, in this order.
  abbrev pub decision : Call → Result (Effect ℕ) Refusal
  decision (Bootstrap n power) =
      decided (shut_test state ∷ node_test state n ∷ bootstrap_tests setup (node_at state n)) (bootstrap_effect setup (node_at state n))
  decision (StartJoin n d t power) =
      decided (shut_test state ∷ node_test state n ∷ node_test state d ∷ log_test state ∷ start_join_tests setup (node_at state n) t) (start_join_effect setup (node_at state n) n d t)
  decision (Publish n t v value configuration) =
      checked (publish_input_tests state n configuration)
      (decided (publish_tests setup (node_at state n) t v configuration) (publish_effect setup (node_at state n) n t v value configuration))
  decision (Deliver e n power) = checked (shut_test state ∷ node_test state n ∷ []) (on_entry setup (node_at state n) n (message_at (count state) state.log e))
  decision (Restart n) = decided (shut_test state ∷ node_test state n ∷ []) (restart_effect setup (node_at state n))

  abbrev pub called : Call → (keeps_new : Bool) → Outcome
  called call keeps_new = carried_out state (node_called call) (power_of call) keeps_new (decision call)

-- A call and its answer. There is a record, the new one or the old, that the store may keep under this power (which
-- matters only if the write is cut), such that the answer and the next state are those of the definition. The numbers of
-- the message that is due fit, whether or not there is room for it.
pub record Step (setup : Setup ℕ) (before : State) (call : Call) (answer : Answer) (after : State) : Type 0 where
  pub keeps_new : Bool
  pub allowed : Allowed (store_at before.stores (node_called call)) (change_in before.log (decision setup before call)) (power_of call) keeps_new
  pub fits : AllFit (message_in (decision setup before call))
  pub same : called setup before call keeps_new ≡ record { answer = answer; state = after }
