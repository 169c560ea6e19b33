-- What a run of the code promises: a list of turns, each a call and the place for its answer.
use Rattle.std.specs.Prelude.{◌≡◌, ℕ, Bool, List, map, Some, Ok, Err, Result}
use Rattle.std.specs.List.{AllByRecursion}
use Rattle.quorum.specs.declared.node_set.NodeSet.{NodeSet}
use Rattle.protocol.specs.declared.refusal.Refusal.{Refusal}
use Rattle.protocol.specs.declared.refusal.Refusal.TheVariants.{IllFormedLog, ClusterShut}
use Rattle.protocol.specs.Decisions.{Setup as Fixed}
use Rattle.message_log.specs.Log.{cleared}
use Rattle.node.specs.declared.setup.Setup.{Setup}
use Rattle.node.specs.Setups.{meant}
use Rattle.store.specs.Stores.{Meaning}
use Rattle.cluster.specs.declared.call.Call.{Call}
use Rattle.cluster.specs.declared.cluster.Cluster.{Cluster}
use Rattle.cluster.specs.declared.not_run.NotRun.{NotRun}
use Rattle.cluster.specs.declared.turn.Turn.{Turn}
use Rattle.cluster.specs.States.{State, opening, opened}
use Rattle.cluster.specs.Calls.{Answer}
use Rattle.cluster.specs.Runs.{Run, last_of, Unsplit}
use Rattle.cluster.specs.Clusters.{with_log}

abbrev pub calls_in : List Turn → List Call
calls_in turns = map (λ (turn : Turn). turn.call) turns

abbrev pub answers_in : List Turn → List Answer
answers_in turns = map (λ (turn : Turn). turn.answer) turns

-- Turns were taken, one after the other: there are states, one after each call, such that each answer and each next state is
-- the definition's; the calls stand in their turns as they were.
pub record Played (setup : Fixed ℕ) (before : State) (turns turns' : List Turn) (after : State) : Type 0 where
  pub calls : calls_in turns' ≡ calls_in turns
  pub states : List State
  pub run : Run setup before (calls_in turns) (answers_in turns') states
  pub last : last_of before states ≡ after

module _ {B R : Type 0} (quorum : R → NodeSet → NodeSet → Bool) (meaning : B → List Meaning)
    (bank : B) (setup : Setup R) (turns : List Turn) where
  -- Bytes that cannot be cleared to the capacity: the bank and the setup are given back, and nothing was touched.
  pub record GivenBack (result : Result (Cluster B R) (NotRun B R)) (log log' : List ℕ) (turns' : List Turn) : Type 0 where
    pub given : result ≡ Err (record { refusal = IllFormedLog; bank = bank; setup = setup })
    pub log_kept : log' ≡ log
    pub turns_kept : turns' ≡ turns

  -- The whole list was carried out, from an opening over the bank with the log cleared to the capacity.
  pub record Ran (capacity : ℕ) (result : Result (Cluster B R) (NotRun B R)) (log' : List ℕ) (turns' : List Turn) : Type 0 where
    pub cluster : Cluster B R
    pub given : result ≡ Ok cluster
    pub fixed : cluster.setup ≡ setup
    -- the calls stand in their turns as they were
    pub calls : calls_in turns' ≡ calls_in turns
    -- there are states, one after each call, such that each answer and each next state is the definition's
    pub states : List State
    pub run : Run (meant quorum setup) (opened (meant quorum setup) (meaning bank) (cleared capacity)) (calls_in turns) (answers_in turns') states
    -- after each call: one commit per version, and later commits descend from earlier ones
    pub unsplit : AllByRecursion Unsplit states
    -- the last of those states is the one that is left
    pub last : last_of (opened (meant quorum setup) (meaning bank) (cleared capacity)) states ≡ with_log meaning cluster.nodes log'
    -- if the opening is refused, the cluster names that refusal, and every call is refused
    pub shut : (why : Refusal) → opening (meant quorum setup) (meaning bank) ≡ Err why
        → (cluster.nodes.shut ≡ Some why) × AllByRecursion (λ (answer : Answer). answer ≡ Err ClusterShut) (answers_in turns')
