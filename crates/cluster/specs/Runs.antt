-- Runs: calls one after the other, the states that they reach, and that none of them splits the history.
use Rattle.std.specs.Prelude.{◌≡◌, ℕ, true, List, [], ◌∷◌, length, None}
use Rattle.std.specs.List.{AllByRecursion}
use Rattle.protocol.specs.declared.message.Message.{Message}
use Rattle.protocol.specs.Decisions.{Setup}
use Rattle.protocol.specs.Calls as messages
use Rattle.protocol.specs.Calls.{entries_of}
use Rattle.protocol.specs.History.{OneHistory}
use Rattle.protocol.specs.Runs as messages_run
use Rattle.protocol.specs.Runs.{Lawful}
use Rattle.message_log.specs.Layout.{legal_capacity, capacity_of}
use Rattle.message_log.specs.Log.{cleared}
use Rattle.message_log.specs.Encoded.{Encodes}
use Rattle.store.specs.Stores.{Meaning}
use Rattle.cluster.specs.declared.call.Call.{Call}
use Rattle.cluster.specs.States.{State, opened}
use Rattle.cluster.specs.Calls.{Answer, Step}
use Rattle.cluster.specs.Worlds.{entries_read, world_of, call_of, fate_of}

module _ (setup : Setup ℕ) where
  -- A run: calls one after the other, the answer of each, and the state after each.
  pub data Run : State → List Call → List Answer → List State → Type 0 where
    ended : {state : State} → Run state [] [] []
    and_then : {before after : State} {call : Call} {answer : Answer} {calls : List Call} {answers : List Answer} {states : List State}
        → Step setup before call answer after → Run after calls answers states
        → Run before (call ∷ calls) (answer ∷ answers) (after ∷ states)

  -- A state that calls lead to, from an opening of any stores with a cleared log.
  pub data Reached : State → Type 0 where
    at_opening : (stores : List Meaning) (capacity : ℕ) → legal_capacity capacity ≡ true → Reached (opened setup stores (cleared capacity))
    by_call : {before after : State} {call : Call} {answer : Answer} → Reached before → Step setup before call answer after → Reached after

-- the last of the states of a run, or the one before them where there is none
abbrev pub last_of : State → List State → State
last_of before [] = before
last_of before (state ∷ states) = last_of state states

-- The log of a cluster is not split: every byte of it is that of a list of messages; its entries, those among the first m,
-- read as that list, so that entry e is message e; and these have one history: one commit per version, and later commits
-- descend from earlier ones.
pub record Unsplit (state : State) : Type 0 where
  pub messages : List (Message ℕ)
  pub bytes : Encodes (capacity_of state.log) messages state.log
  pub readable : entries_read (length state.stores) state.log ≡ entries_of messages
  pub history : OneHistory messages

-- No run splits the log: every state that calls reach, and so the state after each call of every run from an opening with a
-- cleared log, has one history.
pub record NoRunSplitsTheLog : Type 0 where
  pub reached : (setup : Setup ℕ) → Lawful setup → (state : State) → Reached setup state → Unsplit state
  pub run : (setup : Setup ℕ) → Lawful setup → (stores : List Meaning) (capacity : ℕ) → legal_capacity capacity ≡ true
      → (calls : List Call) (answers : List Answer) (states : List State)
      → Run setup (opened setup stores (cleared capacity)) calls answers states → AllByRecursion Unsplit states

-- Bytes are messages: an open cluster that calls reach denotes a world that calls on messages reach, and a step over bytes,
-- its answer and all that it leaves, is that step on messages.
pub record BytesAreMessages : Type 0 where
  pub reached : (setup : Setup ℕ) → Lawful setup → (state : State) → Reached setup state → state.shut ≡ None
      → messages_run.Reached setup (world_of state)
  pub step : (setup : Setup ℕ) → Lawful setup → (before after : State) (call : Call) (answer : Answer)
      → Reached setup before → before.shut ≡ None → (step : Step setup before call answer after)
      → messages.called setup (world_of before) (call_of call) (fate_of before call step.keeps_new)
      ≡ record { answer = answer; world = world_of after }
