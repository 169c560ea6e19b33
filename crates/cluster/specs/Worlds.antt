-- A state, whose log is bytes, and the world of nodes and messages that it denotes. The definitions of the calls on
-- messages, their theorem on safety and the public model speak of such worlds.
use Rattle.std.specs.Prelude.{ℕ, Bool, ◌&&◌, List, [], ◌∷◌, map, length}
use Rattle.protocol.specs.declared.node_state.NodeState.{NodeState}
use Rattle.protocol.specs.declared.volatile.Volatile.{Volatile}
use Rattle.protocol.specs.Calls as messages
use Rattle.protocol.specs.Calls.{World, Fate, Entry}
use Rattle.message_log.specs.Layout.{capacity_of}
use Rattle.message_log.specs.Log.{entries, read_as}
use Rattle.store.specs.Stores.{Meaning, finishes}
use Rattle.store.specs.Banks.{store_at}
use Rattle.cluster.specs.declared.call.Call.{Call}
use Rattle.cluster.specs.declared.call.Call.TheVariants.{Bootstrap, StartJoin, Publish, Deliver, Restart}
use Rattle.cluster.specs.States.{State, blank}
use Rattle.cluster.specs.Calls.{node_called, power_of}

-- the nodes: the record in each store, with the volatile values of the same number
abbrev pub nodes_of : List Meaning → List Volatile → List (NodeState ℕ)
nodes_of [] volatile = []
nodes_of (store ∷ stores) [] = record { kept = store.content; volatile = blank } ∷ nodes_of stores []
nodes_of (store ∷ stores) (w ∷ volatile) = record { kept = store.content; volatile = w } ∷ nodes_of stores volatile

-- the entries among the first m of a log's bytes, as they are read in a cluster of n nodes
abbrev pub entries_read : ℕ → List ℕ → List (Entry ℕ)
entries_read n bytes = map (read_as n) (entries bytes)

-- the world that a state denotes
abbrev pub world_of : State → World ℕ
world_of state = record {
  nodes = nodes_of state.stores state.volatile;
  capacity = capacity_of state.log;
  entries = entries_read (length state.stores) state.log;
}

-- a call, without its power
abbrev pub call_of : Call → messages.Call ℕ
call_of (Bootstrap n power) = messages.bootstrap n
call_of (StartJoin n d t power) = messages.start_join n d t
call_of (Publish n t v value configuration) = messages.publish n t v value configuration
call_of (Deliver e n power) = messages.deliver e n
call_of (Restart n) = messages.restart n

-- what becomes of the call's write: whether it finishes, and if not, whether the new record is kept; for a call that writes
-- nothing this does not matter
abbrev pub fate_of : State → Call → (keeps_new : Bool) → Fate
fate_of state call keeps_new =
    let store = store_at state.stores (node_called call) in
    record { finished = finishes store (power_of call); keeps_new = store.sound && keeps_new }
