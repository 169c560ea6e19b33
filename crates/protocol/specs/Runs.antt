-- Runs: what calls lead to from a newly opened cluster, that none of them splits the history, and that they send legal
-- messages only.
use Rattle.std.specs.Prelude.{◌≡◌, ℕ, ◌≤◌, true, List, [], map, length, Some, Ok, Decides}
use Rattle.std.specs.List.{slice_get}
use Rattle.quorum.specs.Laws.{Shared, Grows, Void}
use Rattle.quorum.specs.Sets.{legal_configuration}
use Rattle.protocol.specs.declared.message.Message.{Message}
use Rattle.protocol.specs.Decisions.{Setup}
use Rattle.protocol.specs.Calls.{World, Fate, Call, entries_of, fresh_node, called}
use Rattle.protocol.specs.History.{OneHistory}
use Rattle.protocol.specs.Messages.{legal_message}

module _ {V : Type 0} (setup : Setup V) where
  -- What is asked of the setup: the voting rule keeps its laws, and the test of values tells whether two are equal.
  pub record Lawful : Type 0 where
    pub shared : Shared setup.quorum
    pub grows : Grows setup.quorum
    pub void : Void setup.quorum
    pub values : (x y : V) → Decides (setup.same_value x y) (x ≡ y)

  -- A cluster is opened over fresh nodes, up to 16 of them with any accepted versions, with a legal initial configuration;
  -- its log is cleared.
  pub record Opened (world : World V) : Type 0 where
    pub versions : List ℕ
    pub nodes : world.nodes ≡ map (fresh_node setup) versions
    pub few : length versions ≤ 16
    pub legal : legal_configuration (length versions) setup.initial_configuration ≡ true
    pub cleared : world.entries ≡ []

  -- a world that calls lead to: any calls with any numbers, whatever becomes of their writes
  pub data Reached : World V → Type 0 where
    at_opening : {world : World V} → Opened world → Reached world
    by_call : {world : World V} → Reached world → (call : Call V) (fate : Fate) → Reached (called setup world call fate).world

  -- a world whose log has messages only, with one history
  pub record Unsplit (world : World V) : Type 0 where
    pub log : List (Message V)
    pub readable : world.entries ≡ entries_of log
    pub history : OneHistory log

-- No run splits the history: after every call of every run, one commit per version, and later commits descend from
-- earlier ones.
abbrev pub NoRunSplitsTheHistory : Type 0 → Type 0
NoRunSplitsTheHistory V = (setup : Setup V) → Lawful setup → (world : World V) → Reached setup world → Unsplit setup world

-- Every message that a run has sent is legal in its cluster: a cluster can read all that it wrote.
abbrev pub MessagesAreLegal : Type 0 → Type 0
MessagesAreLegal V =
    (setup : Setup V) → ((x y : V) → Decides (setup.same_value x y) (x ≡ y)) → (world : World V) → Reached setup world
    → (e : ℕ) (m : Message V) → slice_get world.entries e ≡ Some (Ok m) → legal_message (length world.nodes) m ≡ true
