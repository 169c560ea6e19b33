-- A cluster with the log that its calls are lent, and how a cluster is opened.
use Rattle.std.specs.Prelude.{ℕ, Bool, true, false, not, ◌&&◌, List, [], ◌∷◌, length, replicate, Some, None, Ok, Err, Option, Result, ◌==◌, nat_lt, slice_index_or}
use Rattle.quorum.specs.Sets.{nobody, legal_configuration}
use Rattle.protocol.specs.declared.node_state.NodeState.{NodeState}
use Rattle.protocol.specs.declared.record.Record.{Record}
use Rattle.protocol.specs.declared.refusal.Refusal.{Refusal}
use Rattle.protocol.specs.declared.refusal.Refusal.TheVariants.{UnsoundStore, TooManyStores, IllegalInitialConfiguration, StoreNotFresh}
use Rattle.protocol.specs.declared.volatile.Volatile.{Volatile}
use Rattle.protocol.specs.Decisions.{Setup, Test, decided, is_empty}
use Rattle.store.specs.Stores.{Meaning}
use Rattle.store.specs.Banks.{store_at, all_sound}

-- A cluster and its log: why its opening was refused, if it was; what each store of its bank means; the volatile values of
-- each node; and the bytes of the log, whatever they hold.
pub record State : Type 0 where
  pub shut : Option Refusal
  pub stores : List Meaning
  pub volatile : List Volatile
  pub log : List ℕ

-- the volatile values of a node that has just been opened
abbrev pub blank : Volatile
blank = record {
  join_votes = nobody;
  started_join = false;
  election_won = false;
  last_published_version = 0;
  last_published_configuration = nobody;
  publish_votes = nobody;
}

-- node n: the record in its store, and its volatile values
abbrev pub node_at : State → ℕ → NodeState ℕ
node_at state n = record { kept = (store_at state.stores n).content; volatile = slice_index_or state.volatile n blank }

-- a cluster has at most this many nodes, and has a place for the volatile values of each
abbrev pub most_nodes : ℕ
most_nodes = 16

-- the refusal of an opening, if it is refused
abbrev pub refusal_in : Result (Unit {0}) Refusal → Option Refusal
refusal_in (Ok done) = None
refusal_in (Err why) = Some why

module _ (setup : Setup ℕ) where
  -- A record is fresh if both terms are 0, both configurations are empty and its value is the initial one; its version is
  -- free.
  abbrev pub fresh : Record ℕ → Bool
  fresh kept =
      (kept.current_term == 0)
      && (kept.last_accepted_term == 0
      && (is_empty kept.last_accepted_configuration
      && (is_empty kept.last_committed_configuration && kept.last_accepted_value == setup.initial_value)))

  abbrev pub all_fresh : List Meaning → Bool
  all_fresh [] = true
  all_fresh (store ∷ stores) = fresh store.content && all_fresh stores

  -- Opening a cluster over stores: every store is sound, there are at most 16, the initial configuration is legal, and
  -- every store is fresh.
  abbrev pub opening_tests : List Meaning → List Test
  opening_tests stores =
      record { refuses = not (all_sound stores); with = UnsoundStore }
      ∷ record { refuses = nat_lt most_nodes (length stores); with = TooManyStores }
      ∷ record {
        refuses = not (legal_configuration (length stores) setup.initial_configuration);
        with = IllegalInitialConfiguration;
      }
      ∷ record { refuses = not (all_fresh stores); with = StoreNotFresh } ∷ []

  abbrev pub opening : List Meaning → Result (Unit {0}) Refusal
  opening stores = decided (opening_tests stores) tt

  -- the cluster that is then there, shut or open, with every node's volatile values empty, false or 0
  abbrev pub opened : List Meaning → (log : List ℕ) → State
  opened stores log = record {
    shut = refusal_in (opening stores);
    stores = stores;
    volatile = replicate most_nodes blank;
    log = log;
  }
