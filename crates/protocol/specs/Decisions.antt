-- What a node decides, for each call and each message that is delivered to it: a list of tests, each with its refusal, and
-- an effect. The first test that holds refuses; if none does, the effect follows.
use Rattle.std.specs.Prelude.{ℕ, Bool, true, false, cond, not, ◌&&◌, ◌||◌, List, [], ◌∷◌, Some, None, Ok, Err, Result, ◌==◌, nat_le, nat_lt}
use Rattle.quorum.specs.declared.node_set.NodeSet.{NodeSet}
use Rattle.quorum.specs.Sets.{nobody, with_node}
use Rattle.protocol.specs.declared.change.Change.TheVariants as change
-- what a node does where nothing refuses: its change, its next volatile values, and its message
pub use Rattle.protocol.specs.declared.effect.Effect.{Effect}
use Rattle.protocol.specs.declared.message.Join.{Join}
use Rattle.protocol.specs.declared.message.Publication.{Publication}
use Rattle.protocol.specs.declared.message.Response.{Response}
use Rattle.protocol.specs.declared.message.Commit.{Commit}
use Rattle.protocol.specs.declared.message.Message.{Message}
use Rattle.protocol.specs.declared.message.Message.TheVariants as message
-- a node: what it keeps in its store, and what it forgets at a restart
pub use Rattle.protocol.specs.declared.node_state.NodeState.{NodeState}
use Rattle.protocol.specs.declared.record.Record.{Record}
use Rattle.protocol.specs.declared.refusal.Refusal.{Refusal}
use Rattle.protocol.specs.declared.refusal.Refusal.TheVariants.{
  AlreadyBootstrapped,
  TermNotHigher,
  OtherTerm,
  JoinNotStarted,
  JoinerAhead,
  NotBootstrapped,
  ElectionNotWon,
  PublicationUnderWay,
  VersionNotHigher,
  ReconfigurationUnderWay,
  NoJoinQuorum,
  AlreadyAccepted,
  OtherVersion,
  OtherAcceptedTerm,
  OtherAcceptedVersion,
  NewerPublished,
}
use Rattle.protocol.specs.declared.volatile.Volatile.{Volatile}

-- What is fixed when a cluster is opened: the voting rule, when two values are the same, and what its nodes start from.
pub record Setup (V : Type 0) : Type 0 where
  pub quorum : NodeSet → NodeSet → Bool
  pub same_value : V → V → Bool
  pub initial_configuration : NodeSet
  pub initial_value : V

-- a test that refuses where it holds
pub record Test : Type 0 where
  pub refuses : Bool
  pub with : Refusal

-- the first test that holds refuses; if none does, what comes next decides
abbrev pub checked : {X : Type 0} → List Test → Result X Refusal → Result X Refusal
checked [] next = next
checked (test ∷ tests) next = cond test.refuses (Err test.with) (checked tests next)

-- the first test that holds refuses; if none does, the effect follows
abbrev pub decided : {X : Type 0} → List Test → X → Result X Refusal
decided tests effect = checked tests (Ok effect)

-- sets of nodes
abbrev pub is_empty : NodeSet → Bool
is_empty s = s.bits == 0

abbrev pub same_set : NodeSet → NodeSet → Bool
same_set a b = a.bits == b.bits

-- the volatile values after a restart, from the record that is kept
abbrev pub restarted : {V : Type 0} → Record V → Volatile
restarted kept = record {
  join_votes = nobody;
  started_join = false;
  election_won = false;
  last_published_version = 0;
  last_published_configuration = kept.last_accepted_configuration;
  publish_votes = nobody;
}

module _ {V : Type 0} (setup : Setup V) (node : NodeState V) where
  -- the node's record and volatile values, under short names
  abbrev r : Record V
  r = node.kept

  abbrev w : Volatile
  w = node.volatile

  -- Bootstrap: the initial value and the initial configuration are accepted and committed; term and version stay.
  abbrev pub bootstrap_tests : List Test
  bootstrap_tests = record { refuses = not (is_empty r.last_accepted_configuration); with = AlreadyBootstrapped } ∷ []

  abbrev pub bootstrap_effect : Effect V
  bootstrap_effect = record {
    change = Some (change.Accept (record {
      term = r.last_accepted_term;
      version = r.last_accepted_version;
      value = setup.initial_value;
      configuration = setup.initial_configuration;
      committed_configuration = setup.initial_configuration;
    }));
    volatile = w;
    message = None;
  }

  -- Start join, node n, for node d as leader of term t: the term is written, the node is reset as by a restart but has
  -- started a join, and a join is sent.
  abbrev pub start_join_tests : (t : ℕ) → List Test
  start_join_tests t = record { refuses = nat_le t r.current_term; with = TermNotHigher } ∷ []

  abbrev pub start_join_effect : (n d t : ℕ) → Effect V
  start_join_effect n d t = record {
    change = Some (change.Term t);
    volatile = record {
      join_votes = nobody;
      started_join = true;
      election_won = false;
      last_published_version = 0;
      last_published_configuration = r.last_accepted_configuration;
      publish_votes = nobody;
    };
    message = Some (message.Join (record {
      source = n;
      destination = d;
      term = t;
      base_term = r.last_accepted_term;
      base_version = r.last_accepted_version;
    }));
  }

  -- Publish, node n, in term t a version v with a value and a configuration: only a leader whose last publication it has
  -- accepted itself, in its own term, with a higher version; it changes the configuration only if the last change is
  -- committed, and only to one of which its join votes are a quorum.
  abbrev pub publish_tests : (t v : ℕ) (configuration : NodeSet) → List Test
  publish_tests t v configuration =
      record { refuses = not w.election_won; with = ElectionNotWon }
      ∷ record {
        refuses = not (w.last_published_version == r.last_accepted_version);
        with = PublicationUnderWay;
      }
      ∷ record { refuses = not (t == r.current_term); with = OtherTerm }
      ∷ record { refuses = nat_le v w.last_published_version; with = VersionNotHigher }
      ∷ record {
        refuses = not (same_set configuration r.last_accepted_configuration)
            && not (same_set r.last_committed_configuration r.last_accepted_configuration);
        with = ReconfigurationUnderWay;
      }
      ∷ record { refuses = not (setup.quorum w.join_votes configuration); with = NoJoinQuorum } ∷ []

  abbrev pub publish_effect : (n t v : ℕ) (value : V) (configuration : NodeSet) → Effect V
  publish_effect n t v value configuration = record {
    change = None;
    volatile = record {
      join_votes = w.join_votes;
      started_join = w.started_join;
      election_won = w.election_won;
      last_published_version = v;
      last_published_configuration = configuration;
      publish_votes = nobody;
    };
    message = Some (message.Publication (record {
      source = n;
      term = t;
      version = v;
      base_term = r.last_accepted_term;
      base_version = r.last_accepted_version;
      value = value;
      configuration = configuration;
      committed_configuration = r.last_committed_configuration;
    }));
  }

  -- A join is delivered: its source is counted, and the election is won if the votes are a quorum of the accepted and of
  -- the committed configuration; when it is won, the published version becomes the accepted one.
  abbrev pub joiner_ahead : Join → Bool
  joiner_ahead m =
      nat_lt r.last_accepted_term m.base_term
      || (m.base_term == r.last_accepted_term && nat_lt r.last_accepted_version m.base_version)

  abbrev pub join_tests : Join → List Test
  join_tests m =
      record { refuses = not (m.term == r.current_term); with = OtherTerm }
      ∷ record { refuses = not w.started_join; with = JoinNotStarted }
      ∷ record { refuses = joiner_ahead m; with = JoinerAhead }
      ∷ record { refuses = is_empty r.last_accepted_configuration; with = NotBootstrapped } ∷ []

  abbrev pub elects : (votes : NodeSet) → Bool
  elects votes =
      setup.quorum votes r.last_accepted_configuration && setup.quorum votes r.last_committed_configuration

  abbrev pub join_effect : Join → Effect V
  join_effect m =
      let votes = with_node m.source w.join_votes in
      record {
        change = None;
        volatile = record {
          join_votes = votes;
          started_join = w.started_join;
          election_won = elects votes;
          last_published_version = cond (elects votes && not w.election_won) r.last_accepted_version w.last_published_version;
          last_published_configuration = w.last_published_configuration;
          publish_votes = w.publish_votes;
        };
        message = None;
      }

  -- A publication is delivered to node n: it is accepted, and a response goes to its source.
  abbrev pub publication_tests : Publication V → List Test
  publication_tests m =
      record { refuses = not (m.term == r.current_term); with = OtherTerm }
      ∷ record {
        refuses = m.term == r.last_accepted_term && nat_le m.version r.last_accepted_version;
        with = AlreadyAccepted;
      }
      ∷ []

  abbrev pub publication_effect : (n : ℕ) → Publication V → Effect V
  publication_effect n m = record {
    change = Some (change.Accept (record {
      term = m.term;
      version = m.version;
      value = m.value;
      configuration = m.configuration;
      committed_configuration = m.committed_configuration;
    }));
    volatile = w;
    message = Some (message.Response (record { source = n; destination = m.source; term = m.term; version = m.version }));
  }

  -- A response is delivered to node n: its source is counted, and a commit is sent if the votes are a quorum of the
  -- committed and of the published configuration.
  abbrev pub response_tests : Response → List Test
  response_tests m =
      record { refuses = not w.election_won; with = ElectionNotWon }
      ∷ record { refuses = not (m.term == r.current_term); with = OtherTerm }
      ∷ record { refuses = not (m.version == w.last_published_version); with = OtherVersion } ∷ []

  abbrev pub decides : (votes : NodeSet) → Bool
  decides votes =
      setup.quorum votes r.last_committed_configuration && setup.quorum votes w.last_published_configuration

  abbrev pub response_effect : (n : ℕ) → Response → Effect V
  response_effect n m =
      let votes = with_node m.source w.publish_votes in
      record {
        change = None;
        volatile = record {
          join_votes = w.join_votes;
          started_join = w.started_join;
          election_won = w.election_won;
          last_published_version = w.last_published_version;
          last_published_configuration = w.last_published_configuration;
          publish_votes = votes;
        };
        message = cond (decides votes) (Some (message.Commit (record { source = n; term = m.term; version = m.version }))) None;
      }

  -- A commit is delivered: the accepted configuration is marked as committed.
  abbrev pub commit_tests : Commit → List Test
  commit_tests m =
      record { refuses = not (m.term == r.current_term); with = OtherTerm }
      ∷ record { refuses = not (m.term == r.last_accepted_term); with = OtherAcceptedTerm }
      ∷ record { refuses = not (m.version == r.last_accepted_version); with = OtherAcceptedVersion }
      ∷ record {
        refuses = w.election_won && not (r.last_accepted_version == w.last_published_version);
        with = NewerPublished;
      }
      ∷ []

  abbrev pub commit_effect : Effect V
  commit_effect = record { change = Some change.Mark; volatile = w; message = None }

  -- Restart: the volatile values are lost.
  abbrev pub restart_effect : Effect V
  restart_effect = record { change = None; volatile = restarted r; message = None }

  -- A message that is delivered to node n, by its kind.
  abbrev pub deliver_decided : (n : ℕ) → Message V → Result (Effect V) Refusal
  deliver_decided n (message.Join m) = decided (join_tests m) (join_effect m)
  deliver_decided n (message.Publication m) = decided (publication_tests m) (publication_effect n m)
  deliver_decided n (message.Response m) = decided (response_tests m) (response_effect n m)
  deliver_decided n (message.Commit m) = decided (commit_tests m) commit_effect
