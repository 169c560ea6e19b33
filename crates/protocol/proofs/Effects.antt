-- What the steps of the protocol change in a node, and the messages that they send.
use Rattle.std.proofs.Common.{ℕ, Bool, true, false, cond, not, ◌&&◌}
use Rattle.quorum.specs.declared.node_set.NodeSet.{NodeSet}
use Rattle.quorum.specs.Sets.{nobody, with_node}
use Rattle.protocol.specs.declared.record.Record.{Record}
use Rattle.protocol.specs.declared.volatile.Volatile.{Volatile}
use Rattle.protocol.specs.declared.message.Join.{Join}
use Rattle.protocol.specs.declared.message.Publication.{Publication}
use Rattle.protocol.specs.declared.message.Response.{Response}
use Rattle.protocol.specs.declared.message.Commit.{Commit}

-- what a node has in memory after a restart: said here again, so that the definition of the call is held to it
abbrev pub reset : {V : Type 0} → Record V → Volatile
reset r =
    record {
      join_votes = nobody;
      started_join = false;
      election_won = false;
      last_published_version = 0;
      last_published_configuration = r.last_accepted_configuration;
      publish_votes = nobody;
    }

-- what a node has in memory after it has started a join
abbrev pub ready : {V : Type 0} → Record V → Volatile
ready r =
    record {
      join_votes = nobody;
      started_join = true;
      election_won = false;
      last_published_version = 0;
      last_published_configuration = r.last_accepted_configuration;
      publish_votes = nobody;
    }

-- bootstrap: the initial value and the initial configuration
abbrev pub bootstrapped : {V : Type 0} → V → NodeSet → Record V → Record V
bootstrapped value configuration r =
    record {
      current_term = r.current_term;
      last_accepted_term = r.last_accepted_term;
      last_accepted_version = r.last_accepted_version;
      last_accepted_value = value;
      last_accepted_configuration = configuration;
      last_committed_configuration = configuration;
    }

-- start join: a new term
abbrev pub in_term : {V : Type 0} → ℕ → Record V → Record V
in_term t r =
    record {
      current_term = t;
      last_accepted_term = r.last_accepted_term;
      last_accepted_version = r.last_accepted_version;
      last_accepted_value = r.last_accepted_value;
      last_accepted_configuration = r.last_accepted_configuration;
      last_committed_configuration = r.last_committed_configuration;
    }

-- a publication accepted
abbrev pub accepting : {V : Type 0} → Publication V → Record V → Record V
accepting m r =
    record {
      current_term = r.current_term;
      last_accepted_term = m.term;
      last_accepted_version = m.version;
      last_accepted_value = m.value;
      last_accepted_configuration = m.configuration;
      last_committed_configuration = m.committed_configuration;
    }

-- the accepted configuration marked as committed
abbrev pub marked : {V : Type 0} → Record V → Record V
marked r =
    record {
      current_term = r.current_term;
      last_accepted_term = r.last_accepted_term;
      last_accepted_version = r.last_accepted_version;
      last_accepted_value = r.last_accepted_value;
      last_accepted_configuration = r.last_accepted_configuration;
      last_committed_configuration = r.last_accepted_configuration;
    }

-- whether these join votes win the election
abbrev pub wins : {V : Type 0} → (NodeSet → NodeSet → Bool) → Record V → NodeSet → Bool
wins quorum r votes = quorum votes r.last_accepted_configuration && quorum votes r.last_committed_configuration

-- The join of node s counted. A node that wins by it may publish from its accepted version on.
abbrev pub counting_join : {V : Type 0} → (NodeSet → NodeSet → Bool) → Record V → ℕ → Volatile → Volatile
counting_join quorum r s w =
    record {
      join_votes = with_node s w.join_votes;
      started_join = w.started_join;
      election_won = wins quorum r (with_node s w.join_votes);
      last_published_version =
          cond (wins quorum r (with_node s w.join_votes) && not w.election_won) r.last_accepted_version
          w.last_published_version;
      last_published_configuration = w.last_published_configuration;
      publish_votes = w.publish_votes;
    }

-- a publication of this version and configuration made
abbrev pub publishing : ℕ → NodeSet → Volatile → Volatile
publishing version configuration w =
    record {
      join_votes = w.join_votes;
      started_join = w.started_join;
      election_won = w.election_won;
      last_published_version = version;
      last_published_configuration = configuration;
      publish_votes = nobody;
    }

-- the response of node s counted
abbrev pub counting_response : ℕ → Volatile → Volatile
counting_response s w =
    record {
      join_votes = w.join_votes;
      started_join = w.started_join;
      election_won = w.election_won;
      last_published_version = w.last_published_version;
      last_published_configuration = w.last_published_configuration;
      publish_votes = with_node s w.publish_votes;
    }

-- whether these publish votes decide the last publication
abbrev pub decides : {V : Type 0} → (NodeSet → NodeSet → Bool) → Record V → Volatile → NodeSet → Bool
decides quorum r w votes = quorum votes r.last_committed_configuration && quorum votes w.last_published_configuration

-- the join of node n to d in term t
abbrev pub join_message : {V : Type 0} → ℕ → ℕ → ℕ → Record V → Join
join_message n d t r =
    record {
      source = n;
      destination = d;
      term = t;
      base_term = r.last_accepted_term;
      base_version = r.last_accepted_version;
    }

-- the publication of node n in term t
abbrev pub publication_message : {V : Type 0} → ℕ → ℕ → ℕ → V → NodeSet → Record V → Publication V
publication_message n t version value configuration r =
    record {
      source = n;
      term = t;
      version = version;
      base_term = r.last_accepted_term;
      base_version = r.last_accepted_version;
      value = value;
      configuration = configuration;
      committed_configuration = r.last_committed_configuration;
    }

-- the response of node n to a publication
abbrev pub response_message : {V : Type 0} → ℕ → Publication V → Response
response_message n m = record { source = n; destination = m.source; term = m.term; version = m.version }

-- the commit of what a response answers
abbrev pub commit_message : ℕ → Response → Commit
commit_message n m = record { source = n; term = m.term; version = m.version }
