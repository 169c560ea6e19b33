-- What a cluster of the code means, and what each of its calls promises.
use Rattle.std.specs.Prelude.{◌≡◌, ℕ, Bool, List, [], None}
use Rattle.quorum.specs.declared.node_set.NodeSet.{NodeSet}
use Rattle.node.specs.Setups.{meant}
use Rattle.store.specs.Stores.{Meaning}
use Rattle.cluster.specs.declared.call.Call.{Call}
use Rattle.cluster.specs.declared.cluster.Cluster.{Cluster}
use Rattle.cluster.specs.declared.nodes.Nodes.{Nodes}
use Rattle.cluster.specs.States.{State}
use Rattle.cluster.specs.Calls.{Answer, Step}
use Rattle.cluster.specs.Outcomes.{OneStepOrOneRefusal}
use Rattle.cluster.specs.Models.{Sensible, Modelled}
use Rattle.cluster.specs.Runs.{Reached, Unsplit}

-- the state of nodes and a log, where `meaning` says what their bank means
abbrev pub with_log : {B : Type 0} → (B → List Meaning) → Nodes B → List ℕ → State
with_log meaning nodes log = record { shut = nodes.shut; stores = meaning nodes.bank; volatile = nodes.volatile; log = log }

-- the state of nodes by themselves
abbrev pub alone : {B : Type 0} → (B → List Meaning) → Nodes B → State
alone meaning nodes = with_log meaning nodes []

-- The step of a call, where `quorum` says what the rule of a cluster means and `meaning` what its bank means: what was fixed at
-- the opening stays as it was, and the answer, what each store means, the volatile values of every node and every byte of the
-- log are the definition's. `Called` has the two again, and what follows from them.
pub record Stepped {B R : Type 0} (quorum : R → NodeSet → NodeSet → Bool) (meaning : B → List Meaning)
    (before : Cluster B R) (log : List ℕ) (call : Call) (answer : Answer) (after : Cluster B R) (log' : List ℕ) : Type 0 where
  pub fixed : after.setup ≡ before.setup
  pub step : Step (meant quorum before.setup) (with_log meaning before.nodes log) call answer (with_log meaning after.nodes log')

-- A call on a cluster that is lent a log, where `quorum` says what its rule means and `meaning` what its bank means.
pub record Called {B R : Type 0} (quorum : R → NodeSet → NodeSet → Bool) (meaning : B → List Meaning)
    (before : Cluster B R) (log : List ℕ) (call : Call) (answer : Answer) (after : Cluster B R) (log' : List ℕ) : Type 0 where
  -- what was fixed at the opening stays as it was
  pub fixed : after.setup ≡ before.setup
  -- the answer, what each store means, the volatile values of every node and every byte of the log are the definition's
  pub step : Step (meant quorum before.setup) (with_log meaning before.nodes log) call answer (with_log meaning after.nodes log')
  -- a refusal leaves all of it as it was, but for that of a cut write
  pub left : OneStepOrOneRefusal (with_log meaning before.nodes log) call answer (with_log meaning after.nodes log')
  -- the step is that of the public model, from every sensible state; ..
  pub model : Modelled (meant quorum before.setup) (with_log meaning before.nodes log) call answer (with_log meaning after.nodes log')
  -- .. and while the cluster is open, every state that calls reach is sensible
  pub sensible : Reached (meant quorum before.setup) (with_log meaning before.nodes log) → before.nodes.shut ≡ None → Sensible (with_log meaning before.nodes log) call
  -- what calls have reached from an opening with a cleared log, they go on to reach, ..
  pub reached : Reached (meant quorum before.setup) (with_log meaning before.nodes log)
      → Reached (meant quorum before.setup) (with_log meaning after.nodes log')
  -- .. and there one commit per version, and later commits descend from earlier ones
  pub unsplit : Reached (meant quorum before.setup) (with_log meaning before.nodes log) → Unsplit (with_log meaning after.nodes log')
