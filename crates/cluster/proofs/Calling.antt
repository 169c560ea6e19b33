-- What a step of a cluster's call promises besides.
use Rattle.std.proofs.Common.{◌≡◌, ℕ, Bool, false, ◌==◌, List, [], ◌∷◌, Ok, Err, Decides, Result, sym, ap, ◌∙◌, subst}
use Rattle.std.proofs.lemmas.Bool.{eqb-true, eq-eqb}
use Rattle.quorum.specs.declared.node_set.NodeSet.{NodeSet}
use Rattle.quorum.specs.Laws.{Shared, Grows, Void}
use Rattle.protocol.specs.declared.effect.Effect.{Effect}
use Rattle.protocol.specs.declared.node_state.NodeState.{NodeState}
use Rattle.protocol.specs.declared.refusal.Refusal.{Refusal}
use Rattle.protocol.specs.Decisions.{Setup as Fixed, checked, decided, publish_tests, publish_effect}
use Rattle.protocol.specs.Runs.{Lawful}
use Rattle.node.specs.declared.setup.Setup.{Setup}
use Rattle.node.specs.Setups.{meant}
use Rattle.store.specs.Stores.{Meaning}
use Rattle.store.specs.declared.power.Power.{Power}
use Rattle.cluster.specs.declared.call.Call.{Call}
use Rattle.cluster.specs.declared.call.Call.TheVariants.{Bootstrap, Publish, Restart}
use Rattle.cluster.specs.declared.cluster.Cluster.{Cluster}
use Rattle.cluster.specs.Calls.{Answer, no_power, shut_test, node_test, log_test, configuration_test, decision, carried_out, message_in, change_in, Allowed, AllFit, Step}
use Rattle.cluster.specs.Carrying.{Carried}
use Rattle.cluster.specs.States.{State, node_at}
use Rattle.store.specs.Banks.{store_at}
use Rattle.cluster.specs.Runs.{by_call}
use Rattle.cluster.specs.Clusters.{with_log, Stepped, Called}
use Rattle.cluster.proofs.AnyLog.{bootstrap_beside, restart_beside}
use Rattle.cluster.proofs.Modelling.{modelled, reached_sensible}
use Rattle.cluster.proofs.Passing.{passed_on}
use Rattle.cluster.proofs.Refusing.{one_step_or_one_refusal}
use Rattle.cluster.proofs.Unsplitting.{unsplit_reached}

-- equal numbers are told as such
numbers : (x y : ℕ) → Decides (x == y) (x ≡ y)
numbers x y = (eqb-true x y, eq-eqb x y)

-- A publish, step by step: the node was found, which leaves the state as it was, and then the log and the configuration were
-- tested, and the node decided.
module _ (t v value : ℕ) (configuration : NodeSet) where
  abbrev then_decided : State → Fixed ℕ → NodeState ℕ → ℕ → Result (Effect ℕ) Refusal
  then_decided state setup node n =
      checked (log_test state ∷ configuration_test state configuration ∷ [])
      (decided (publish_tests setup node t v configuration) (publish_effect setup node n t v value configuration))

  module _ (before from : State) (setup fixed : Fixed ℕ) (s node : NodeState ℕ) (n number : ℕ)
      (stays : from ≡ before) (is_fixed : fixed ≡ setup) (is_node : node ≡ s) (is_number : number ≡ n)
      (found : Ok s ≡ decided (shut_test before ∷ node_test before n ∷ []) (node_at before n)) where
    published : (r : Result (Effect ℕ) Refusal) → r ≡ then_decided from fixed node number
        → r ≡ decision setup before (Publish n t v value configuration)
    published r h =
        h ∙ (λ i. then_decided (stays i) (is_fixed i) (is_node i) (is_number i))
        ∙ passed_on (shut_test before ∷ node_test before n ∷ []) (node_at before n) s (λ (x : NodeState ℕ). then_decided before setup x n) found

    pub publish_refused : (why : Refusal) → Err why ≡ then_decided from fixed node number
        → (answer : Answer) → answer ≡ Err why → Step setup before (Publish n t v value configuration) answer from
    publish_refused why h answer is =
        let e = published (Err why) h in
        record {
          keeps_new = false;
          allowed = subst (λ r. Allowed (store_at before.stores n) (change_in before.log r) no_power false) e tt;
          fits = subst (λ r. AllFit (message_in r)) e tt;
          same = ap (carried_out before n no_power false) (sym e) ∙ (λ i. record { answer = sym is i; state = sym stays i });
        }

    pub publish_carried : (effect : Effect ℕ) → Ok effect ≡ then_decided from fixed node number
        → (answer : Answer) (after : State) → Carried from n effect no_power answer after
        → Step setup before (Publish n t v value configuration) answer after
    publish_carried effect h answer after c =
        let e = published (Ok effect) h in
        let d = subst (λ (state : State). Carried state n effect no_power answer after) stays c in
        record {
          keeps_new = d.keeps_new;
          allowed = subst (λ r. Allowed (store_at before.stores n) (change_in before.log r) no_power d.keeps_new) e d.allowed;
          fits = subst (λ r. AllFit (message_in r)) e d.fits;
          same = ap (carried_out before n no_power d.keeps_new) (sym e) ∙ d.same;
        }

module _ {B R : Type 0} (quorum : R → NodeSet → NodeSet → Bool) (meaning : B → List Meaning)
    (shared : (rule : R) → Shared (quorum rule)) (grows : (rule : R) → Grows (quorum rule)) (void : (rule : R) → Void (quorum rule)) where
  -- what a setup of the code means is lawful
  pub lawful_setup : (setup : Setup R) → Lawful (meant quorum setup)
  lawful_setup setup = record { shared = shared setup.rule; grows = grows setup.rule; void = void setup.rule; values = numbers }

  pub called_by_step : (before : Cluster B R) (log : List ℕ) (call : Call) (answer : Answer) (after : Cluster B R) (log' : List ℕ)
      → Stepped quorum meaning before log call answer after log' → Called quorum meaning before log call answer after log'
  called_by_step before log call answer after log' s =
      let setup = meant quorum before.setup in
      let from = with_log meaning before.nodes log in
      let to = with_log meaning after.nodes log' in
      record {
        fixed = s.fixed;
        step = s.step;
        model = modelled setup numbers from to call answer s.step;
        left = one_step_or_one_refusal setup from call answer to s.step;
        sensible = λ r is_open. reached_sensible setup (lawful_setup before.setup) from r is_open call;
        reached = λ r. by_call r s.step;
        unsplit = λ r. unsplit_reached setup (lawful_setup before.setup) to (by_call r s.step);
      }

  -- a call that is lent no log, beside every one
  pub bootstrap_called : (before : Cluster B R) (n : ℕ) (power : Power) (answer : Answer) (after : Cluster B R)
      → Stepped quorum meaning before [] (Bootstrap n power) answer after []
      → (log : List ℕ) → Called quorum meaning before log (Bootstrap n power) answer after log
  bootstrap_called before n power answer after s log =
      called_by_step before log (Bootstrap n power) answer after log
      (record { fixed = s.fixed; step = bootstrap_beside (meant quorum before.setup) _ _ log n power answer s.step })

  pub restart_called : (before : Cluster B R) (n : ℕ) (answer : Answer) (after : Cluster B R)
      → Stepped quorum meaning before [] (Restart n) answer after []
      → (log : List ℕ) → Called quorum meaning before log (Restart n) answer after log
  restart_called before n answer after s log =
      called_by_step before log (Restart n) answer after log
      (record { fixed = s.fixed; step = restart_beside (meant quorum before.setup) _ _ log n answer s.step })
