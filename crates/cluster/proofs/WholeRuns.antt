-- What a whole run promises: it is a run of the definitions, no state of it is split, and a shut cluster refuses each call.
use Rattle.std.proofs.Common.{◌≡◌, ℕ, Bool, true, false, ◌&&◌, ◌==◌, List, length, Some, Ok, Err, Result, sym, refl, ap, ◌∙◌, subst}
use Rattle.std.specs.List.{AllByRecursion}
use Rattle.std.proofs.lemmas.Bool.{and_parts, cond-true, cond-false}
use Rattle.quorum.specs.declared.node_set.NodeSet.{NodeSet}
use Rattle.quorum.specs.Laws.{Shared, Grows, Void}
use Rattle.protocol.proofs.Log.{impossible}
use Rattle.protocol.specs.declared.refusal.Refusal.{Refusal}
use Rattle.protocol.specs.declared.refusal.Refusal.TheVariants.{ClusterShut}
use Rattle.protocol.specs.Decisions.{Setup as Fixed}
use Rattle.message_log.specs.declared.fault.Fault.{Fault}
use Rattle.message_log.specs.declared.fault.Fault.TheVariants.{IllFormedLog}
use Rattle.message_log.specs.Layout.{legal_capacity, log_length}
use Rattle.message_log.specs.Log as log
use Rattle.message_log.specs.Log.{clear_to, cleared}
use Rattle.node.specs.declared.setup.Setup.{Setup}
use Rattle.node.specs.Setups.{meant}
use Rattle.store.specs.Stores.{Meaning}
use Rattle.cluster.specs.declared.call.Call.{Call}
use Rattle.cluster.specs.declared.cluster.Cluster.{Cluster}
use Rattle.cluster.specs.declared.turn.Turn.{Turn}
use Rattle.cluster.specs.States.{State, refusal_in, opened}
use Rattle.cluster.specs.Calls.{Answer, Outcome}
use Rattle.cluster.specs.Runs.{Run, ended, and_then, at_opening, last_of}
use Rattle.cluster.specs.Clusters.{with_log}
use Rattle.cluster.specs.Playing.{calls_in, answers_in, Played, Ran}
use Rattle.cluster.proofs.Calling.{lawful_setup}
use Rattle.cluster.proofs.Frames.{refused_where_shut}
use Rattle.cluster.proofs.Unsplitting.{unsplit_run}

-- clearing that is not refused: the capacity is legal, and the log is cleared to it
pub record Cleared (bytes : List ℕ) (capacity : ℕ) : Type 0 where
  pub legal : legal_capacity capacity ≡ true
  pub left : (clear_to bytes capacity).bytes ≡ cleared capacity

pub cleared_if_done : (bytes : List ℕ) (capacity : ℕ) → (clear_to bytes capacity).answer ≡ Ok tt → Cleared bytes capacity
cleared_if_done bytes capacity h = go (legal_capacity capacity && length bytes == log_length capacity) refl
  where
    go : (b : Bool) → (legal_capacity capacity && length bytes == log_length capacity) ≡ b → Cleared bytes capacity
    go true e = record {
      legal = (and_parts (legal_capacity capacity) _ e).0;
      left = ap (λ (o : log.Outcome (Unit {0})). o.bytes) (cond-true (legal_capacity capacity && length bytes == log_length capacity) _ _ e);
    }
    go false e =
        let q : ◌≡◌ {A = Result (Unit {0}) Fault} (Err IllFormedLog) (Ok tt) =
        sym (ap (λ (o : log.Outcome (Unit {0})). o.answer) (cond-false (legal_capacity capacity && length bytes == log_length capacity) _ _ e)) ∙ h
        in
        impossible cc

-- a run of a shut cluster
record StaysShut (state : State) (answers : List Answer) (last : State) : Type 0 where
  refused : AllByRecursion (λ (answer : Answer). answer ≡ Err ClusterShut) answers
  same : last ≡ state

module _ (setup : Fixed ℕ) where
  stays_shut : (state : State) (why : Refusal) → state.shut ≡ Some why → (calls : List Call) (answers : List Answer) (states : List State)
      → Run setup state calls answers states → StaysShut state answers (last_of state states)
  stays_shut state why h calls answers states ended = record { refused = tt; same = refl }
  stays_shut state why h calls answers states (and_then {after = after} {call = call} {answer = answer} {calls = cs} {answers = told} {states = ss} s run) =
      let out = sym (refused_where_shut setup state why h call s.keeps_new) ∙ s.same in
      let here : Err ClusterShut ≡ answer = ap (λ (o : Outcome). o.answer) out in
      let still : state ≡ after = ap (λ (o : Outcome). o.state) out in
      let rest = stays_shut after why (ap (λ (x : State). x.shut) (sym still) ∙ h) cs told ss run in
      record { refused = (sym here, rest.refused); same = rest.same ∙ sym still }

module _ {B R : Type 0} (quorum : R → NodeSet → NodeSet → Bool) (meaning : B → List Meaning)
    (shared : (rule : R) → Shared (quorum rule)) (grows : (rule : R) → Grows (quorum rule)) (void : (rule : R) → Void (quorum rule)) where
  pub ran_by_playing : (bank : B) (setup : Setup R) (turns : List Turn) (capacity : ℕ)
      (before after : Cluster B R) (bytes log log' : List ℕ) (turns' : List Turn) → Cleared bytes capacity → log ≡ (clear_to bytes capacity).bytes
      → before.setup ≡ setup
      → ((l : List ℕ) → with_log meaning before.nodes l ≡ opened (meant quorum setup) (meaning bank) l)
      → after.setup ≡ before.setup
      → Played (meant quorum before.setup) (with_log meaning before.nodes log) turns turns' (with_log meaning after.nodes log')
      → Ran quorum meaning bank setup turns capacity (Ok after) log' turns'
  ran_by_playing bank setup turns capacity before after bytes log log' turns' c l fixed start stays played =
      let S = meant quorum setup in
      let s₀ = opened S (meaning bank) (cleared capacity) in
      let from : with_log meaning before.nodes log ≡ s₀ = start log ∙ ap (opened S (meaning bank)) (l ∙ c.left) in
      let run : Run S s₀ (calls_in turns) (answers_in turns') played.states =
      subst (λ (s : Setup R). Run (meant quorum s) s₀ (calls_in turns) (answers_in turns') played.states) fixed
      (subst (λ (s : State). Run (meant quorum before.setup) s (calls_in turns) (answers_in turns') played.states) from played.run)
      in
      let last : last_of s₀ played.states ≡ with_log meaning after.nodes log' =
      ap (λ (s : State). last_of s played.states) (sym from) ∙ played.last
      in
      record {
        cluster = after;
        given = refl;
        fixed = stays ∙ fixed;
        calls = played.calls;
        states = played.states;
        run = run;
        unsplit = unsplit_run S (lawful_setup quorum meaning shared grows void setup)
            s₀ (at_opening (meaning bank) capacity c.legal) (calls_in turns) (answers_in turns') played.states run;
        last = last;
        shut = λ why h.
            let shut : s₀.shut ≡ Some why = ap refusal_in h in
            let stays = stays_shut S s₀ why shut (calls_in turns) (answers_in turns') played.states run in
            (ap (λ (s : State). s.shut) (sym last ∙ stays.same) ∙ shut, stays.refused);
      }
