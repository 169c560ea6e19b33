-- No run splits the log.
use Rattle.std.proofs.Common.{◌≡◌, ℕ, List, [], ◌∷◌, Some, None, sym, refl, ◌∙◌, subst, ap₂, ⊎_elim}
use Rattle.std.specs.List.{AllByRecursion}
use Rattle.protocol.proofs.Log.{impossible}
use Rattle.protocol.specs.declared.message.Commit.{Commit}
use Rattle.protocol.specs.declared.message.Message.{Message}
use Rattle.protocol.specs.Decisions.{Setup}
use Rattle.protocol.specs.Calls.{entries_of}
use Rattle.protocol.specs.History.{Committed, OneHistory}
use Rattle.protocol.specs.Runs.{Lawful}
use Rattle.protocol.proofs.Safety.{one_history_is_kept}
use Rattle.protocol.proofs.Unsplit.{unsplit}
use Rattle.message_log.specs.Log.{cleared}
use Rattle.cluster.specs.declared.call.Call.{Call}
use Rattle.cluster.specs.States.{State, opened}
use Rattle.cluster.specs.Calls.{Answer}
use Rattle.cluster.specs.Worlds.{world_of}
use Rattle.cluster.specs.Runs.{Run, ended, and_then, Reached, at_opening, by_call, Unsplit, NoRunSplitsTheLog, BytesAreMessages}
use Rattle.cluster.proofs.Reaching.{Going, Shut, going_or_shut, step_agrees}

-- no message, one history
no_commit : {C : Type 0} (c : Commit) → Committed {V = ℕ} [] c → C
no_commit c h = let t = h.there in impossible cc

empty_history : OneHistory {V = ℕ} []
empty_history = record {
  one_commit_per_version = record {
    one = λ c h. no_commit c h;
    same_term = λ c d h k e. no_commit c h;
    same_value = λ c d h k e p q x y. no_commit c h;
    same_configuration = λ c d h k e p q x y. no_commit c h;
  };
  later_commits_descend = record { descends = λ c d h k l p x. no_commit c h };
}

-- entries are of one list of messages
one_list : (a b : List (Message ℕ)) → entries_of a ≡ entries_of b → a ≡ b
one_list [] [] h = refl
one_list [] (y ∷ b) h = impossible cc
one_list (x ∷ a) [] h = impossible cc
one_list (x ∷ a) (y ∷ b) h =
    let first : x ≡ y = cc in
    let rest : entries_of a ≡ entries_of b = cc in
    ap₂ ◌∷◌ first (one_list a b rest)

module _ (setup : Setup ℕ) (lawful : Lawful setup) where
  unsplit_going : (state : State) → Going setup lawful state → Unsplit state
  unsplit_going state g =
      let u = unsplit ℕ one_history_is_kept setup lawful (world_of state) g.reached in
      let w = g.log in
      record {
        messages = w.messages;
        bytes = w.encodes;
        readable = w.readable;
        history = subst (OneHistory {V = ℕ}) (one_list u.log w.messages (sym u.readable ∙ w.readable)) u.history;
      }

  unsplit_shut : (state : State) → Shut setup lawful state → Unsplit state
  unsplit_shut state h = record {
    messages = h.log.messages;
    bytes = h.log.encodes;
    readable = h.log.readable;
    history = subst (OneHistory {V = ℕ}) (sym h.empty) empty_history;
  }

  pub unsplit_reached : (state : State) → Reached setup state → Unsplit state
  unsplit_reached state r = ⊎_elim (unsplit_going state) (unsplit_shut state) (going_or_shut setup lawful state r)

  -- the states of a run are reached
  pub unsplit_run : (state : State) → Reached setup state → (calls : List Call) (answers : List Answer) (states : List State)
      → Run setup state calls answers states → AllByRecursion Unsplit states
  unsplit_run state r calls answers states ended = tt
  unsplit_run state r calls answers states (and_then {after = after} {calls = rest} {answers = told} {states = ss} s run) =
      (unsplit_reached after (by_call r s), unsplit_run after (by_call r s) rest told ss run)

  pub going_if_open : (state : State) → Reached setup state → state.shut ≡ None → Going setup lawful state
  going_if_open state r e =
      ⊎_elim (λ g. g)
      (λ (h : Shut setup lawful state).
      let q : None ≡ Some h.why = sym e ∙ h.is_shut in
      impossible cc)
      (going_or_shut setup lawful state r)

pub no_run_splits_the_log : NoRunSplitsTheLog
no_run_splits_the_log = record {
  reached = λ setup lawful state r. unsplit_reached setup lawful state r;
  run = λ setup lawful stores capacity c calls answers states r.
      unsplit_run setup lawful (opened setup stores (cleared capacity)) (at_opening stores capacity c) calls answers states r;
}

pub bytes_are_messages : BytesAreMessages
bytes_are_messages = record {
  reached = λ setup lawful state r e. (going_if_open setup lawful state r e).reached;
  step = λ setup lawful before after call answer r e s. step_agrees setup lawful before after call answer (going_if_open setup lawful before r e) s;
}
