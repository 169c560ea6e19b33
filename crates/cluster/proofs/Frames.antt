-- What a call may do to the log, and that it keeps all the rest in its form.
use Rattle.std.proofs.Common.{◌≡◌, ℕ, Bool, true, false, List, length, is_some, Some, None, Ok, Err, Option, Result, sym, refl, ap, subst}
use Rattle.std.proofs.lemmas.List.{length-set}
use Rattle.std.proofs.lemmas.Bool.{cond-true, cond-false}
use Rattle.protocol.proofs.Log.{impossible}
use Rattle.protocol.specs.declared.change.Change.{Change}
use Rattle.protocol.specs.declared.effect.Effect.{Effect}
use Rattle.protocol.specs.declared.message.Message.{Message}
use Rattle.protocol.specs.declared.refusal.Refusal.{Refusal}
use Rattle.protocol.specs.declared.refusal.Refusal.TheVariants.{ClusterShut}
use Rattle.protocol.specs.Decisions.{Setup}
use Rattle.message_log.specs.declared.fault.Fault.{Fault}
use Rattle.message_log.specs.Log.{appended}
use Rattle.message_log.specs.Rules.{Fits}
use Rattle.store.specs.declared.power.Power.{Power}
use Rattle.store.specs.Stores.{Meaning}
use Rattle.store.specs.Banks.{store_at}
use Rattle.cluster.specs.declared.call.Call.{Call}
use Rattle.cluster.specs.declared.call.Call.TheVariants.{Bootstrap, StartJoin, Publish, Deliver, Restart}
use Rattle.cluster.specs.States.{State}
use Rattle.cluster.specs.Calls.{Outcome, node_called, power_of, decision, place_for, log_with, finished, stores_after, taken, written, if_placed, carried_out, called, message_in, refused, AllFit}

-- the numbers of the message that is due fit
pub fit_due : (due : Option (Message ℕ)) → AllFit due → (m : Message ℕ) → due ≡ Some m → Fits m
fit_due None f m h = impossible cc
fit_due (Some x) f m h = let e : x ≡ m = cc in subst Fits e f

module _ (state : State) where
  -- the log is as it was, or the message that is due was added to it
  pub data LogAfter (due : Option (Message ℕ)) (log : List ℕ) : Type 0 where
    as_it_was : log ≡ state.log → LogAfter due log
    with_message : (m : Message ℕ) → due ≡ Some m → log ≡ (appended state.log m).bytes → LogAfter due log

  pub record Framed (due : Option (Message ℕ)) (after : State) : Type 0 where
    pub shut : after.shut ≡ state.shut
    pub stores : length after.stores ≡ length state.stores
    pub volatile : length after.volatile ≡ length state.volatile
    pub log : LogAfter due after.log

  unchanged : (due : Option (Message ℕ)) → Framed due state
  unchanged due = record { shut = refl; stores = refl; volatile = refl; log = as_it_was refl }

  module _ (n : ℕ) (power : Power) (keeps_new : Bool) where
    log_sent : (due : Option (Message ℕ)) → LogAfter due (log_with state.log due)
    log_sent None = as_it_was refl
    log_sent (Some m) = with_message m refl refl

    framed_taken : (stores : List Meaning) → length stores ≡ length state.stores → (effect : Effect ℕ) (entry : Option ℕ)
        → Framed effect.message (taken state n stores effect entry).state
    framed_taken stores e effect entry = record {
      shut = refl;
      stores = e;
      volatile = length-set state.volatile n effect.volatile;
      log = log_sent effect.message;
    }

    same_length : (c : Option (Change ℕ)) → length (stores_after state.stores n c power keeps_new) ≡ length state.stores
    same_length None = refl
    same_length (Some change) = length-set state.stores n _

    framed_written : (effect : Effect ℕ) (entry : Option ℕ) → Framed effect.message (written state n power keeps_new effect entry).state
    framed_written effect entry = go (finished (store_at state.stores n) effect.change power) refl
      where
        go : (b : Bool) → finished (store_at state.stores n) effect.change power ≡ b
            → Framed effect.message (written state n power keeps_new effect entry).state
        go true f =
            subst (λ (o : Outcome). Framed effect.message o.state) (sym (cond-true (finished (store_at state.stores n) effect.change power) _ _ f))
            (framed_taken _ (same_length effect.change) effect entry)
        go false f =
            subst (λ (o : Outcome). Framed effect.message o.state) (sym (cond-false (finished (store_at state.stores n) effect.change power) _ _ f))
            (record {
              shut = refl;
              stores = same_length effect.change;
              volatile = length-set state.volatile n _;
              log = as_it_was refl;
            })

    framed_placed : (effect : Effect ℕ) (place : Result (Option ℕ) Fault)
        → Framed effect.message (if_placed state n power keeps_new effect place).state
    framed_placed effect (Err fault) = unchanged effect.message
    framed_placed effect (Ok entry) = framed_written effect entry

    framed_carried : (r : Result (Effect ℕ) Refusal) → Framed (message_in r) (carried_out state n power keeps_new r).state
    framed_carried (Err why) = unchanged None
    framed_carried (Ok effect) = framed_placed effect (place_for state.log effect.message)

module _ (setup : Setup ℕ) (state : State) where
  pub framed : (call : Call) (keeps_new : Bool) → Framed state (message_in (decision setup state call)) (called setup state call keeps_new).state
  framed call keeps_new = framed_carried state (node_called call) (power_of call) keeps_new (decision setup state call)

  -- a cluster that is shut refuses each call, and is as it was
  shut_decision : (why : Refusal) → state.shut ≡ Some why → (call : Call) → decision setup state call ≡ Err ClusterShut
  shut_decision why h (Bootstrap n power) = cond-true (is_some state.shut) _ _ (ap is_some h)
  shut_decision why h (StartJoin n d t power) = cond-true (is_some state.shut) _ _ (ap is_some h)
  shut_decision why h (Publish n t v value configuration) = cond-true (is_some state.shut) _ _ (ap is_some h)
  shut_decision why h (Deliver e n power) = cond-true (is_some state.shut) _ _ (ap is_some h)
  shut_decision why h (Restart n) = cond-true (is_some state.shut) _ _ (ap is_some h)

  pub refused_where_shut : (why : Refusal) → state.shut ≡ Some why → (call : Call) (keeps_new : Bool)
      → called setup state call keeps_new ≡ refused state ClusterShut
  refused_where_shut why h call keeps_new =
      ap (carried_out state (node_called call) (power_of call) keeps_new) (shut_decision why h call)
