-- A call that is lent no log does the same beside every log.
use Rattle.std.proofs.Common.{◌≡◌, ℕ, Bool, true, false, cond, List, [], ◌∷◌, None, Ok, Err, Option, Result, sym, refl, ap, ◌∙◌, subst}
use Rattle.std.proofs.lemmas.Bool.{cond-true, cond-false}
use Rattle.protocol.specs.declared.effect.Effect.{Effect}
use Rattle.protocol.specs.declared.message.Message.{Message}
use Rattle.protocol.specs.declared.refusal.Refusal.{Refusal}
use Rattle.protocol.specs.Decisions.{Setup, Test, decided, bootstrap_tests, bootstrap_effect, restart_effect}
use Rattle.store.specs.declared.power.Power.{Power}
use Rattle.store.specs.Banks.{store_at}
use Rattle.cluster.specs.declared.call.Call.{Call}
use Rattle.cluster.specs.declared.call.Call.TheVariants.{Bootstrap, Restart}
use Rattle.cluster.specs.States.{State, node_at}
use Rattle.cluster.specs.Calls.{Answer, Outcome, node_called, power_of, shut_test, node_test, decision, finished, written, carried_out, message_in, change_in, Allowed, AllFit, Step}

-- the state with another log
abbrev pub relog : List ℕ → State → State
relog log state = record { shut = state.shut; stores = state.stores; volatile = state.volatile; log = log }

abbrev relogged : List ℕ → Outcome → Outcome
relogged log o = record { answer = o.answer; state = relog log o.state }

-- an effect that sends nothing
silent_decided : (tests : List Test) (effect : Effect ℕ) → effect.message ≡ None → message_in (decided tests effect) ≡ None
silent_decided [] effect h = h
silent_decided (test ∷ tests) effect h = go (silent_decided tests effect h) test.refuses
  where
    go : message_in (decided tests effect) ≡ None → (b : Bool) → message_in (cond b (Err test.with) (decided tests effect)) ≡ None
    go rest true = refl
    go rest false = rest

module _ (state : State) (log : List ℕ) (n : ℕ) (power : Power) (keeps_new : Bool) where
  carried_alike : (r : Result (Effect ℕ) Refusal) → message_in r ≡ None
      → carried_out (relog log state) n power keeps_new r ≡ relogged log (carried_out state n power keeps_new r)
  carried_alike (Err why) h = refl
  carried_alike (Ok effect) h =
      let P : Effect ℕ → Type 0 =
      λ e. carried_out (relog log state) n power keeps_new (Ok e) ≡ relogged log (carried_out state n power keeps_new (Ok e))
      in
      let same : record { change = effect.change; volatile = effect.volatile; message = None } ≡ effect =
      λ i. record { change = effect.change; volatile = effect.volatile; message = sym h i }
      in
      subst P same (go (finished (store_at state.stores n) effect.change power) refl)
    where
      go : (b : Bool) → finished (store_at state.stores n) effect.change power ≡ b
          → written (relog log state) n power keeps_new (record { change = effect.change; volatile = effect.volatile; message = None }) None
          ≡ relogged log (written state n power keeps_new (record { change = effect.change; volatile = effect.volatile; message = None }) None)
      go true f =
          cond-true (finished (store_at state.stores n) effect.change power) _ _ f
          ∙ sym (ap (relogged log) (cond-true (finished (store_at state.stores n) effect.change power) _ _ f))
      go false f =
          cond-false (finished (store_at state.stores n) effect.change power) _ _ f
          ∙ sym (ap (relogged log) (cond-false (finished (store_at state.stores n) effect.change power) _ _ f))

-- what is written does not depend on the log
same_change : (log log' : List ℕ) (r : Result (Effect ℕ) Refusal) → message_in r ≡ None → change_in log r ≡ change_in log' r
same_change log log' (Err why) h = refl
same_change log log' (Ok effect) h =
    let P : Option (Message ℕ) → Type 0 =
    λ m. change_in log (Ok (record { change = effect.change; volatile = effect.volatile; message = m }))
    ≡ change_in log' (Ok (record { change = effect.change; volatile = effect.volatile; message = m }))
    in
    subst P (sym h) refl

module _ (setup : Setup ℕ) (before after : State) (log : List ℕ) where
  -- the call's step beside another log, where its decision is the same there and sends nothing
  step_beside : (call : Call) (answer : Answer) → decision setup (relog log before) call ≡ decision setup before call
      → message_in (decision setup before call) ≡ None → Step setup before call answer after
      → Step setup (relog log before) call answer (relog log after)
  step_beside call answer same silent s = record {
    keeps_new = s.keeps_new;
    allowed = subst (λ c. Allowed (store_at before.stores (node_called call)) c (power_of call) s.keeps_new)
        (sym (ap (change_in log) same ∙ same_change log before.log (decision setup before call) silent)) s.allowed;
    fits = subst AllFit (ap message_in (sym same)) s.fits;
    same = ap (carried_out (relog log before) (node_called call) (power_of call) s.keeps_new) same
        ∙ carried_alike before log (node_called call) (power_of call) s.keeps_new (decision setup before call) silent
        ∙ ap (relogged log) s.same;
  }

  pub bootstrap_beside : (n : ℕ) (power : Power) (answer : Answer) → Step setup before (Bootstrap n power) answer after
      → Step setup (relog log before) (Bootstrap n power) answer (relog log after)
  bootstrap_beside n power answer = step_beside (Bootstrap n power) answer refl (silent_decided (shut_test before ∷ node_test before n ∷ bootstrap_tests setup (node_at before n)) (bootstrap_effect setup (node_at before n)) refl)

  pub restart_beside : (n : ℕ) (answer : Answer) → Step setup before (Restart n) answer after
      → Step setup (relog log before) (Restart n) answer (relog log after)
  restart_beside n answer = step_beside (Restart n) answer refl (silent_decided (shut_test before ∷ node_test before n ∷ []) (restart_effect setup (node_at before n)) refl)
