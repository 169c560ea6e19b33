-- One step or one refusal.
use Rattle.std.proofs.Common.{◌≡◌, ℕ, ◌<◌, ◌≤◌, Bool, true, false, cond, ◌&&◌, ◌||◌, ◌⊎◌, List, [], ◌∷◌, length, set, Some, None, Ok, Err, Option, Result, sym, refl, ap, ◌∙◌, subst, inl, inr, ⊎_elim, arith, lit<}
use Rattle.std.specs.List.{AllByRecursion}
use Rattle.std.proofs.lemmas.List.{get_or-set_same, set_past}
use Rattle.std.proofs.lemmas.Bool.{cond-true, cond-false, cases_lt}
use Rattle.protocol.proofs.Log.{impossible}
use Rattle.protocol.specs.declared.change.Change.{Change}
use Rattle.protocol.specs.declared.effect.Effect.{Effect}
use Rattle.protocol.specs.declared.message.Message.{Message}
use Rattle.protocol.specs.declared.message.Message.TheVariants.{Join, Publication, Response, Commit}
use Rattle.protocol.specs.declared.node_state.NodeState.{NodeState}
use Rattle.protocol.specs.declared.refusal.Refusal.{Refusal}
use Rattle.protocol.specs.declared.refusal.Refusal.TheVariants.{OtherDestination, WriteUnfinished}
use Rattle.protocol.specs.Changes.{changed}
use Rattle.protocol.specs.Messages.{is_for}
use Rattle.protocol.specs.Refusals.{refusal_number}
use Rattle.protocol.specs.Decisions.{Setup, Test, checked, deliver_decided, join_tests, publication_tests, response_tests, commit_tests, bootstrap_tests, start_join_tests, publish_tests}
use Rattle.message_log.specs.declared.fault.Fault.{Fault}
use Rattle.message_log.specs.declared.fault.Fault.TheVariants.{IllFormedLog, UnknownKind, InvalidBody, LogFull}
use Rattle.message_log.specs.Faults.{refusal_of}
use Rattle.message_log.specs.Log.{Stored, look_up_in, found_as, message_at}
use Rattle.message_log.specs.Rules.{read_message}
use Rattle.node.specs.Deliveries.{on_entry}
use Rattle.store.specs.declared.power.Power.{Power}
use Rattle.store.specs.Stores.{Meaning, finishes, after_write}
use Rattle.store.specs.Banks.{absent, store_at}
use Rattle.cluster.specs.declared.call.Call.{Call}
use Rattle.cluster.specs.declared.call.Call.TheVariants.{Bootstrap, StartJoin, Publish, Deliver, Restart}
use Rattle.cluster.specs.States.{State, node_at}
use Rattle.cluster.specs.Calls.{Answer, Outcome, node_called, power_of, count, shut_test, node_test, log_test, publish_input_tests, decision, place_for, finished, stores_after, taken, cut, written, if_placed, carried_out, Step}
use Rattle.cluster.specs.Outcomes.{CutShort, OneStepOrOneRefusal}

-- No test refuses as a cut write does: its refusal has a lower number.
abbrev Early : Test → Type 0
Early test = refusal_number test.with < 38

abbrev EarlyIf : {X : Type 0} → Result X Refusal → Type 0
EarlyIf (Ok x) = Unit {0}
EarlyIf (Err why) = refusal_number why < 38

early_checked : {X : Type 0} (tests : List Test) → AllByRecursion Early tests → (next : Result X Refusal) → EarlyIf next → EarlyIf (checked tests next)
early_checked [] all next h = h
early_checked {X} (test ∷ tests) all next h = go test.refuses (early_checked tests all.1 next h)
  where
    go : (b : Bool) → EarlyIf (checked tests next) → EarlyIf (cond b (Err test.with) (checked tests next))
    go true rest = all.0
    go false rest = rest

early_fault : (fault : Fault) → refusal_number (refusal_of fault) < 38
early_fault IllFormedLog = lit< tt
early_fault UnknownKind = lit< tt
early_fault InvalidBody = lit< tt
early_fault LogFull = lit< tt

early_delivery : (setup : Setup ℕ) (node : NodeState ℕ) (n : ℕ) (m : Message ℕ) → EarlyIf (deliver_decided setup node n m)
early_delivery setup node n (Join m) = early_checked (join_tests setup node m) (lit< tt, (lit< tt, (lit< tt, (lit< tt, tt)))) _ tt
early_delivery setup node n (Publication m) = early_checked (publication_tests setup node m) (lit< tt, (lit< tt, tt)) _ tt
early_delivery setup node n (Response m) = early_checked (response_tests setup node m) (lit< tt, (lit< tt, (lit< tt, tt))) _ tt
early_delivery setup node n (Commit m) = early_checked (commit_tests setup node m) (lit< tt, (lit< tt, (lit< tt, (lit< tt, tt)))) _ tt

early_entry : (setup : Setup ℕ) (node : NodeState ℕ) (n : ℕ) (r : Result (Message ℕ) Refusal) → EarlyIf r → EarlyIf (on_entry setup node n r)
early_entry setup node n (Err why) h = h
early_entry setup node n (Ok m) h = go (is_for n m)
  where
    go : (b : Bool) → EarlyIf (cond b (deliver_decided setup node n m) (Err OtherDestination))
    go true = early_delivery setup node n m
    go false = lit< tt

early_read : (n : ℕ) (bytes : List ℕ) (e : ℕ) → EarlyIf (message_at n bytes e)
early_read n bytes e = looked (look_up_in bytes e)
  where
    read : (r : Result (Message ℕ) Fault) → EarlyIf (elim r as (λ _. Result (Message ℕ) Refusal) [ Ok m ↦ Ok m | Err fault ↦ Err (refusal_of fault) ])
    read (Ok m) = tt
    read (Err fault) = early_fault fault

    found : (o : Option Stored) → EarlyIf (found_as n o)
    found None = lit< tt
    found (Some s) = read (read_message n s.kind s.body)

    looked : (r : Result (Option Stored) Fault) → EarlyIf (elim r as (λ _. Result (Message ℕ) Refusal) [ Ok o ↦ found_as n o | Err fault ↦ Err (refusal_of fault) ])
    looked (Ok o) = found o
    looked (Err fault) = early_fault fault

module _ (setup : Setup ℕ) (state : State) where
  early_decision : (call : Call) → EarlyIf (decision setup state call)
  early_decision (Bootstrap n power) =
      early_checked (shut_test state ∷ node_test state n ∷ bootstrap_tests setup (node_at state n)) (lit< tt, (lit< tt, (lit< tt, tt))) _ tt
  early_decision (StartJoin n d t power) =
      early_checked (shut_test state ∷ node_test state n ∷ node_test state d ∷ log_test state ∷ start_join_tests setup (node_at state n) t)
      (lit< tt, (lit< tt, (lit< tt, (lit< tt, (lit< tt, tt))))) _ tt
  early_decision (Publish n t v value configuration) =
      early_checked (publish_input_tests state n configuration) (lit< tt, (lit< tt, (lit< tt, (lit< tt, tt)))) _
      (early_checked (publish_tests setup (node_at state n) t v configuration) (lit< tt, (lit< tt, (lit< tt, (lit< tt, (lit< tt, (lit< tt, tt)))))) _ tt)
  early_decision (Deliver e n power) =
      early_checked (shut_test state ∷ node_test state n ∷ []) (lit< tt, (lit< tt, tt)) _
      (early_entry setup (node_at state n) n _ (early_read (count state) state.log e))
  early_decision (Restart n) = early_checked (shut_test state ∷ node_test state n ∷ []) (lit< tt, (lit< tt, tt)) _ tt

module _ (state : State) where
  not_early : (why : Refusal) → refusal_number why < 38 → {C : Type 0} → ◌≡◌ {A = Answer} (Err why) (Err WriteUnfinished) → C
  not_early why l h =
      let e : why ≡ WriteUnfinished = cc in
      let z : refusal_number why ≡ 38 = ap refusal_number e in
      absurd (omega arith)

  -- what a call leaves
  module _ (n : ℕ) (power : Power) (keeps_new : Bool) where
    abbrev Left : Outcome → Type 0
    Left o =
        ((why : Refusal) → o.answer ≡ Err why → (why ≡ WriteUnfinished → ⊥) → o.state ≡ state)
        × (o.answer ≡ Err WriteUnfinished → CutShort state n o.state)

    left_refused : (why : Refusal) → refusal_number why < 38 → Left (record { answer = Err why; state = state })
    left_refused why l = (λ other h ne. refl, λ h. not_early why l h)

    left_taken : (entry : Option ℕ) (s : State) → Left (record { answer = Ok entry; state = s })
    left_taken entry s = (λ why h ne. impossible cc, λ h. impossible cc)

    -- what the store keeps of a change
    kept_by : (change : Change ℕ) → let stores = stores_after state.stores n (Some change) power keeps_new in
        ((store_at stores n).content ≡ (store_at state.stores n).content) ⊎ ((store_at stores n).content ≡ changed change (store_at state.stores n).content)
    kept_by change = ⊎_elim inside outside (cases_lt n (length state.stores))
      where
        which : (b : Bool) → let r = cond b (changed change (store_at state.stores n).content) (store_at state.stores n).content in
            (r ≡ (store_at state.stores n).content) ⊎ (r ≡ changed change (store_at state.stores n).content)
        which true = inr refl
        which false = inl refl

        inside : n < length state.stores → let stores = stores_after state.stores n (Some change) power keeps_new in
            ((store_at stores n).content ≡ (store_at state.stores n).content) ⊎ ((store_at stores n).content ≡ changed change (store_at state.stores n).content)
        inside l =
            let here = ap (λ (s : Meaning). s.content) (get_or-set_same state.stores n (after_write (store_at state.stores n) change power keeps_new) absent l) in
            let store = store_at state.stores n in
            ⊎_elim (λ e. inl (here ∙ e)) (λ e. inr (here ∙ e)) (which (finishes store power || (store.sound && keeps_new)))

        outside : length state.stores ≤ n → let stores = stores_after state.stores n (Some change) power keeps_new in
            ((store_at stores n).content ≡ (store_at state.stores n).content) ⊎ ((store_at stores n).content ≡ changed change (store_at state.stores n).content)
        outside l = inl (ap (λ (ss : List Meaning). (store_at ss n).content) (set_past state.stores n _ l))

    rest_kept : (change : Change ℕ) → let stores = stores_after state.stores n (Some change) power keeps_new in
        stores ≡ set state.stores n (store_at stores n)
    rest_kept change = ⊎_elim inside outside (cases_lt n (length state.stores))
      where
        inside : n < length state.stores → let stores = stores_after state.stores n (Some change) power keeps_new in stores ≡ set state.stores n (store_at stores n)
        inside l = ap (set state.stores n) (sym (get_or-set_same state.stores n (after_write (store_at state.stores n) change power keeps_new) absent l))

        outside : length state.stores ≤ n → let stores = stores_after state.stores n (Some change) power keeps_new in stores ≡ set state.stores n (store_at stores n)
        outside l = set_past state.stores n _ l ∙ sym (set_past state.stores n _ l)

    left_cut : (change : Change ℕ) → Left (cut state n (stores_after state.stores n (Some change) power keeps_new))
    left_cut change = (
      λ why h ne. let e : WriteUnfinished ≡ why = cc in absurd (ne (sym e)),
      λ h. record { change = change; kept = kept_by change; restart = refl; others = rest_kept change; log = refl; shut = refl },
    )

    left_written : (effect : Effect ℕ) (entry : Option ℕ) → Left (written state n power keeps_new effect entry)
    left_written effect entry = go effect.change (finished (store_at state.stores n) effect.change power) refl
      where
        go : (c : Option (Change ℕ)) (b : Bool) → finished (store_at state.stores n) c power ≡ b
            → Left (cond (finished (store_at state.stores n) c power)
            (taken state n (stores_after state.stores n c power keeps_new) effect entry) (cut state n (stores_after state.stores n c power keeps_new)))
        go None b f = left_taken entry _
        go (Some change) true f =
            subst Left (sym (cond-true (finishes (store_at state.stores n) power) _ _ f)) (left_taken entry _)
        go (Some change) false f =
            subst Left (sym (cond-false (finishes (store_at state.stores n) power) _ _ f)) (left_cut change)

    left_placed : (effect : Effect ℕ) (place : Result (Option ℕ) Fault) → Left (if_placed state n power keeps_new effect place)
    left_placed effect (Err fault) = left_refused (refusal_of fault) (early_fault fault)
    left_placed effect (Ok entry) = left_written effect entry

    left_carried : (r : Result (Effect ℕ) Refusal) → EarlyIf r → Left (carried_out state n power keeps_new r)
    left_carried (Err why) early = left_refused why early
    left_carried (Ok effect) early = left_placed effect (place_for state.log effect.message)

pub one_step_or_one_refusal : (setup : Setup ℕ) (before : State) (call : Call) (answer : Answer) (after : State)
    → Step setup before call answer after → OneStepOrOneRefusal before call answer after
one_step_or_one_refusal setup before call answer after s =
    let left = left_carried before (node_called call) (power_of call) s.keeps_new (decision setup before call) (early_decision setup before call) in
    let there = subst (Left before (node_called call) (power_of call) s.keeps_new) s.same left in
    record { refused = there.0; cut = there.1 }
