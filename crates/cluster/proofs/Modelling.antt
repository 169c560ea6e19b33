-- Steps over bytes are the model's, from sensible states; and states that calls reach are sensible.
use Rattle.std.proofs.Common.{◌≡◌, ℕ, suc, ◌<◌, ◌≤◌, Bool, true, false, cond, ◌==◌, nat_lt, nat_le, ◌⊎◌, List, [], ◌∷◌, map, length, get_or, Some, None, Ok, Err, Decides, Option, Result, sym, refl, ap, ◌∙◌, subst, ap₂, ⊎_elim, arith}
use Rattle.std.specs.List.{slice_get, range_with_len}
use Rattle.std.specs.Option.{option_map}
use Rattle.std.proofs.lemmas.Slice.Eq.{bytes_eq-Decides}
use Rattle.std.proofs.lemmas.Bool.{and_parts, and_from, eqb-true, cond-true, cond-false, leb-false, lt-ltb, ltb-true, not-false, cases_Bool, false≢true}
use Rattle.quorum.specs.Sets.{legal_configuration}
use Rattle.protocol.proofs.Log.{impossible}
use Rattle.protocol.specs.declared.effect.Effect.{Effect}
use Rattle.protocol.specs.declared.kind.Kind.{Kind}
use Rattle.protocol.specs.declared.message.Message.{Message}
use Rattle.protocol.specs.declared.message.Message.TheVariants as message
use Rattle.protocol.specs.declared.node_state.NodeState.{NodeState}
use Rattle.protocol.specs.declared.refusal.Refusal.{Refusal}
use Rattle.protocol.specs.Decisions.{
  Setup,
  Test,
  checked,
  decided,
  bootstrap_tests,
  bootstrap_effect,
  start_join_tests,
  start_join_effect,
  publish_tests,
  publish_effect,
  join_tests,
  join_effect,
  publication_tests,
  publication_effect,
  response_tests,
  decides,
  response_effect,
  commit_tests,
  commit_effect,
  restart_effect,
  deliver_decided,
}
use Rattle.protocol.specs.Positions.{position}
use Rattle.protocol.specs.Calls as messages
use Rattle.protocol.specs.Calls.{Entry, Fate, same_message, is_message}
use Rattle.protocol.specs.Kinds.{kind_of_number}
use Rattle.protocol.specs.Messages.{is_for, legal_message}
use Rattle.protocol.specs.Runs.{Lawful}
use Rattle.protocol.specs.Steps.{Taken, Stopped, StepIsTheModels, CutIsTheModels}
use Rattle.protocol.specs.Steps as steps
use Rattle.protocol.proofs.CallsAreSteps.{nth_getD}
use Rattle.protocol.proofs.Deciding.{Passed, taken}
use Rattle.protocol.proofs.MessagesAreLegal.{messages_are_legal}
use Rattle.protocol.proofs.Sending.{same_is_equal, same_itself}
use Rattle.protocol.proofs.Soundness.{Configured, reached_sound, won_legal}
use Rattle.protocol.proofs.Stepping.{steps_are_the_models}
use Rattle.message_log.specs.declared.fault.Fault.{Fault}
use Rattle.message_log.specs.declared.fault.Fault.TheVariants.{UnknownKind}
use Rattle.message_log.specs.Faults.{refusal_of}
use Rattle.message_log.specs.Layout.{well_formed, capacity_of, count_of, body_place, body_length}
use Rattle.message_log.specs.Log.{Stored, stored_at, same_stored, stored_as, read_as, found_as, message_at}
use Rattle.message_log.specs.Rules.{read_body, read_message, WritesBack}
use Rattle.message_log.proofs.Adding as adding
use Rattle.message_log.proofs.Encoded.{read_stored}
use Rattle.message_log.proofs.RoundTrip.{writes_back}
use Rattle.node.specs.Deliveries.{on_entry}
use Rattle.cluster.specs.declared.call.Call.{Call}
use Rattle.cluster.specs.declared.call.Call.TheVariants.{Bootstrap, StartJoin, Publish, Deliver, Restart}
use Rattle.cluster.specs.States.{State, most_nodes, node_at}
use Rattle.cluster.specs.Calls.{Answer, count, node_called, shut_test, node_test, log_test, decision, message_in, AllFit, Step}
use Rattle.cluster.specs.Worlds.{world_of, call_of, fate_of}
use Rattle.cluster.specs.Runs.{Reached}
use Rattle.cluster.specs.Models.{IsLog, Sensible, outcome, Modelled, StepsOverBytesAreTheModels}
use Rattle.cluster.proofs.NodesDenoted.{nth_node, length_nodes}
use Rattle.cluster.proofs.Frames.{fit_due}
use Rattle.cluster.proofs.CallsAgree.{Agreed, lent, lent_as, outcome_of, calls_agree}
use Rattle.cluster.proofs.Octets.{Octets, of_take, of_drop, of_encoding, of_each}
use Rattle.cluster.proofs.Reaching.{Going}
use Rattle.cluster.proofs.Unsplitting.{going_if_open}

same_message_due : {a b : Message ℕ} → Some a ≡ Some b → a ≡ b
same_message_due e = cc

-- an entry that reads as a message is what that message is stored as
read_back : (n : ℕ) (s : Stored) (m : Message ℕ) → Octets s.body → read_as n s ≡ Ok m → WritesBack n s.kind s.body m
read_back n s m o h = known (kind_of_number s.kind) refl (accepted (read_message n s.kind s.body) h)
  where
    accepted : (r : Result (Message ℕ) Fault)
        → elim r as (λ _. Result (Message ℕ) Refusal) [ Ok x ↦ Ok x | Err fault ↦ Err (refusal_of fault) ] ≡ Ok m → r ≡ Ok m
    accepted (Ok x) e = cc
    accepted (Err fault) e = impossible cc

    known : (k : Option Kind) → kind_of_number s.kind ≡ k
        → elim k as (λ _. Result (Message ℕ) Fault) [ None ↦ Err UnknownKind | Some k ↦ read_body n k s.body ] ≡ Ok m
        → WritesBack n s.kind s.body m
    known None e h = impossible cc
    known (Some k) e h = writes_back n s.kind k s.body m o.at e h

-- Among entries of any bytes a message is found where it is found among what they read as.
module _ (setup : Setup ℕ) (values : (x y : ℕ) → Decides (setup.same_value x y) (x ≡ y)) (n : ℕ) (m : Message ℕ)
    (back : read_as n (stored_as m) ≡ Ok m) where
  same_stored_is_equal : (x y : Stored) → same_stored x y ≡ true → x ≡ y
  same_stored_is_equal x y h =
      let p = and_parts (x.kind == y.kind) _ h in
      ap₂ (λ (k : ℕ) (b : List ℕ). record { kind = k; body = b }) (eqb-true _ _ p.0) ((bytes_eq-Decides x.body y.body).0 p.1)

  tests_agree : (s : Stored) → Octets s.body → same_stored (stored_as m) s ≡ is_message setup m (read_as n s)
  tests_agree s o = go (same_stored (stored_as m) s) refl (read_as n s) refl
    where
      go : (b : Bool) → same_stored (stored_as m) s ≡ b → (r : Entry ℕ) → read_as n s ≡ r
          → same_stored (stored_as m) s ≡ is_message setup m (read_as n s)
      go true p r q =
          p ∙ sym (ap (is_message setup m) (ap (read_as n) (sym (same_stored_is_equal (stored_as m) s p)) ∙ back) ∙ same_itself setup values m)
      go false p (Err why) q = p ∙ sym (ap (is_message setup m) q)
      go false p (Ok x) q =
          ⊎_elim
          (λ (t : same_message setup m x ≡ true).
          let w = read_back n s x o q in
          let e : stored_as m ≡ s =
          ap stored_as (same_is_equal setup values m x t)
          ∙ ap₂ (λ (k : ℕ) (b : List ℕ). record { kind = k; body = b }) w.same_kind w.same_body
          in
          absurd (false≢true (sym p ∙ ap (same_stored (stored_as m)) (sym e) ∙ adding.same_itself (stored_as m))))
          (λ (f : same_message setup m x ≡ false). p ∙ sym (ap (is_message setup m) q ∙ f))
          (cases_Bool (same_message setup m x))

  found_among : (bytes : List ℕ) → Octets bytes → (es : List ℕ)
      → position (same_stored (stored_as m)) (map (stored_at bytes) es) ≡ position (is_message setup m) (map (read_as n) (map (stored_at bytes) es))
  unfolding position
  found_among bytes o [] = refl
  found_among bytes o (e ∷ es) =
      ap₂ (λ (b : Bool) (p : Option ℕ). cond b (Some 0) (option_map suc p))
      (tests_agree (stored_at bytes e) (of_take body_length _ (of_drop (body_place (capacity_of bytes) e) bytes o)))
      (found_among bytes o es)

-- tests that come first
past_tests : {X : Type 0} (tests : List Test) (next : Result X Refusal) (x : X) → checked tests next ≡ Ok x → Passed tests × (next ≡ Ok x)
past_tests [] next x h = (tt, h)
past_tests {X} (test ∷ tests) next x h = go (past_tests tests next x) test.refuses refl
  where
    go : (checked tests next ≡ Ok x → Passed tests × (next ≡ Ok x)) → (b : Bool) → test.refuses ≡ b
        → ((test.refuses ≡ false) × Passed tests) × (next ≡ Ok x)
    go rest true p =
        let q : ◌≡◌ {A = Result X Refusal} (Err test.with) (Ok x) = sym (cond-true test.refuses _ _ p) ∙ h in
        impossible cc
    go rest false p =
        let r = rest (sym (cond-false test.refuses _ _ p) ∙ h) in
        ((p, r.0), r.1)

module _ (setup : Setup ℕ) (values : (x y : ℕ) → Decides (setup.same_value x y) (x ≡ y)) (state : State) where
  abbrev N : ℕ
  N = length state.stores

  -- a message that is due: there is a log for it, and it is legal
  record Due (m : Message ℕ) : Type 0 where
    log : IsLog state.log
    legal : legal_message N m ≡ true

  module _ (few : length state.stores ≤ most_nodes) where
    counted : count state ≡ N
    counted = omega arith

    is_node : (n : ℕ) → nat_le (count state) n ≡ false → nat_lt n N ≡ true
    is_node n h = lt-ltb n N (omega (arith, counted, leb-false (count state) n h))

    -- a decision that sends a message
    sends : (m : Message ℕ) (tests : List Test) (next : Result (Effect ℕ) Refusal) → message_in (checked tests next) ≡ Some m
        → (Passed tests → (effect : Effect ℕ) → next ≡ Ok effect → effect.message ≡ Some m → Due m) → Due m
    sends m tests next h due = go (checked tests next) refl h
      where
        go : (r : Result (Effect ℕ) Refusal) → checked tests next ≡ r → message_in r ≡ Some m → Due m
        go (Err why) e k = impossible cc
        go (Ok effect) e k =
            let p = past_tests tests next effect e in
            due p.0 effect p.1 k

    -- the same, where an effect is given
    sends_effect : (m : Message ℕ) (tests : List Test) (effect : Effect ℕ) → message_in (decided tests effect) ≡ Some m
        → (Passed tests → effect.message ≡ Some m → Due m) → Due m
    sends_effect m tests effect h due =
        sends m tests (Ok effect) h
        (λ p x e k.
        let same : effect ≡ x = cc in
        due p (ap (λ (y : Effect ℕ). y.message) same ∙ k))

    -- a message that was read is legal
    read_legal : IsLog state.log → (e : ℕ) (m : Message ℕ) → message_at (count state) state.log e ≡ Ok m → legal_message N m ≡ true
    read_legal log e m h =
        subst (λ (k : ℕ). legal_message k m ≡ true) counted
        (there (nat_lt e (count_of state.log))
        (sym (ap (λ (r : Result (Option Stored) Fault). elim r as (λ _. Result (Message ℕ) Refusal) [ Ok o ↦ found_as (count state) o | Err fault ↦ Err (refusal_of fault) ])
        (cond-true (well_formed state.log) _ _ log.formed))
        ∙ h))
      where
        there : (b : Bool) → found_as (count state) (cond b (Some (stored_at state.log e)) None) ≡ Ok m → legal_message (count state) m ≡ true
        there true k =
            (read_back (count state) (stored_at state.log e) m
            (of_take body_length _ (of_drop (body_place (capacity_of state.log) e) state.log (record { at = log.bytes }))) k).legal
        there false k = impossible cc

    -- what a delivery sends
    delivered : (n : ℕ) → nat_lt n N ≡ true → IsLog state.log → (node : NodeState ℕ) (x : Message ℕ) → legal_message N x ≡ true
        → (effect : Effect ℕ) → deliver_decided setup node n x ≡ Ok effect → (m : Message ℕ) → effect.message ≡ Some m → Due m
    delivered n known log node (message.Join j) l effect d m h =
        let same = (taken (join_tests setup node j) (join_effect setup node j) effect d).1 in
        let q : None ≡ Some m = ap (λ (y : Effect ℕ). y.message) same ∙ h in
        impossible cc
    delivered n known log node (message.Publication p) l effect d m h =
        let same = (taken (publication_tests setup node p) (publication_effect setup node n p) effect d).1 in
        record {
          log = log;
          legal = subst (λ (y : Message ℕ). legal_message N y ≡ true) (same_message_due (ap (λ (y : Effect ℕ). y.message) same ∙ h))
              (and_from (nat_lt n N) (nat_lt p.source N) known (and_parts (nat_lt p.source N) _ l).0);
        }
    delivered n known log node (message.Response r) l effect d m h =
        let same = (taken (response_tests setup node r) (response_effect setup node n r) effect d).1 in
        go (decides setup node _) (ap (λ (y : Effect ℕ). y.message) same ∙ h)
      where
        go : (b : Bool) → cond b (Some (message.Commit (record { source = n; term = r.term; version = r.version }))) None ≡ Some m → Due m
        go true q = record { log = log; legal = subst (λ (y : Message ℕ). legal_message N y ≡ true) (same_message_due q) known }
        go false q = impossible cc
    delivered n known log node (message.Commit c) l effect d m h =
        let same = (taken (commit_tests setup node c) (commit_effect setup node) effect d).1 in
        let q : None ≡ Some m = ap (λ (y : Effect ℕ). y.message) same ∙ h in
        impossible cc

    on_entry_sends : (n : ℕ) → nat_lt n N ≡ true → IsLog state.log → (node : NodeState ℕ) (r : Result (Message ℕ) Refusal)
        → ((x : Message ℕ) → r ≡ Ok x → legal_message N x ≡ true)
        → (effect : Effect ℕ) → on_entry setup node n r ≡ Ok effect → (m : Message ℕ) → effect.message ≡ Some m → Due m
    on_entry_sends n known log node (Err why) legal effect d m h = impossible cc
    on_entry_sends n known log node (Ok x) legal effect d m h =
        ⊎_elim
        (λ (t : is_for n x ≡ true). delivered n known log node x (legal x refl) effect (sym (cond-true (is_for n x) _ _ t) ∙ d) m h)
        (λ (f : is_for n x ≡ false).
        let q : ◌≡◌ {A = Result (Effect ℕ) Refusal} (Err _) (Ok effect) = sym (cond-false (is_for n x) _ _ f) ∙ d in
        impossible cc)
        (cases_Bool (is_for n x))

  due : (call : Call) → Sensible state call → (m : Message ℕ) → message_in (decision setup state call) ≡ Some m → Due m
  due (Bootstrap n power) s m h =
      let node = node_at state n in
      sends_effect s.few m (shut_test state ∷ node_test state n ∷ bootstrap_tests setup node) (bootstrap_effect setup node) h
      (λ p e. let q : None ≡ Some m = e in impossible cc)
  due (StartJoin n d t power) s m h =
      let node = node_at state n in
      sends_effect s.few m
      (shut_test state ∷ node_test state n ∷ node_test state d ∷ log_test state ∷ start_join_tests setup node t)
      (start_join_effect setup node n d t) h
      (λ p e. record {
        log = s.log;
        legal = subst (λ (y : Message ℕ). legal_message N y ≡ true) (same_message_due e)
            (and_from (nat_lt n N) (nat_lt d N) (is_node s.few n p.1.0) (is_node s.few d p.1.1.0));
      })
  due (Publish n t v value configuration) s m h =
      let node = node_at state n in
      sends_effect s.few m
      (shut_test state ∷ node_test state n ∷ log_test state ∷ _ ∷ publish_tests setup node t v configuration)
      (publish_effect setup node n t v value configuration) h
      (λ p e.
      let known = is_node s.few n p.1.0 in
      let chosen : legal_configuration N configuration ≡ true =
      subst (λ (k : ℕ). legal_configuration k configuration ≡ true) (counted s.few)
      (not-false (legal_configuration (count state) configuration) p.1.1.1.0)
      in
      let committed = s.leads (ltb-true n N known) (not-false node.volatile.election_won p.1.1.1.1.0) in
      record {
        log = s.log;
        legal = subst (λ (y : Message ℕ). legal_message N y ≡ true) (same_message_due e)
            (and_from (nat_lt n N) _ known (and_from (legal_configuration N configuration) _ chosen committed));
      })
  due (Deliver e n power) s m h =
      sends s.few m (shut_test state ∷ node_test state n ∷ [])
      (on_entry setup (node_at state n) n (message_at (count state) state.log e)) h
      (λ p effect d k.
      on_entry_sends s.few n (is_node s.few n p.1.0) s.log (node_at state n) (message_at (count state) state.log e)
      (read_legal s.few s.log e) effect d m k)
  due (Restart n) s m h =
      sends_effect s.few m (shut_test state ∷ node_test state n ∷ []) (restart_effect setup (node_at state n)) h
      (λ p e. let q : None ≡ Some m = e in impossible cc)

  agreed : (call : Call) → Sensible state call → AllFit (message_in (decision setup state call))
      → (m : Message ℕ) → message_in (decision setup state call) ≡ Some m → Agreed setup N state.log m
  agreed call s fits m h =
      let d = due call s m h in
      let back = read_stored N m (fit_due (message_in (decision setup state call)) fits m h) d.legal in
      record {
        formed = d.log.formed;
        found = found_among setup values N m back state.log (record { at = d.log.bytes }) (range_with_len 0 (count_of state.log));
        back = back;
      }

  agrees : (call : Call) (answer : Answer) (after : State) (step : Step setup state call answer after) → Sensible state call
      → messages.called setup (world_of state) (call_of call) (fate_of state call step.keeps_new) ≡ outcome answer after
  agrees call answer after step s =
      calls_agree setup state s.is_open s.few (omega (arith, s.few, s.places)) call (lent_as call (λ l. l.formed) s.log) (agreed call s step.fits) step.keeps_new
      ∙ ap outcome_of step.same

pub modelled : (setup : Setup ℕ) → ((x y : ℕ) → Decides (setup.same_value x y) (x ≡ y)) → (before after : State) (call : Call) (answer : Answer)
    → Step setup before call answer after → Modelled setup before call answer after
modelled setup values before after call answer step = record {
  step = step;
  agrees = agrees setup values before call answer after step;
  steps = (steps_are_the_models ℕ).steps setup values (world_of before) (call_of call) fate;
  cuts = (steps_are_the_models ℕ).cuts setup values (world_of before) (call_of call) fate;
  otherwise = λ s versions descendant.
      subst
      (λ (o : messages.Outcome ℕ). Taken setup o
      ⊎ (Stopped setup (world_of before) (call_of call) fate versions descendant ⊎ (o.world ≡ world_of before)))
      (agrees setup values before call answer after step s)
      ((steps_are_the_models ℕ).otherwise setup values (world_of before) (call_of call) fate versions descendant);
}
  where
    fate : Fate
    fate = fate_of before call step.keeps_new

-- States that calls reach.
module _ (setup : Setup ℕ) (lawful : Lawful setup) (state : State) (g : Going setup lawful state) where
  going_octets : Octets state.log
  going_octets =
      let w = g.log in
      subst Octets (sym w.encodes.encoded)
      (of_encoding (length state.stores) g.few (capacity_of state.log) w.messages
      (of_each (λ m. legal_message (length state.stores) m ≡ true) w.messages
      (λ e m h.
      subst (λ (k : ℕ). legal_message k m ≡ true) (length_nodes state.stores state.volatile)
      (messages_are_legal ℕ setup lawful.values (world_of state) g.reached e m (ap (λ (es : List (Entry ℕ)). slice_get es e) w.readable ∙ h)))))

  going_log : IsLog state.log
  going_log = record { formed = g.log.encodes.log; bytes = going_octets.at }

  going_leads : (n : ℕ) → n < length state.stores → (node_at state n).volatile.election_won ≡ true
      → legal_configuration (length state.stores) (node_at state n).kept.last_committed_configuration ≡ true
  going_leads n known won =
      let configured : Configured (length (world_of state).nodes) (get_or (world_of state).nodes n (steps.blank setup)) =
      (reached_sound setup lawful.values (world_of state) g.reached).nodes n
      in
      let is : node_at state n ≡ get_or (world_of state).nodes n (steps.blank setup) =
      nth_getD (world_of state).nodes n (node_at state n) (steps.blank setup) (nth_node state.stores state.volatile n known)
      in
      subst (λ (k : ℕ). legal_configuration k (node_at state n).kept.last_committed_configuration ≡ true)
      (length_nodes state.stores state.volatile)
      (won_legal (subst (Configured (length (world_of state).nodes)) (sym is) configured) won).1

  going_sensible : (call : Call) → Sensible state call
  going_sensible call = record {
    is_open = g.is_open;
    few = g.few;
    places = g.places;
    log = lent call going_log;
    leads = going_leads (node_called call);
  }

pub reached_sensible : (setup : Setup ℕ) → Lawful setup → (state : State) → Reached setup state → state.shut ≡ None → (call : Call) → Sensible state call
reached_sensible setup lawful state r e call = going_sensible setup lawful state (going_if_open setup lawful state r e) call

pub steps_over_bytes_are_the_models : StepsOverBytesAreTheModels
steps_over_bytes_are_the_models = record { modelled = modelled; sensible = reached_sensible }
