-- A call over bytes is that call on the nodes and messages that the state denotes.
use Rattle.std.proofs.Common.{◌≡◌, ℕ, zero, suc, ◌<◌, ◌≤◌, Bool, true, false, cond, not, ◌&&◌, ◌||◌, nat_lt, nat_le, List, [], ◌∷◌, ◌++◌, map, length, get_or, set, is_some, Some, None, Ok, Err, Option, Result, sym, refl, ap, ◌∙◌, ap₂, ⊎_elim, arith}
use Rattle.std.specs.List.{slice_get}
use Rattle.std.specs.Option.{option_map}
use Rattle.std.proofs.lemmas.List.FromFn.{length-map-range_with_len, get_or-map-range_with_len}
use Rattle.std.proofs.lemmas.List.{length-map, length-set, map-append, get_or-set_same}
use Rattle.std.proofs.lemmas.Option.{slice_get-get_or, slice_get_past}
use Rattle.std.proofs.lemmas.Bool.{cond-true, cond-false, ltb-true, lt-ltb, le-ltb, lt-leb, le-leb, cases_lt}
use Rattle.quorum.specs.Sets.{legal_configuration}
use Rattle.protocol.specs.declared.change.Change.{Change}
use Rattle.protocol.specs.declared.effect.Effect.{Effect}
use Rattle.protocol.specs.declared.message.Message.{Message}
use Rattle.protocol.specs.declared.node_state.NodeState.{NodeState}
use Rattle.protocol.specs.declared.record.Record.{Record}
use Rattle.protocol.specs.declared.refusal.Refusal.{Refusal}
use Rattle.protocol.specs.declared.refusal.Refusal.TheVariants.{UnknownNode, IllegalConfiguration, WriteUnfinished}
use Rattle.protocol.specs.declared.volatile.Volatile.{Volatile}
use Rattle.protocol.specs.Changes.{changed}
use Rattle.protocol.specs.Decisions.{
  Setup,
  checked,
  decided,
  restarted,
  bootstrap_tests,
  bootstrap_effect,
  start_join_tests,
  start_join_effect,
  publish_tests,
  publish_effect,
  restart_effect,
}
use Rattle.protocol.specs.Positions.{position}
use Rattle.protocol.specs.Calls as messages
use Rattle.protocol.specs.Calls.{World, Fate, Entry, Sent, is_message}
use Rattle.message_log.specs.declared.fault.Fault.{Fault}
use Rattle.message_log.specs.declared.fault.Fault.TheVariants.{LogFull}
use Rattle.message_log.specs.Faults.{refusal_of}
use Rattle.message_log.specs.Layout.{well_formed, capacity_of, count_of}
use Rattle.message_log.specs.Log as log
use Rattle.message_log.specs.Log.{Stored, stored_at, entries, same_stored, stored_as, added, appended, add_unless, read_as, found_as, message_at}
use Rattle.message_log.specs.Added.{Holds}
use Rattle.message_log.proofs.Adding.{holds_added}
use Rattle.node.specs.Deliveries.{on_entry}
use Rattle.store.specs.declared.power.Power.{Power}
use Rattle.store.specs.Stores.{Meaning, finishes, after_write}
use Rattle.store.specs.Banks.{store_at}
use Rattle.cluster.specs.declared.call.Call.{Call}
use Rattle.cluster.specs.declared.call.Call.TheVariants.{Bootstrap, StartJoin, Publish, Deliver, Restart}
use Rattle.cluster.specs.States.{State, most_nodes, node_at}
use Rattle.cluster.specs.Calls.{Outcome, count, node_called, power_of, shut_test, node_test, decision, place_for, log_with, finished, stores_after, taken, cut, if_placed, carried_out, called, message_in}
use Rattle.cluster.specs.Worlds.{nodes_of, entries_read, world_of, call_of, fate_of}
use Rattle.cluster.specs.Models.{IfLent}
use Rattle.cluster.proofs.NodesDenoted.{length_nodes, nth_node, set_node, set_volatile}

-- an outcome over bytes, as one on messages
abbrev pub outcome_of : Outcome → messages.Outcome ℕ
outcome_of o = record { answer = o.answer; world = world_of o.state }

-- the same node is called
pub same_node : (setup : Setup ℕ) (state : State) (call : Call) → messages.node_called setup (world_of state) (call_of call) ≡ node_called call
same_node setup state (Bootstrap n power) = refl
same_node setup state (StartJoin n d t power) = refl
same_node setup state (Publish n t v value configuration) = refl
same_node setup state (Deliver e n power) = refl
same_node setup state (Restart n) = refl

-- what holds of the log, asked where a call is lent it; and what follows from that
pub lent : {asked : Type 0} (call : Call) → asked → IfLent call asked
lent (Bootstrap n power) h = tt
lent (StartJoin n d t power) h = h
lent (Publish n t v value configuration) h = h
lent (Deliver e n power) h = h
lent (Restart n) h = tt

pub lent_as : {asked given : Type 0} (call : Call) → (asked → given) → IfLent call asked → IfLent call given
lent_as (Bootstrap n power) f h = tt
lent_as (StartJoin n d t power) f h = f h
lent_as (Publish n t v value configuration) f h = f h
lent_as (Deliver e n power) f h = f h
lent_as (Restart n) f h = tt

-- Bytes and messages agree on a message: it is found in the bytes where it is found among the messages, and read back.
pub record Agreed (setup : Setup ℕ) (n : ℕ) (bytes : List ℕ) (m : Message ℕ) : Type 0 where
  pub formed : well_formed bytes ≡ true
  pub found : position (same_stored (stored_as m)) (entries bytes) ≡ position (is_message setup m) (entries_read n bytes)
  pub back : read_as n (stored_as m) ≡ Ok m

module _ (setup : Setup ℕ) (state : State) where
  abbrev N : ℕ
  N = length state.stores

  abbrev W : World ℕ
  W = world_of state

  -- how many entries there are
  many : length W.entries ≡ count_of state.log
  many = length-map (entries state.log) (read_as N) ∙ length-map-range_with_len (stored_at state.log) 0 (count_of state.log)

  -- an entry, looked up in the bytes and among the messages
  entry_at : (e : ℕ) → slice_get W.entries e ≡ option_map (read_as N) (cond (nat_lt e (count_of state.log)) (Some (stored_at state.log e)) None)
  entry_at e = ⊎_elim inside outside (cases_lt e (count_of state.log))
    where
      at : (l : List Stored) (e : ℕ) (d : Stored) → get_or (map (read_as N) l) e (read_as N d) ≡ read_as N (get_or l e d)
      at [] e d = refl
      at (x ∷ l) zero d = refl
      at (x ∷ l) (suc e) d = at l e d

      inside : e < count_of state.log → slice_get W.entries e ≡ option_map (read_as N) (cond (nat_lt e (count_of state.log)) (Some (stored_at state.log e)) None)
      inside l =
          let d = stored_at state.log e in
          slice_get-get_or W.entries e (read_as N d) (omega (arith, many))
          ∙ ap Some (at (entries state.log) e d ∙ ap (read_as N) (get_or-map-range_with_len (stored_at state.log) 0 (count_of state.log) e e d l (omega arith)))
          ∙ sym (ap (option_map (read_as N)) (cond-true (nat_lt e (count_of state.log)) (Some d) None (lt-ltb _ _ l)))

      outside : count_of state.log ≤ e → slice_get W.entries e ≡ option_map (read_as N) (cond (nat_lt e (count_of state.log)) (Some (stored_at state.log e)) None)
      outside l =
          slice_get_past W.entries e (omega (arith, many))
          ∙ sym (ap (option_map (read_as N)) (cond-false (nat_lt e (count_of state.log)) (Some (stored_at state.log e)) None (le-ltb _ _ l)))

  entry_decided : (n e : ℕ) → well_formed state.log ≡ true
      → on_entry setup (node_at state n) n (message_at N state.log e) ≡ messages.decided_on setup W n (node_at state n) (slice_get W.entries e)
  entry_decided n e formed =
      ap (on_entry setup (node_at state n) n)
      (ap (λ (r : Result (Option Stored) Fault). elim r as (λ _. Result (Message ℕ) Refusal) [ Ok o ↦ found_as N o | Err fault ↦ Err (refusal_of fault) ])
      (cond-true (well_formed state.log) _ _ formed))
      ∙ go (cond (nat_lt e (count_of state.log)) (Some (stored_at state.log e)) None)
      ∙ sym (ap (messages.decided_on setup W n (node_at state n)) (entry_at e))
    where
      read : (r : Result (Message ℕ) Refusal) → on_entry setup (node_at state n) n r ≡ messages.decided_on setup W n (node_at state n) (Some r)
      read (Ok m) = refl
      read (Err why) = refl

      go : (o : Option Stored) → on_entry setup (node_at state n) n (found_as N o) ≡ messages.decided_on setup W n (node_at state n) (option_map (read_as N) o)
      go None = refl
      go (Some s) = read (read_as N s)

  module _ (is_open : state.shut ≡ None) (few : length state.stores ≤ most_nodes) where
    counted : count state ≡ N
    counted = omega arith

    -- the tests that come first pass
    not_shut : is_some state.shut ≡ false
    not_shut = ap is_some is_open

    past : {X : Type 0} (n : ℕ) → n < N → (next : Result X Refusal) → checked (shut_test state ∷ node_test state n ∷ []) next ≡ next
    past n known next = cond-false (is_some state.shut) _ _ not_shut ∙ cond-false (nat_le (count state) n) _ _ (lt-leb (count state) n (omega (arith, counted)))

    pub decisions_agree : (call : Call) → node_called call < N → IfLent call (well_formed state.log ≡ true)
        → decision setup state call ≡ messages.decision setup W (call_of call) (node_at state (node_called call))
    decisions_agree (Bootstrap n power) known log =
        past n known (decided (bootstrap_tests setup (node_at state n)) (bootstrap_effect setup (node_at state n)))
    decisions_agree (StartJoin n d t power) known log =
        past n known _
        ∙ ap (λ (r : Result (Effect ℕ) Refusal). cond (nat_le (count state) d) (Err UnknownNode) r)
        (cond-false (not (well_formed state.log)) _ (decided (start_join_tests setup (node_at state n) t) (start_join_effect setup (node_at state n) n d t)) (ap not log))
        ∙ ap
        (λ (k : ℕ). cond (nat_le k d) (Err UnknownNode) (decided (start_join_tests setup (node_at state n) t) (start_join_effect setup (node_at state n) n d t)))
        (counted ∙ sym (length_nodes state.stores state.volatile))
    decisions_agree (Publish n t v value configuration) known log =
        past n known _
        ∙ cond-false (not (well_formed state.log)) _ _ (ap not log)
        ∙ ap
        (λ (k : ℕ). cond (not (legal_configuration k configuration)) (Err IllegalConfiguration)
        (decided (publish_tests setup (node_at state n) t v configuration) (publish_effect setup (node_at state n) n t v value configuration)))
        (counted ∙ sym (length_nodes state.stores state.volatile))
    decisions_agree (Deliver e n power) known log = past n known _ ∙ ap (λ (k : ℕ). on_entry setup (node_at state n) n (message_at k state.log e)) counted ∙ entry_decided n e log
    decisions_agree (Restart n) known log = past n known (Ok (restart_effect setup (node_at state n)))

    no_such : {X : Type 0} (n : ℕ) → N ≤ n → (next : Result X Refusal) → checked (shut_test state ∷ node_test state n ∷ []) next ≡ Err UnknownNode
    no_such n h next =
        cond-false (is_some state.shut) _ _ not_shut ∙ cond-true (nat_le (count state) n) _ _ (le-leb (count state) n (omega (arith, counted)))

    pub unknown : (call : Call) → N ≤ node_called call → decision setup state call ≡ Err UnknownNode
    unknown (Bootstrap n power) h = no_such n h _
    unknown (StartJoin n d t power) h = no_such n h _
    unknown (Publish n t v value configuration) h = no_such n h _
    unknown (Deliver e n power) h = no_such n h _
    unknown (Restart n) h = no_such n h _

  -- Carrying out an effect of node n.
  module _ (n : ℕ) (known : n < N) (placed : n < length state.volatile) (power : Power) (keeps_new : Bool) where
    abbrev store : Meaning
    store = store_at state.stores n

    abbrev node : NodeState ℕ
    node = node_at state n

    abbrev fate : Fate
    fate = record { finished = finishes store power; keeps_new = store.sound && keeps_new }

    -- the write that is due, if any
    abbrev writing : Effect ℕ → Option (Change ℕ) → (entry : Option ℕ) → Outcome
    writing effect c entry =
        let stores = stores_after state.stores n c power keeps_new in
        cond (finished store c power) (taken state n stores effect entry) (cut state n stores)

    written_agrees : (effect : Effect ℕ) (c : Option (Change ℕ)) (entry : Option ℕ) (es : List (Entry ℕ))
        → capacity_of (log_with state.log effect.message) ≡ capacity_of state.log
        → entries_read N (log_with state.log effect.message) ≡ es
        → messages.written setup W n node fate c effect (record { entry = entry; entries = es }) ≡ outcome_of (writing effect c entry)
    written_agrees effect None entry es room read =
        λ i. record {
          answer = Ok entry;
          world = record {
            nodes = set_volatile state.stores state.volatile n effect.volatile placed i;
            capacity = sym room i;
            entries = sym read i;
          };
        }
    written_agrees effect (Some change) entry es room read = go (finishes store power) refl
      where
        same_length : length (stores_after state.stores n (Some change) power keeps_new) ≡ N
        same_length = length-set state.stores n _

        -- what the store holds afterwards
        holds : store_at (stores_after state.stores n (Some change) power keeps_new) n ≡ after_write store change power keeps_new
        holds = get_or-set_same state.stores n _ _ known

        nodes_with : (kept : Record ℕ) (w w' : Volatile) → kept ≡ (after_write store change power keeps_new).content → w ≡ w'
            → set W.nodes n (record { kept = kept; volatile = w }) ≡ nodes_of (stores_after state.stores n (Some change) power keeps_new) (set state.volatile n w')
        nodes_with kept w w' e f =
            ap₂ (λ (r : Record ℕ) (x : Volatile). set W.nodes n (record { kept = r; volatile = x })) e f
            ∙ set_node state.stores state.volatile n (after_write store change power keeps_new) w' placed

        go : (b : Bool) → finishes store power ≡ b
            → messages.written setup W n node fate (Some change) effect (record { entry = entry; entries = es })
            ≡ outcome_of (writing effect (Some change) entry)
        go true f =
            let new : changed change store.content ≡ (after_write store change power keeps_new).content =
            sym (ap (λ (b : Bool). cond (b || (store.sound && keeps_new)) (changed change store.content) store.content) f)
            in
            let nodes = nodes_with (changed change store.content) effect.volatile effect.volatile new refl in
            let read' : es ≡ entries_read (length (stores_after state.stores n (Some change) power keeps_new)) (log_with state.log effect.message) =
            sym read ∙ ap (λ (k : ℕ). entries_read k (log_with state.log effect.message)) (sym same_length)
            in
            cond-true (finishes store power) _ _ f
            ∙ (λ i. record { answer = Ok entry; world = record { nodes = nodes i; capacity = sym room i; entries = read' i } })
            ∙ sym (ap outcome_of (cond-true (finishes store power) (taken state n (stores_after state.stores n (Some change) power keeps_new) effect entry) (cut state n (stores_after state.stores n (Some change) power keeps_new)) f))
        go false f =
            let kept = cond (store.sound && keeps_new) (changed change store.content) store.content in
            let same : kept ≡ (after_write store change power keeps_new).content =
            sym (ap (λ (b : Bool). cond (b || (store.sound && keeps_new)) (changed change store.content) store.content) f)
            in
            let nodes =
            nodes_with kept (restarted kept) (restarted (store_at (stores_after state.stores n (Some change) power keeps_new) n).content) same
            (ap restarted (same ∙ sym (ap (λ (s : Meaning). s.content) holds)))
            in
            let read' : W.entries ≡ entries_read (length (stores_after state.stores n (Some change) power keeps_new)) state.log =
            ap (λ (k : ℕ). entries_read k state.log) (sym same_length)
            in
            cond-false (finishes store power) _ _ f
            ∙ (λ i. record { answer = Err WriteUnfinished; world = record { nodes = nodes i; capacity = W.capacity; entries = read' i } })
            ∙ sym (ap outcome_of (cond-false (finishes store power) (taken state n (stores_after state.stores n (Some change) power keeps_new) effect entry) (cut state n (stores_after state.stores n (Some change) power keeps_new)) f))

    -- a message is sent
    sending_agrees : (effect : Effect ℕ) (m : Message ℕ) → effect.message ≡ Some m → Agreed setup N state.log m
        → messages.with_room setup W n node fate effect (messages.sent setup W (Some m))
        ≡ outcome_of (if_placed state n power keeps_new effect (place_for state.log (Some m)))
    unfolding appended
    sending_agrees effect m is agreed = go (position (same_stored (stored_as m)) (entries state.log)) refl (nat_lt (count_of state.log) (capacity_of state.log)) refl
      where
        added_as : (o : Option ℕ) → position (same_stored (stored_as m)) (entries state.log) ≡ o → appended state.log m ≡ add_unless o state.log (stored_as m)
        added_as o p = cond-true (well_formed state.log) _ _ agreed.formed ∙ ap (λ (o : Option ℕ). add_unless o state.log (stored_as m)) p

        place : (o : log.Outcome ℕ) → appended state.log m ≡ o
            → place_for state.log (Some m)
            ≡ elim o.answer as (λ _. Result (Option ℕ) Fault) [ Ok e ↦ Ok (Some e) | Err fault ↦ Err fault ]
        place o e = ap (λ (q : log.Outcome ℕ). elim q.answer as (λ _. Result (Option ℕ) Fault) [ Ok e ↦ Ok (Some e) | Err fault ↦ Err fault ]) e

        left : (o : log.Outcome ℕ) → appended state.log m ≡ o → log_with state.log effect.message ≡ o.bytes
        left o e = ap (log_with state.log) is ∙ ap (λ (q : log.Outcome ℕ). q.bytes) e

        sent_at : (o : Option ℕ) → position (same_stored (stored_as m)) (entries state.log) ≡ o → messages.sent setup W (Some m) ≡ messages.sent_unless setup W o m
        sent_at o p = ap (λ (o : Option ℕ). messages.sent_unless setup W o m) (sym agreed.found ∙ p)

        go : (o : Option ℕ) → position (same_stored (stored_as m)) (entries state.log) ≡ o → (b : Bool) → nat_lt (count_of state.log) (capacity_of state.log) ≡ b
            → messages.with_room setup W n node fate effect (messages.sent setup W (Some m))
            ≡ outcome_of (if_placed state n power keeps_new effect (place_for state.log (Some m)))
        go (Some e) p b q =
            let a = added_as (Some e) p in
            let l = left (record { answer = Ok e; bytes = state.log }) a in
            ap (messages.with_room setup W n node fate effect) (sent_at (Some e) p)
            ∙ written_agrees effect effect.change (Some e) W.entries (ap capacity_of l) (ap (entries_read N) l)
            ∙ sym (ap (λ r. outcome_of (if_placed state n power keeps_new effect r)) (place (record { answer = Ok e; bytes = state.log }) a))
        go None p true q =
            let a = added_as None p ∙ cond-true (nat_lt (count_of state.log) (capacity_of state.log)) _ _ q in
            let o : log.Outcome ℕ = record { answer = Ok (count_of state.log); bytes = added state.log (stored_as m) } in
            let l = left o a in
            let room : count_of state.log < capacity_of state.log = ltb-true _ _ q in
            let h : Holds state.log (added state.log (stored_as m)) (stored_as m) (count_of state.log) = holds_added state.log (stored_as m) agreed.formed room refl p in
            let list : entries (added state.log (stored_as m)) ≡ entries state.log ++ (stored_as m) ∷ [] =
            h.list ∙ cond-false (is_some (position (same_stored (stored_as m)) (entries state.log))) _ _ (ap is_some p)
            in
            let read : entries_read N (added state.log (stored_as m)) ≡ W.entries ++ Ok m ∷ [] =
            ap (map (read_as N)) list ∙ map-append (read_as N) (entries state.log) ((stored_as m) ∷ [])
            ∙ ap (λ (e : Entry ℕ). W.entries ++ e ∷ []) agreed.back
            in
            ap (messages.with_room setup W n node fate effect)
            (sent_at None p
            ∙ ap (λ (k : ℕ). cond (nat_lt k (capacity_of state.log)) (Some (record { entry = Some k; entries = W.entries ++ Ok m ∷ [] })) None) many
            ∙ cond-true (nat_lt (count_of state.log) (capacity_of state.log)) _ _ q)
            ∙ written_agrees effect effect.change (Some (count_of state.log)) (W.entries ++ Ok m ∷ []) (ap capacity_of l ∙ h.room) (ap (entries_read N) l ∙ read)
            ∙ sym (ap (λ r. outcome_of (if_placed state n power keeps_new effect r)) (place o a))
        go None p false q =
            let a = added_as None p ∙ cond-false (nat_lt (count_of state.log) (capacity_of state.log)) _ _ q in
            let o : log.Outcome ℕ = record { answer = Err LogFull; bytes = state.log } in
            ap (messages.with_room setup W n node fate effect)
            (sent_at None p
            ∙ ap (λ (k : ℕ). cond (nat_lt k (capacity_of state.log)) (Some (record { entry = Some k; entries = W.entries ++ Ok m ∷ [] })) None) many
            ∙ cond-false (nat_lt (count_of state.log) (capacity_of state.log)) _ _ q)
            ∙ sym (ap (λ r. outcome_of (if_placed state n power keeps_new effect r)) (place o a))

    effect_agrees : (effect : Effect ℕ) (mo : Option (Message ℕ)) → effect.message ≡ mo → ((m : Message ℕ) → mo ≡ Some m → Agreed setup N state.log m)
        → messages.with_room setup W n node fate effect (messages.sent setup W mo)
        ≡ outcome_of (if_placed state n power keeps_new effect (place_for state.log mo))
    effect_agrees effect None is agreed =
        let l = ap (log_with state.log) is in
        written_agrees effect effect.change None W.entries (ap capacity_of l) (ap (entries_read N) l)
    effect_agrees effect (Some m) is agreed = sending_agrees effect m is (agreed m refl)

    carried_agrees : (r : Result (Effect ℕ) Refusal) → ((m : Message ℕ) → message_in r ≡ Some m → Agreed setup N state.log m)
        → messages.carried_out setup W n node fate r ≡ outcome_of (carried_out state n power keeps_new r)
    carried_agrees (Err why) agreed = refl
    carried_agrees (Ok effect) agreed = effect_agrees effect effect.message refl agreed

  -- The call over bytes is the call on messages.
  pub calls_agree : state.shut ≡ None → length state.stores ≤ most_nodes → length state.stores ≤ length state.volatile → (call : Call) → IfLent call (well_formed state.log ≡ true)
      → ((m : Message ℕ) → message_in (decision setup state call) ≡ Some m → Agreed setup N state.log m)
      → (keeps_new : Bool)
      → messages.called setup W (call_of call) (fate_of state call keeps_new) ≡ outcome_of (called setup state call keeps_new)
  calls_agree is_open few places call log agreed keeps_new = ⊎_elim inside outside (cases_lt (node_called call) N)
    where
      inside : (node_called call) < N → messages.called setup W (call_of call) (fate_of state call keeps_new) ≡ outcome_of (called setup state call keeps_new)
      inside known =
          ap (λ (k : ℕ). messages.if_known setup W k (fate_of state call keeps_new) (messages.decision setup W (call_of call)) (slice_get W.nodes k)) (same_node setup state call)
          ∙ ap (messages.if_known setup W (node_called call) (fate_of state call keeps_new) (messages.decision setup W (call_of call))) (nth_node state.stores state.volatile (node_called call) known)
          ∙ ap (messages.carried_out setup W (node_called call) (node_at state (node_called call)) (fate_of state call keeps_new)) (sym (decisions_agree is_open few call known log))
          ∙ carried_agrees (node_called call) known (omega arith) (power_of call) keeps_new (decision setup state call) agreed

      outside : N ≤ (node_called call) → messages.called setup W (call_of call) (fate_of state call keeps_new) ≡ outcome_of (called setup state call keeps_new)
      outside h =
          ap (λ (k : ℕ). messages.if_known setup W k (fate_of state call keeps_new) (messages.decision setup W (call_of call)) (slice_get W.nodes k)) (same_node setup state call)
          ∙ ap (messages.if_known setup W (node_called call) (fate_of state call keeps_new) (messages.decision setup W (call_of call)))
          (slice_get_past W.nodes (node_called call) (omega (arith, length_nodes state.stores state.volatile)))
          ∙ sym (ap (λ r. outcome_of (carried_out state (node_called call) (power_of call) keeps_new r)) (unknown is_open few call h))
