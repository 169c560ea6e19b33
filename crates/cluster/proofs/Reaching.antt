-- States that calls reach denote worlds that calls on messages reach, and their bytes are messages.
use Rattle.std.proofs.Common.{◌≡◌, ℕ, ◌<◌, ◌≤◌, Bool, true, false, nat_lt, ◌⊎◌, List, [], ◌∷◌, ◌++◌, map, length, Some, None, Ok, Err, Option, Result, sym, refl, ap, ◌∙◌, subst, inl, inr, ⊎_elim, arith}
use Rattle.std.specs.List.{slice_get, AllByRecursion}
use Rattle.std.proofs.ByRecursion.{All-push}
use Rattle.std.proofs.lemmas.List.{map_push, map-append}
use Rattle.std.proofs.lemmas.Bool.{cond-true, cond-false, ltb-true, cases_lt}
use Rattle.protocol.proofs.Log.{impossible}
use Rattle.protocol.specs.declared.effect.Effect.{Effect}
use Rattle.protocol.specs.declared.message.Message.{Message}
use Rattle.protocol.specs.declared.refusal.Refusal.{Refusal}
use Rattle.protocol.specs.Decisions.{Setup}
use Rattle.protocol.specs.Positions.{position}
use Rattle.protocol.specs.Calls as messages
use Rattle.protocol.specs.Calls.{Entry, entries_of, same_message, is_message}
use Rattle.protocol.specs.Messages.{legal_message}
use Rattle.protocol.specs.Runs as messages_run
use Rattle.protocol.specs.Runs.{Lawful}
use Rattle.protocol.proofs.Sending.{same_is_equal, same_itself}
use Rattle.protocol.proofs.Soundness.{Legal, reached_sound, sends_legal}
use Rattle.message_log.specs.Layout.{legal_capacity, well_formed, capacity_of, count_of}
use Rattle.message_log.specs.Log.{Stored, entries, same_stored, stored_as, added, appended, add_unless, read_as, cleared}
use Rattle.message_log.specs.Log as log
use Rattle.message_log.specs.Rules.{Fits}
use Rattle.message_log.specs.Encoded.{Encodes}
use Rattle.message_log.proofs.Encoded.{cleared_encodes, found_alike, one_more, read_stored}
use Rattle.cluster.specs.declared.call.Call.{Call}
use Rattle.cluster.specs.States.{State, most_nodes, node_at, opening, refusal_in, opened}
use Rattle.cluster.specs.Calls.{Answer, Outcome, node_called, decision, called, message_in, AllFit, Step}
use Rattle.cluster.specs.Worlds.{entries_read, world_of, call_of, fate_of}
use Rattle.cluster.specs.Runs.{Reached, at_opening, by_call}
use Rattle.cluster.proofs.NodesDenoted.{nth_node, length_nodes}
use Rattle.cluster.proofs.CallsAgree.{Agreed, same_node, lent, outcome_of, calls_agree, decisions_agree, unknown}
use Rattle.cluster.proofs.Frames.{fit_due, LogAfter, as_it_was, with_message, Framed, framed, refused_where_shut}
use Rattle.cluster.proofs.Openings.{open_if_not_refused, opened_on_messages}

-- bytes that are messages, each with numbers that fit, and that read as them
pub record Written (n : ℕ) (bytes : List ℕ) : Type 0 where
  pub messages : List (Message ℕ)
  pub encodes : Encodes (capacity_of bytes) messages bytes
  pub fit : AllByRecursion Fits messages
  pub readable : entries_read n bytes ≡ entries_of messages

pub written-cleared : (n capacity : ℕ) → legal_capacity capacity ≡ true → Written n (cleared capacity)
written-cleared n capacity h =
    let e = cleared_encodes capacity h in
    record {
      messages = [];
      encodes = subst (λ (c : ℕ). Encodes c [] (cleared capacity)) (sym e.room) e;
      fit = tt;
      readable = ap (map (read_as n)) e.stored;
    }

-- a message is added
written-append : (n : ℕ) (bytes : List ℕ) → Written n bytes → (m : Message ℕ) → Fits m → read_as n (stored_as m) ≡ Ok m
    → Written n (appended bytes m).bytes
unfolding appended
written-append n bytes w m fits back =
    subst (λ (o : log.Outcome ℕ). Written n o.bytes) (sym (cond-true (well_formed bytes) _ _ w.encodes.log))
    (go (position (same_stored (stored_as m)) (entries bytes)) refl (nat_lt (count_of bytes) (capacity_of bytes)) refl)
  where
    go : (o : Option ℕ) → position (same_stored (stored_as m)) (entries bytes) ≡ o → (b : Bool) → nat_lt (count_of bytes) (capacity_of bytes) ≡ b
        → Written n (add_unless (position (same_stored (stored_as m)) (entries bytes)) bytes (stored_as m)).bytes
    go (Some e) p b q = subst (λ (o : Option ℕ). Written n (add_unless o bytes (stored_as m)).bytes) (sym p) w
    go None p false q =
        subst (λ (o : Option ℕ). Written n (add_unless o bytes (stored_as m)).bytes) (sym p)
        (subst (λ (o : log.Outcome ℕ). Written n o.bytes) (sym (cond-false (nat_lt (count_of bytes) (capacity_of bytes)) _ _ q)) w)
    go None p true q =
        let e = one_more (capacity_of bytes) w.messages bytes w.encodes m p (ltb-true _ _ q) in
        subst (λ (o : Option ℕ). Written n (add_unless o bytes (stored_as m)).bytes) (sym p)
        (subst (λ (o : log.Outcome ℕ). Written n o.bytes) (sym (cond-true (nat_lt (count_of bytes) (capacity_of bytes)) _ _ q))
        (record {
          messages = w.messages ++ m ∷ [];
          encodes = subst (λ (c : ℕ). Encodes c (w.messages ++ m ∷ []) (added bytes (stored_as m))) (sym e.room) e;
          fit = All-push Fits w.messages m w.fit fits;
          readable = ap (map (read_as n)) e.stored
              ∙ ap (map (read_as n)) (map_push stored_as w.messages m)
              ∙ map-append (read_as n) (map stored_as w.messages) (stored_as m ∷ [])
              ∙ ap (λ (r : Entry ℕ). map (read_as n) (map stored_as w.messages) ++ r ∷ []) back
              ∙ ap (λ (l : List (Entry ℕ)). l ++ Ok m ∷ []) (sym (ap (map (read_as n)) w.encodes.stored) ∙ w.readable)
              ∙ sym (map_push Ok w.messages m);
        }))

module _ (setup : Setup ℕ) (lawful : Lawful setup) where
  -- an open cluster whose log is messages, and whose world is reached by calls on messages
  pub record Going (state : State) : Type 0 where
    pub is_open : state.shut ≡ None
    pub places : length state.volatile ≡ most_nodes
    pub few : length state.stores ≤ most_nodes
    pub log : Written (length state.stores) state.log
    pub reached : messages_run.Reached setup (world_of state)

  -- a cluster that is shut, with a cleared log
  pub record Shut (state : State) : Type 0 where
    pub why : Refusal
    pub is_shut : state.shut ≡ Some why
    pub log : Written (length state.stores) state.log
    pub empty : (log).messages ≡ []

  -- the message that is due is legal
  due_legal : (state : State) → Going state → (call : Call) (m : Message ℕ) → message_in (decision setup state call) ≡ Some m
      → legal_message (length state.stores) m ≡ true
  due_legal state g call m h = ⊎_elim inside outside (cases_lt (node_called call) (length state.stores))
    where
      told : (r : Result (Effect ℕ) Refusal) → message_in r ≡ Some m
          → ((effect : Effect ℕ) → r ≡ Ok effect → Legal setup (length (world_of state).nodes) effect.message)
          → legal_message (length (world_of state).nodes) m ≡ true
      told (Err why) e legal = impossible cc
      told (Ok effect) e legal = subst (Legal setup (length (world_of state).nodes)) e (legal effect refl)

      inside : node_called call < length state.stores → legal_message (length state.stores) m ≡ true
      inside known =
          let same = decisions_agree setup state g.is_open g.few call known (lent call g.log.encodes.log) in
          subst (λ (k : ℕ). legal_message k m ≡ true) (length_nodes state.stores state.volatile)
          (told (messages.decision setup (world_of state) (call_of call) (node_at state (node_called call)))
          (ap message_in (sym same) ∙ h)
          (λ effect e. sends_legal setup lawful.values (world_of state) (reached_sound setup lawful.values (world_of state) g.reached) (call_of call)
          (node_at state (node_called call))
          (ap (slice_get (world_of state).nodes) (same_node setup state call) ∙ nth_node state.stores state.volatile (node_called call) known) effect e))

      outside : length state.stores ≤ node_called call → legal_message (length state.stores) m ≡ true
      outside l =
          let q : None ≡ Some m = sym (ap message_in (unknown setup state g.is_open g.few call l)) ∙ h in
          impossible cc

  agreed : (state : State) → Going state → (call : Call) → AllFit (message_in (decision setup state call))
      → (m : Message ℕ) → message_in (decision setup state call) ≡ Some m → Agreed setup (length state.stores) state.log m
  agreed state g call fits m h =
      let w = g.log in
      let f = fit_due (message_in (decision setup state call)) fits m h in
      record {
        formed = w.encodes.log;
        found = ap (position (same_stored (stored_as m))) w.encodes.stored
            ∙ found_alike (same_message setup) (same_is_equal setup lawful.values) (same_itself setup lawful.values)
            (is_message setup m) Ok m (λ x. refl) f w.messages w.fit
            ∙ sym (ap (position (is_message setup m)) w.readable);
        back = read_stored (length state.stores) m f (due_legal state g call m h);
      }

  -- a step from there is the step on messages, and goes on
  pub step_agrees : (before after : State) (call : Call) (answer : Answer) → Going before → (s : Step setup before call answer after)
      → messages.called setup (world_of before) (call_of call) (fate_of before call s.keeps_new) ≡ record { answer = answer; world = world_of after }
  step_agrees before after call answer g s =
      calls_agree setup before g.is_open g.few (omega (arith, g.few, g.places)) call (lent call g.log.encodes.log) (agreed before g call s.fits) s.keeps_new
      ∙ ap outcome_of s.same

  goes_on : (before after : State) (call : Call) (answer : Answer) → Going before → Step setup before call answer after → Going after
  goes_on before after call answer g s =
      let same : (called setup before call s.keeps_new).state ≡ after = ap (λ (o : Outcome). o.state) s.same in
      let frame = subst (Framed before (message_in (decision setup before call))) same (framed setup before call s.keeps_new) in
      record {
        is_open = frame.shut ∙ g.is_open;
        places = frame.volatile ∙ g.places;
        few = omega (arith, frame.stores, g.few);
        log = subst (λ (k : ℕ). Written k after.log) (sym frame.stores) (log_after after.log frame.log);
        reached = subst (messages_run.Reached setup) (ap (λ (o : messages.Outcome ℕ). o.world) (step_agrees before after call answer g s))
            (messages_run.by_call g.reached (call_of call) (fate_of before call s.keeps_new));
      }
    where
      log_after : (l : List ℕ) → LogAfter before (message_in (decision setup before call)) l → Written (length before.stores) l
      log_after l (as_it_was e) = subst (Written (length before.stores)) (sym e) g.log
      log_after l (with_message m due e) =
          let a = agreed before g call s.fits m due in
          subst (Written (length before.stores)) (sym e)
          (written-append (length before.stores) before.log g.log m
          (fit_due (message_in (decision setup before call)) s.fits m due) a.back)

  stays_shut : (before after : State) (call : Call) (answer : Answer) → Shut before → Step setup before call answer after → Shut after
  stays_shut before after call answer h s =
      let same : before ≡ after =
      ap (λ (o : Outcome). o.state) (sym (refused_where_shut setup before h.why h.is_shut call s.keeps_new) ∙ s.same)
      in
      subst Shut same h

  pub going_or_shut : (state : State) → Reached setup state → Going state ⊎ Shut state
  unfolding written-cleared
  going_or_shut state (at_opening stores capacity c) = go (opening setup stores) refl
    where
      go : (r : Result (Unit {0}) Refusal) → opening setup stores ≡ r
          → Going (opened setup stores (cleared capacity)) ⊎ Shut (opened setup stores (cleared capacity))
      go (Ok u) e =
          let o = open_if_not_refused setup stores e in
          inl (record {
            is_open = ap refusal_in e;
            places = refl;
            few = o.few;
            log = written-cleared (length stores) capacity c;
            reached = messages_run.at_opening (opened_on_messages setup stores capacity c o);
          })
      go (Err why) e =
          inr (record { why = why; is_shut = ap refusal_in e; log = written-cleared (length stores) capacity c; empty = refl })
  going_or_shut state (by_call {before = before} {call = call} {answer = answer} r s) =
      ⊎_elim (λ g. inl (goes_on before state call answer g s)) (λ h. inr (stays_shut before state call answer h s)) (going_or_shut before r)
