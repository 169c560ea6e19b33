-- A call leaves the world as it was, or is a step of the protocol.
use Rattle.std.proofs.Common.{◌≡◌, ℕ, zero, suc, ◌<◌, Bool, true, false, not, ◌&&◌, eqb, ltb, leb, ◌⊎◌, List, [], ◌∷◌, length, get_or, set, Some, None, Ok, Err, Decides, Option, Result, sym, refl, ap, ◌∙◌, subst, inl, inr, ⊎_elim, arith}
use Rattle.std.specs.List.{slice_get}
use Rattle.std.proofs.lemmas.List.{get_or-set_same, get_or-set_other}
use Rattle.std.proofs.lemmas.Bool.{cond-true, cond-false, and_cases, or_parts, not-false, leb-false, ltb-false, eqb-true, eqb-false, both_ways}
use Rattle.quorum.specs.declared.node_set.NodeSet.{NodeSet}
use Rattle.quorum.specs.Sets.{with_node, legal_configuration}
use Rattle.quorum.specs.Laws.{Shared, Grows, Void}
use Rattle.protocol.specs.Messages.{is_for}
use Rattle.protocol.specs.declared.change.Change.{Change}
use Rattle.protocol.specs.declared.message.Message.{Message}
use Rattle.protocol.specs.declared.message.Message.TheVariants as message
use Rattle.protocol.specs.declared.message.Join.{Join}
use Rattle.protocol.specs.declared.message.Publication.{Publication}
use Rattle.protocol.specs.declared.message.Response.{Response}
use Rattle.protocol.specs.declared.message.Commit.{Commit}
use Rattle.protocol.specs.declared.record.Record.{Record}
use Rattle.protocol.specs.declared.refusal.Refusal.{Refusal}
use Rattle.protocol.specs.declared.refusal.Refusal.TheVariants.{UnknownNode, IllegalConfiguration}
use Rattle.protocol.specs.declared.volatile.Volatile.{Volatile}
use Rattle.protocol.specs.Changes.{changed}
use Rattle.protocol.specs.Decisions.{
  NodeState,
  Setup,
  Effect,
  Test,
  decided,
  is_empty,
  same_set,
  restarted,
  bootstrap_tests,
  bootstrap_effect,
  start_join_tests,
  start_join_effect,
  publish_tests,
  publish_effect,
  joiner_ahead,
  join_tests,
  join_effect,
  publication_tests,
  publication_effect,
  response_tests,
  decides,
  response_effect,
  commit_tests,
  commit_effect,
  restart_effect,
  deliver_decided,
}
use Rattle.protocol.specs.Calls.{Entry, entries_of, World, Fate, Call, bootstrap, start_join, publish, deliver, restart, fresh_node, decided_on, carried_out, if_known, on_node, nodes_count, node_called, decision, called}
use Rattle.protocol.proofs.Setting.{Setting}
use Rattle.protocol.proofs.Log as messages
use Rattle.protocol.proofs.Points.{Upto}
use Rattle.protocol.proofs.Steps as step
use Rattle.protocol.proofs.Deciding.{Passed, taken}
use Rattle.protocol.proofs.Sending.{same_bits}
use Rattle.protocol.proofs.Carrying.{changed_by, Sends, Left, as_it_was, done, cut, left}

-- a place in a list
pub nth_below : {X : Type 0} (xs : List X) (i : ℕ) (x : X) → slice_get xs i ≡ Some x → i < length xs
nth_below [] i x h = let z : ◌≡◌ {A = ℕ} 0 1 = cc in absurd (omega arith)
nth_below (y ∷ xs) zero x h = omega arith
nth_below (y ∷ xs) (suc i) x h = omega (arith, nth_below xs i x h)

pub nth_getD : {X : Type 0} (xs : List X) (i : ℕ) (x d : X) → slice_get xs i ≡ Some x → x ≡ get_or xs i d
nth_getD [] i x d h = let z : ◌≡◌ {A = ℕ} 0 1 = cc in absurd (omega arith)
nth_getD (y ∷ xs) zero x d h = cc
nth_getD (y ∷ xs) (suc i) x d h = nth_getD xs i x d h

-- a readable entry is a message of the log
pub readable_entry : {V : Type 0} (log : List (Message V)) (e : ℕ) (m : Message V) → slice_get (entries_of log) e ≡ Some (Ok m) → slice_get log e ≡ Some m
readable_entry [] e m h = let z : ◌≡◌ {A = ℕ} 0 1 = cc in absurd (omega arith)
readable_entry (x ∷ log) zero m h = let q : x ≡ m = cc in ap Some q
readable_entry (x ∷ log) (suc e) m h = readable_entry log e m h

module _ {V : Type 0} (setup : Setup V) (values : (x y : V) → Decides (setup.same_value x y) (x ≡ y))
    (shared : Shared setup.quorum) (grows : Grows setup.quorum) (void : Void setup.quorum) where
  abbrev pub setting : Setting
  setting = record { quorum = setup.quorum; shared = shared; grows = grows; void = void; initial = setup.initial_configuration }

  -- the state of the protocol that a world is in, with this log
  abbrev pub node_of : List (NodeState V) → ℕ → NodeState V
  node_of nodes k = get_or nodes k (fresh_node setup 0)

  abbrev pub state_of : List (NodeState V) → List (Message V) → step.State V
  state_of nodes log = record {
    node = node_of nodes;
    log = log;
  }

  -- what a call leaves
  pub record After (world : World V) (log : List (Message V)) (after : World V) : Type 0 where
    pub log' : List (Message V)
    pub readable' : after.entries ≡ entries_of log'
    pub steps : (state_of after.nodes log' ≡ state_of world.nodes log)
        ⊎ step.Step setting setup.initial_value (state_of world.nodes log) (state_of after.nodes log')

  module _ (world : World V) (log : List (Message V)) (readable : world.entries ≡ entries_of log) where
    before : step.State V
    before = state_of world.nodes log

    unchanged : (after : World V) → after ≡ world → After world log after
    unchanged after e = record {
      log' = log;
      readable' = ap (λ (x : World V). x.entries) e ∙ readable;
      steps = inl (ap (λ (x : World V). state_of x.nodes log) e);
    }

    -- node n is another, and every other node is as it was
    moves : (n : ℕ) → n < length world.nodes → (x : NodeState V) (log' : List (Message V))
        → step.Moves (state_of world.nodes log) (state_of (set world.nodes n x) log') n x.kept x.volatile
    moves n known x log' = record {
      now = get_or-set_same world.nodes n x (fresh_node setup 0) known;
      others = λ k ne. get_or-set_other world.nodes n k x (fresh_node setup 0) ne;
    }

    -- what each decision owes: its step where its effect is carried out, and its write where that is cut
    record Owes (n : ℕ) (tests : List Test) (effect : Effect V) : Type 0 where
      steps : Passed tests → (log' : List (Message V)) → Sends log log' effect.message
          → (after : step.State V) → after.log ≡ log'
          → step.Moves (state_of world.nodes log) after n (changed_by effect.change (node_of world.nodes n).kept) effect.volatile
          → step.Step setting setup.initial_value (state_of world.nodes log) after
      writes : Passed tests → (change : Change V) → effect.change ≡ Some change
          → step.Write setting setup.initial_value log (node_of world.nodes n).kept (node_of world.nodes n).volatile
          (changed change (node_of world.nodes n).kept)

    follow : (n : ℕ) → n < length world.nodes → (fate : Fate) (tests : List Test) (effect : Effect V) → Owes n tests effect
        → After world log (carried_out setup world n (node_of world.nodes n) fate (decided tests effect)).world
    follow n known fate tests effect owes = go (decided tests effect) refl
      where
        go : (r : Result (Effect V) Refusal) → decided tests effect ≡ r → After world log (carried_out setup world n (node_of world.nodes n) fate r).world
        go (Err why) e = unchanged world refl
        go (Ok x) e =
            let t = taken tests effect x e in
            subst (λ (y : Effect V). After world log (carried_out setup world n (node_of world.nodes n) fate (Ok y)).world) t.1
            (leaves t.0 _ (left setup values world log readable n (node_of world.nodes n) fate effect))
          where
            leaves : Passed tests → (after : World V) → Left setup values world log readable n (node_of world.nodes n) effect after → After world log after
            leaves passed after (as_it_was e) = unchanged after e
            leaves passed after (done log' sends e) =
                let new : NodeState V = record { kept = changed_by effect.change (node_of world.nodes n).kept; volatile = effect.volatile } in
                record {
                  log' = log';
                  readable' = ap (λ (x : World V). x.entries) e;
                  steps = inr (subst (λ (x : World V). step.Step setting setup.initial_value (state_of world.nodes log) (state_of x.nodes log')) (sym e)
                      (owes.steps passed log' sends (state_of (set world.nodes n new) log') refl (moves n known new log')));
                }
            leaves passed after (cut change c kept which e) =
                let new : NodeState V = record { kept = kept; volatile = restarted kept } in
                record {
                  log' = log;
                  readable' = ap (λ (x : World V). x.entries) e ∙ readable;
                  steps = inr (subst (λ (x : World V). step.Step setting setup.initial_value (state_of world.nodes log) (state_of x.nodes log)) (sym e)
                      (step.unfinished_write n (changed change (node_of world.nodes n).kept) kept (owes.writes passed change c) which (moves n known new log) refl));
                }

    -- what a test that does not refuse tells
    holds : (b : Bool) → not b ≡ false → b ≡ true
    holds b h = not-false b h

    sent_to : (log' : List (Message V)) (after : step.State V) (m : Message V) → after.log ≡ log' → messages.Sent log log' m
        → messages.Sent log after.log m
    sent_to log' after m e s = subst (λ (l : List (Message V)). messages.Sent log l m) (sym e) s

    bootstrap_owes : (n : ℕ) → Owes n (bootstrap_tests setup (node_of world.nodes n)) (bootstrap_effect setup (node_of world.nodes n))
    bootstrap_owes n = record {
      steps = λ p log' sends after e m. step.Step.bootstrap n (may p) m (e ∙ sends);
      writes = λ p change c. step.Write.bootstrap (may p) (ap (λ (x : Option (Change V)). changed_by x (node_of world.nodes n).kept) (sym c));
    }
      where
        may : Passed (bootstrap_tests setup (node_of world.nodes n)) → step.MayBootstrap (node_of world.nodes n).kept
        may p = record { empty = eqb-true _ _ (holds (is_empty (node_of world.nodes n).kept.last_accepted_configuration) p.0) }

    -- the record and the volatile values of node n
    abbrev R : ℕ → Record V
    R n = (node_of world.nodes n).kept

    abbrev W : ℕ → Volatile
    W n = (node_of world.nodes n).volatile

    start_join_owes : (n d t : ℕ)
        → Owes n (record { refuses = leb (nodes_count setup world) d; with = UnknownNode } ∷ start_join_tests setup (node_of world.nodes n) t)
        (start_join_effect setup (node_of world.nodes n) n d t)
    start_join_owes n d t = record {
      steps = λ p log' sends after e m. step.Step.start_join n d t (may p) m (sent_to log' after _ e sends);
      writes = λ p change c. step.Write.start_join t (may p) (ap (λ (x : Option (Change V)). changed_by x (R n)) (sym c));
    }
      where
        may : Passed (record { refuses = leb (nodes_count setup world) d; with = UnknownNode } ∷ start_join_tests setup (node_of world.nodes n) t)
            → step.MayStartJoin (R n) t
        may p = record { higher = leb-false t (R n).current_term p.1.0 }

    publish_owes : (n t v : ℕ) (value : V) (configuration : NodeSet)
        → Owes n
        (record { refuses = not (legal_configuration (nodes_count setup world) configuration); with = IllegalConfiguration }
        ∷ publish_tests setup (node_of world.nodes n) t v configuration)
        (publish_effect setup (node_of world.nodes n) n t v value configuration)
    publish_owes n t v value configuration = record {
      steps = λ p log' sends after e m. step.Step.publish n t v value configuration (may p) m (sent_to log' after _ e sends);
      writes = λ p change c. let z : ◌≡◌ {A = ℕ} 0 1 = cc in absurd (omega arith);
    }
      where
        once : (not (same_set configuration (R n).last_accepted_configuration)
            && not (same_set (R n).last_committed_configuration (R n).last_accepted_configuration)) ≡ false
            → (configuration ≡ (R n).last_accepted_configuration) ⊎ ((R n).last_committed_configuration ≡ (R n).last_accepted_configuration)
        once h =
            ⊎_elim (λ a. inl (same_bits configuration (R n).last_accepted_configuration (holds _ a)))
            (λ b. inr (same_bits (R n).last_committed_configuration (R n).last_accepted_configuration (holds _ b)))
            (and_cases (not (same_set configuration (R n).last_accepted_configuration)) _ h)

        may : Passed
            (record { refuses = not (legal_configuration (nodes_count setup world) configuration); with = IllegalConfiguration }
            ∷ publish_tests setup (node_of world.nodes n) t v configuration)
            → step.MayPublish setting (R n) (W n) t v configuration
        may p = record {
          won = holds (W n).election_won p.1.0;
          nothing_under_way = eqb-true _ _ (holds (eqb (W n).last_published_version (R n).last_accepted_version) p.1.1.0);
          current = eqb-true _ _ (holds (eqb t (R n).current_term) p.1.1.1.0);
          higher = leb-false v (W n).last_published_version p.1.1.1.1.0;
          reconfigures_once = once p.1.1.1.1.1.0;
          join_quorum = holds (setup.quorum (W n).join_votes configuration) p.1.1.1.1.1.1.0;
        }

    join_owes : (n : ℕ) (m : Join) → messages.Has log (message.Join m) → m.destination ≡ n
        → Owes n (join_tests setup (node_of world.nodes n) m) (join_effect setup (node_of world.nodes n) m)
    join_owes n m has to = record {
      steps = λ p log' sends after e moved. step.Step.deliver_join n m (may p) moved (e ∙ sends);
      writes = λ p change c. let z : ◌≡◌ {A = ℕ} 0 1 = cc in absurd (omega arith);
    }
      where
        not_ahead : joiner_ahead setup (node_of world.nodes n) m ≡ false
            → Upto m.base_term m.base_version (R n).last_accepted_term (R n).last_accepted_version
        not_ahead h =
            let q = or_parts (ltb (R n).last_accepted_term m.base_term) _ h in
            record {
              terms = ltb-false (R n).last_accepted_term m.base_term q.0;
              versions = λ e.
                  ⊎_elim (λ a. absurd (eqb-false m.base_term (R n).last_accepted_term a e))
                  (λ b. ltb-false (R n).last_accepted_version m.base_version b)
                  (and_cases (eqb m.base_term (R n).last_accepted_term) (ltb (R n).last_accepted_version m.base_version) q.1);
            }

        may : Passed (join_tests setup (node_of world.nodes n) m) → step.MayCountJoin log n (R n) (W n) m
        may p = record {
          sent = has;
          destination = to;
          current = eqb-true _ _ (holds (eqb m.term (R n).current_term) p.0);
          started = holds (W n).started_join p.1.0;
          not_ahead = not_ahead p.1.1.0;
        }

    publication_owes : (n : ℕ) (m : Publication V) → messages.Has log (message.Publication m)
        → Owes n (publication_tests setup (node_of world.nodes n) m) (publication_effect setup (node_of world.nodes n) n m)
    publication_owes n m has = record {
      steps = λ p log' sends after e moved. step.Step.deliver_publication n m (may p) moved (sent_to log' after _ e sends);
      writes = λ p change c. step.Write.accept m (may p) (ap (λ (x : Option (Change V)). changed_by x (R n)) (sym c));
    }
      where
        may : Passed (publication_tests setup (node_of world.nodes n) m) → step.MayAccept log (R n) m
        may p = record {
          sent = has;
          current = eqb-true _ _ (holds (eqb m.term (R n).current_term) p.0);
          not_accepted = λ e.
              ⊎_elim (λ a. absurd (eqb-false m.term (R n).last_accepted_term a e))
              (λ b. leb-false m.version (R n).last_accepted_version b)
              (and_cases (eqb m.term (R n).last_accepted_term) (leb m.version (R n).last_accepted_version) p.1.0);
        }

    response_owes : (n : ℕ) (m : Response) → messages.Has log (message.Response m) → m.destination ≡ n
        → Owes n (response_tests setup (node_of world.nodes n) m) (response_effect setup (node_of world.nodes n) n m)
    response_owes n m has to = record {
      steps = λ p log' sends after e moved. counted p log' after e moved (decides setup (node_of world.nodes n) (with_node m.source (W n).publish_votes)) refl sends;
      writes = λ p change c. let z : ◌≡◌ {A = ℕ} 0 1 = cc in absurd (omega arith);
    }
      where
        may : Passed (response_tests setup (node_of world.nodes n) m) → step.MayCountResponse log n (R n) (W n) m
        may p = record {
          sent = has;
          destination = to;
          won = holds (W n).election_won p.0;
          current = eqb-true _ _ (holds (eqb m.term (R n).current_term) p.1.0);
          last = eqb-true _ _ (holds (eqb m.version (W n).last_published_version) p.1.1.0);
        }

        effect : Effect V
        effect = response_effect setup (node_of world.nodes n) n m

        counted : Passed (response_tests setup (node_of world.nodes n) m) → (log' : List (Message V)) (after : step.State V) → after.log ≡ log'
            → step.Moves (state_of world.nodes log) after n (R n) (response_effect setup (node_of world.nodes n) n m).volatile
            → (b : Bool) → decides setup (node_of world.nodes n) (with_node m.source (W n).publish_votes) ≡ b
            → Sends log log' (response_effect setup (node_of world.nodes n) n m).message
            → step.Step setting setup.initial_value (state_of world.nodes log) after
        counted p log' after e moved true d sends =
            step.Step.deliver_deciding_response n m (may p) d moved
            (sent_to log' after _ e (subst (λ (o : Option (Message V)). Sends log log' o) (cond-true (decides setup (node_of world.nodes n) (with_node m.source (W n).publish_votes)) _ _ d) sends))
        counted p log' after e moved false d sends =
            step.Step.deliver-response n m (may p) d moved
            (e ∙ subst (λ (o : Option (Message V)). Sends log log' o) (cond-false (decides setup (node_of world.nodes n) (with_node m.source (W n).publish_votes)) _ _ d) sends)

    commit_owes : (n : ℕ) (m : Commit) → messages.Has log (message.Commit m)
        → Owes n (commit_tests setup (node_of world.nodes n) m) (commit_effect setup (node_of world.nodes n))
    commit_owes n m has = record {
      steps = λ p log' sends after e moved. step.Step.deliver_commit n m (may p) moved (e ∙ sends);
      writes = λ p change c. step.Write.mark m (may p) (ap (λ (x : Option (Change V)). changed_by x (R n)) (sym c));
    }
      where
        may : Passed (commit_tests setup (node_of world.nodes n) m) → step.MayMark log (R n) (W n) m
        may p = record {
          sent = has;
          current = eqb-true _ _ (holds (eqb m.term (R n).current_term) p.0);
          accepted_term = eqb-true _ _ (holds (eqb m.term (R n).last_accepted_term) p.1.0);
          accepted_version = eqb-true _ _ (holds (eqb m.version (R n).last_accepted_version) p.1.1.0);
          not_newer = λ won.
              ⊎_elim (λ a. absurd (both_ways (W n).election_won a won))
              (λ b. eqb-true _ _ (holds (eqb (R n).last_accepted_version (W n).last_published_version) b))
              (and_cases (W n).election_won (not (eqb (R n).last_accepted_version (W n).last_published_version)) p.1.1.1.0);
        }

    restart_owes : (n : ℕ) → Owes n [] (restart_effect setup (node_of world.nodes n))
    restart_owes n = record {
      steps = λ p log' sends after e moved. step.Step.restart n moved (e ∙ sends);
      writes = λ p change c. let z : ◌≡◌ {A = ℕ} 0 1 = cc in absurd (omega arith);
    }

    -- a message that is delivered, by its kind
    delivered : (n : ℕ) → n < length world.nodes → (fate : Fate) (m : Message V) → messages.Has log m → is_for n m ≡ true
        → After world log (carried_out setup world n (node_of world.nodes n) fate (deliver_decided setup (node_of world.nodes n) n m)).world
    delivered n known fate (message.Join m) has to = follow n known fate _ _ (join_owes n m has (eqb-true _ _ to))
    delivered n known fate (message.Publication m) has to = follow n known fate _ _ (publication_owes n m has)
    delivered n known fate (message.Response m) has to = follow n known fate _ _ (response_owes n m has (eqb-true _ _ to))
    delivered n known fate (message.Commit m) has to = follow n known fate _ _ (commit_owes n m has)

    looked_up : (n : ℕ) → n < length world.nodes → (fate : Fate) (e : ℕ) (o : Option (Entry V)) → slice_get world.entries e ≡ o
        → After world log (carried_out setup world n (node_of world.nodes n) fate (decided_on setup world n (node_of world.nodes n) o)).world
    looked_up n known fate e None h = unchanged world refl
    looked_up n known fate e (Some (Err why)) h = unchanged world refl
    looked_up n known fate e (Some (Ok m)) h = go (is_for n m) refl
      where
        has : messages.Has log m
        has = record { entry = e; there = readable_entry log e m (ap (λ (es : List (Entry V)). slice_get es e) (sym readable) ∙ h) }

        go : (b : Bool) → is_for n m ≡ b
            → After world log (carried_out setup world n (node_of world.nodes n) fate (decided_on setup world n (node_of world.nodes n) (Some (Ok m)))).world
        go true a =
            subst (λ (r : Result (Effect V) Refusal). After world log (carried_out setup world n (node_of world.nodes n) fate r).world)
            (sym (cond-true (is_for n m) _ _ a)) (delivered n known fate m has a)
        go false a =
            subst (λ (r : Result (Effect V) Refusal). After world log (carried_out setup world n (node_of world.nodes n) fate r).world)
            (sym (cond-false (is_for n m) _ _ a)) (unchanged world refl)

    -- a call on a node that there is
    on_known : (n : ℕ) (fate : Fate) (decision : NodeState V → Result (Effect V) Refusal)
        → (n < length world.nodes → After world log (carried_out setup world n (node_of world.nodes n) fate (decision (node_of world.nodes n))).world)
        → After world log (on_node setup world n fate decision).world
    on_known n fate decision h = go (slice_get world.nodes n) refl
      where
        go : (o : Option (NodeState V)) → slice_get world.nodes n ≡ o → After world log (if_known setup world n fate decision o).world
        go None e = unchanged world refl
        go (Some node) e =
            subst (λ (x : NodeState V). After world log (carried_out setup world n x fate (decision x)).world)
            (sym (nth_getD world.nodes n node (fresh_node setup 0) e)) (h (nth_below world.nodes n node e))

    pub call_steps : (call : Call V) (fate : Fate) → After world log (called setup world call fate).world
    call_steps call fate = on_known (node_called setup world call) fate (decision setup world call) (steps call)
      where
        steps : (c : Call V) → node_called setup world c < length world.nodes
            → After world log (carried_out setup world (node_called setup world c) (node_of world.nodes (node_called setup world c)) fate
            (decision setup world c (node_of world.nodes (node_called setup world c)))).world
        steps (bootstrap n) known = follow n known fate _ _ (bootstrap_owes n)
        steps (start_join n d t) known = follow n known fate _ _ (start_join_owes n d t)
        steps (publish n t v value configuration) known = follow n known fate _ _ (publish_owes n t v value configuration)
        steps (deliver e n) known = looked_up n known fate e (slice_get world.entries e) refl
        steps (restart n) known = follow n known fate [] _ (restart_owes n)
