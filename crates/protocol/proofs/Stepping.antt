-- The steps of the calls are the model's: the theorem.
use Rattle.std.proofs.Common.{◌≡◌, ℕ, zero, suc, ◌^◌, ◌<◌, true, false, cond, eqb, ◌⊎◌, List, [], ◌∷◌, map, length, get_or, set, Some, None, Ok, Err, Decides, Option, Result, sym, refl, ap, ◌∙◌, subst, inl, inr, ⊎_elim, pow-suc, arith}
use Rattle.std.specs.List.{slice_get}
use Rattle.std.proofs.lemmas.List.{length-set, get_or-set_same, length-map}
use Rattle.std.proofs.lemmas.Bool.{cond-true, cond-false, cases_Bool, eqb-true, eq-eqb, leb-false, lt-leb, not-false, not_from_true, cases_order}
use Rattle.quorum.specs.declared.node_set.NodeSet.{NodeSet}
use Rattle.quorum.specs.Sets.{legal_configuration, Configuration}
use Rattle.quorum.specs.MembersLemmas.{configuration_by_members}
use Rattle.protocol.specs.declared.message.Message.TheVariants as message
use Rattle.protocol.specs.declared.change.Change.{Change}
use Rattle.protocol.specs.declared.record.Record.{Record}
use Rattle.protocol.specs.declared.refusal.Refusal.{Refusal}
use Rattle.protocol.specs.Changes.{changed}
use Rattle.protocol.specs.Decisions.{NodeState, Setup, Effect, Test, decided, restarted, bootstrap_tests, bootstrap_effect, start_join_tests, start_join_effect, publish_tests, publish_effect, join_tests, join_effect, publication_tests, publication_effect, response_tests, response_effect, commit_tests, commit_effect, restart_effect}
use Rattle.protocol.specs.Calls.{Entry, World, Fate, Call, bootstrap, start_join, publish, deliver, restart, fresh_node, called, node_called, decision, decided_on, with_node_at}
use Rattle.protocol.specs.Runs.{Opened}
use Rattle.protocol.specs.Model as model
use Rattle.protocol.specs.Model.{◌∈◌, ◌≈◌, Nodes, State}
use Rattle.protocol.specs.Steps.{join_of, publication_of, response_of, commit_of, all_meant, messages_of, Tied, blank, state, denoted, Delivery, Action, effect_of, delivery_effect, Room, CutShort, IsCut, unsent, Stopped, CutIsTheModels, GoesThrough, descendant_after, Taken, StepIsTheModels, StepsAreTheModels}
use Rattle.protocol.proofs.Deciding.{Passed, taken}
use Rattle.protocol.proofs.Carrying.{changed_by}
use Rattle.protocol.proofs.Placing.{in_left, in_either, nth_in, entry_means, Means, node_after, Went, went, goes, Halted, halts, Ended, through, halted, unmoved, ended}
use Rattle.protocol.proofs.Tying.{tied_after}
use Rattle.protocol.proofs.Soundness.{reached_sound}
use Rattle.protocol.proofs.Asserting.{asserted}
use Rattle.protocol.proofs.Matching.{after, does_restart, does_bootstrap, asks_bootstrap, does_start_join, asks_start_join, does_join, asks_join, does_publish, asks_publish, does_publication, asks_publication, does_response, asks_response, does_commit, asks_commit}

-- where no test refuses, the effect follows
pub passed : {X : Type 0} (tests : List Test) (x : X) → Passed tests → decided tests x ≡ Ok x
passed [] x h = refl
passed (test ∷ tests) x h = cond-false test.refuses _ _ h.0 ∙ passed tests x h.1

-- every number is below a power of two
below_power : (n : ℕ) → n < 2 ^ n
below_power zero = omega arith
below_power (suc n) = omega (arith, below_power n, pow-suc 2 n)

legal : (N : ℕ) (s : NodeSet) → Decides (legal_configuration N s) (Configuration N s)
legal N s = configuration_by_members s.bits N s (below_power s.bits)

-- members of sets of nodes and of what is sent to them
in_nodes : (N n : ℕ) → n < N → n ∈ Nodes N
in_nodes zero n h = absurd (omega arith)
in_nodes (suc N) n h =
    ⊎_elim (λ e. inl e) (λ o. inr (in_nodes N n (⊎_elim (λ l. l) (λ g. absurd (omega arith)) o))) (cases_order n N)

pub in_map : {X Y : Type 0} (f : X → Y) (xs : List X) (x : X) → x ∈ xs → f x ∈ map f xs
in_map f [] x h = absurd h
in_map f (y ∷ xs) x (inl e) = inl (ap f e)
in_map f (y ∷ xs) x (inr h) = inr (in_map f xs x h)

module _ {V : Type 0} (setup : Setup V) (world : World V) (versions : ℕ → ℕ) (descendant : List model.Descendant) where
  abbrev the_state : State V
  the_state = denoted setup versions descendant world

  -- An effect that a call has, and the action that it is.
  pub record Does (call : Call V) (effect : Effect V) : Type 0 where
    pub has : effect_of setup world call ≡ Some effect
    pub acts : (es : List (Entry V)) → Means world effect.message es
        → Action setup world call the_state
        (after setup world versions descendant (node_called setup world call) (descendant_after setup world versions descendant call) effect es)

  record Decided (call : Call V) : Type 0 where
    known : node_called setup world call < length world.nodes
    effect : Effect V
    has : effect_of setup world call ≡ Some effect
    decides : decision setup world call (get_or world.nodes (node_called setup world call) (blank setup)) ≡ Ok effect

  -- from a decision to the action, and back
  pub record Fits (call : Call V) : Type 0 where
    pub to : node_called setup world call < length world.nodes → (effect : Effect V)
        → decision setup world call (get_or world.nodes (node_called setup world call) (blank setup)) ≡ Ok effect
        → Does call effect
    from : (σ' : State V) → Action setup world call the_state σ' → Decided call

  -- the action of an effect that was decided on, moved to the effect that was found
  by_tests : (call : Call V) (tests : List Test) (effect : Effect V) → effect_of setup world call ≡ Some effect
      → (Passed tests → (es : List (Entry V)) → Means world effect.message es
      → Action setup world call the_state
      (after setup world versions descendant (node_called setup world call) (descendant_after setup world versions descendant call) effect es))
      → (e : Effect V) → decided tests effect ≡ Ok e → Does call e
  by_tests call tests effect has acts e h =
      let t = taken tests effect e h in
      subst (Does call) t.1 (record { has = has; acts = acts t.0 })

  fits_restart : (n : ℕ) → Fits (restart n)
  fits_restart n = record {
    to = λ h e d. by_tests (restart n) [] (restart_effect setup (get_or world.nodes n (blank setup))) refl
        (λ p es m. (h, does_restart setup world versions descendant n h es m)) e d;
    from = λ σ' a. record { known = a.0; effect = restart_effect setup (get_or world.nodes n (blank setup)); has = refl; decides = refl };
  }

  fits_bootstrap : (n : ℕ) → Fits (bootstrap n)
  fits_bootstrap n =
      let node = get_or world.nodes n (blank setup) in
      record {
        to = λ h e d. by_tests (bootstrap n) (bootstrap_tests setup node) (bootstrap_effect setup node) refl
            (λ p es m. (h, does_bootstrap setup world versions descendant n h p es m)) e d;
        from = λ σ' a. record {
          known = a.0;
          effect = bootstrap_effect setup node;
          has = refl;
          decides = passed (bootstrap_tests setup node) _ (asks_bootstrap setup world versions descendant n σ' a.1);
        };
      }

  fits_start_join : (n d t : ℕ) → Fits (start_join n d t)
  fits_start_join n d t =
      let node = get_or world.nodes n (blank setup) in
      let N = length world.nodes in
      record {
        to = λ h e k. by_tests (start_join n d t) (_ ∷ start_join_tests setup node t) (start_join_effect setup node n d t) refl
            (λ p es m. (h, (leb-false N d p.0, does_start_join setup world versions descendant n d t h p.1 es m))) e k;
        from = λ σ' a. record {
          known = a.0;
          effect = start_join_effect setup node n d t;
          has = refl;
          decides = passed (_ ∷ start_join_tests setup node t) _
              (lt-leb N d a.1.0, asks_start_join setup world versions descendant n d t σ' a.1.1);
        };
      }

  fits_publish : (n t v : ℕ) (value : V) (cfg : NodeSet) → Fits (publish n t v value cfg)
  fits_publish n t v value cfg =
      let node = get_or world.nodes n (blank setup) in
      let N = length world.nodes in
      record {
        to = λ h e k. by_tests (publish n t v value cfg) (_ ∷ publish_tests setup node t v cfg) (publish_effect setup node n t v value cfg) refl
            (λ p es m. (
              h,
              (
                (legal N cfg).0 (not-false (legal_configuration N cfg) p.0),
                does_publish setup world versions descendant n t v value cfg h p.1 es m,
              ),
            )) e k;
        from = λ σ' a. record {
          known = a.0;
          effect = publish_effect setup node n t v value cfg;
          has = refl;
          decides = passed (_ ∷ publish_tests setup node t v cfg) _ (
            not_from_true (legal_configuration N cfg) ((legal N cfg).1 a.1.0),
            asks_publish setup world versions descendant n t v value cfg σ' a.1.1,
          );
        };
      }

  -- a delivery, by the entry that is looked up
  module _ (n : ℕ) where
    abbrev node : NodeState V
    node = get_or world.nodes n (blank setup)

    record DoesDelivery (found : Option (Entry V)) (effect : Effect V) : Type 0 where
      has : delivery_effect setup world n found ≡ Some effect
      acts : (es : List (Entry V)) → Means world effect.message es
          → Delivery setup world n found the_state (after setup world versions descendant n descendant effect es)

    record DecidedDelivery (found : Option (Entry V)) : Type 0 where
      effect : Effect V
      has : delivery_effect setup world n found ≡ Some effect
      decides : decided_on setup world n node found ≡ Ok effect

    by_tests_of : (found : Option (Entry V)) (tests : List Test) (effect : Effect V) → delivery_effect setup world n found ≡ Some effect
        → (Passed tests → (es : List (Entry V)) → Means world effect.message es
        → Delivery setup world n found the_state (after setup world versions descendant n descendant effect es))
        → (e : Effect V) → decided tests effect ≡ Ok e → DoesDelivery found e
    by_tests_of found tests effect has acts e h =
        let t = taken tests effect e h in
        subst (DoesDelivery found) t.1 (record { has = has; acts = acts t.0 })

    -- a message that is for one node
    to_it : (d : ℕ) (r : Result (Effect V) Refusal) (why : Refusal) (e : Effect V) → cond (eqb d n) r (Err why) ≡ Ok e → (d ≡ n) × (r ≡ Ok e)
    to_it d r why e h =
        ⊎_elim (λ (t : eqb d n ≡ true). (eqb-true d n t, sym (cond-true (eqb d n) r (Err why) t) ∙ h))
        (λ (f : eqb d n ≡ false).
        let q : ◌≡◌ {A = Result (Effect V) Refusal} (Err why) (Ok e) = sym (cond-false (eqb d n) r (Err why) f) ∙ h in
        absurd (let z : ◌≡◌ {A = ℕ} 0 1 = cc in omega arith))
        (cases_Bool (eqb d n))

    delivery_to : n < length world.nodes → (found : Option (Entry V)) (e : Effect V) → decided_on setup world n node found ≡ Ok e → DoesDelivery found e
    delivery_to h None e k = absurd (let z : ◌≡◌ {A = ℕ} 0 1 = cc in omega arith)
    delivery_to h (Some (Err why)) e k = absurd (let z : ◌≡◌ {A = ℕ} 0 1 = cc in omega arith)
    delivery_to h (Some (Ok (message.Join m))) e k =
        let t = to_it m.destination (decided (join_tests setup node m) (join_effect setup node m)) _ e k in
        by_tests_of (Some (Ok (message.Join m))) (join_tests setup node m) (join_effect setup node m) refl
        (λ p es w. (t.0, does_join setup world versions descendant n m h p es w)) e t.1
    delivery_to h (Some (Ok (message.Publication m))) e k =
        by_tests_of (Some (Ok (message.Publication m))) (publication_tests setup node m) (publication_effect setup node n m) refl
        (λ p es w. does_publication setup world versions descendant n m h p es w) e k
    delivery_to h (Some (Ok (message.Response m))) e k =
        let t = to_it m.destination (decided (response_tests setup node m) (response_effect setup node n m)) _ e k in
        by_tests_of (Some (Ok (message.Response m))) (response_tests setup node m) (response_effect setup node n m) refl
        (λ p es w. (t.0, does_response setup world versions descendant n m h p es w)) e t.1
    delivery_to h (Some (Ok (message.Commit m))) e k =
        by_tests_of (Some (Ok (message.Commit m))) (commit_tests setup node m) (commit_effect setup node) refl
        (λ p es w. does_commit setup world versions descendant n m h p es w) e k

    delivery_from : (found : Option (Entry V)) (σ' : State V) → Delivery setup world n found the_state σ' → DecidedDelivery found
    delivery_from None σ' a = absurd a
    delivery_from (Some (Err why)) σ' a = absurd a
    delivery_from (Some (Ok (message.Join m))) σ' a = record {
      effect = join_effect setup node m;
      has = refl;
      decides = cond-true (eqb m.destination n) _ _ (eq-eqb m.destination n a.0)
          ∙ passed (join_tests setup node m) _ (asks_join setup world versions descendant n m σ' a.1);
    }
    delivery_from (Some (Ok (message.Publication m))) σ' a = record {
      effect = publication_effect setup node n m;
      has = refl;
      decides = passed (publication_tests setup node m) _ (asks_publication setup world versions descendant n m σ' a);
    }
    delivery_from (Some (Ok (message.Response m))) σ' a = record {
      effect = response_effect setup node n m;
      has = refl;
      decides = cond-true (eqb m.destination n) _ _ (eq-eqb m.destination n a.0)
          ∙ passed (response_tests setup node m) _ (asks_response setup world versions descendant n m σ' a.1);
    }
    delivery_from (Some (Ok (message.Commit m))) σ' a = record {
      effect = commit_effect setup node;
      has = refl;
      decides = passed (commit_tests setup node m) _ (asks_commit setup world versions descendant n m σ' a);
    }

  fits_deliver : (e n : ℕ) → Fits (deliver e n)
  fits_deliver e n = record {
    to = λ h effect k.
        let d = delivery_to n h (slice_get world.entries e) effect k in
        record { has = d.has; acts = λ es m. (h, d.acts es m) };
    from = λ σ' a.
        let d = delivery_from n (slice_get world.entries e) σ' a.1 in
        record { known = a.0; effect = d.effect; has = d.has; decides = d.decides };
  }

  pub fits : (call : Call V) → Fits call
  fits (bootstrap n) = fits_bootstrap n
  fits (start_join n d t) = fits_start_join n d t
  fits (publish n t v value configuration) = fits_publish n t v value configuration
  fits (deliver e n) = fits_deliver e n
  fits (restart n) = fits_restart n

  -- an action is a step of the model
  is_next_delivery : (e n : ℕ) → n < length world.nodes → (found : Option (Entry V)) → slice_get world.entries e ≡ found → (σ' : State V)
      → Delivery setup world n found the_state σ' → model.Next (length world.nodes) setup.quorum the_state σ'
  is_next_delivery e n h None is σ' a = absurd a
  is_next_delivery e n h (Some (Err why)) is σ' a = absurd a
  is_next_delivery e n h (Some (Ok (message.Join m))) is σ' a =
      model.d3 (model.Join (join_of m))
      (entry_means (length world.nodes) world.entries (message.Join m) (nth_in world.entries e _ is) _ (inl refl))
      (subst (λ k. model.HandleJoin (length world.nodes) setup.quorum the_state σ' k (model.Join (join_of m))) (sym a.0) a.1)
  is_next_delivery e n h (Some (Ok (message.Publication m))) is σ' a =
      model.d5 (model.PublishRequest (publication_of m n))
      (entry_means (length world.nodes) world.entries (message.Publication m) (nth_in world.entries e _ is) _
      (in_map (λ k. model.PublishRequest (publication_of m k)) (Nodes (length world.nodes)) n (in_nodes (length world.nodes) n h)))
      a
  is_next_delivery e n h (Some (Ok (message.Response m))) is σ' a =
      model.d6 (model.PublishResponse (response_of m))
      (entry_means (length world.nodes) world.entries (message.Response m) (nth_in world.entries e _ is) _ (inl refl))
      (subst (λ k. model.HandlePublishResponse (length world.nodes) setup.quorum the_state σ' k (model.PublishResponse (response_of m))) (sym a.0) a.1)
  is_next_delivery e n h (Some (Ok (message.Commit m))) is σ' a =
      model.d7 (model.Commit (commit_of m n))
      (entry_means (length world.nodes) world.entries (message.Commit m) (nth_in world.entries e _ is) _
      (in_map (λ k. model.Commit (commit_of m k)) (Nodes (length world.nodes)) n (in_nodes (length world.nodes) n h)))
      a

  is_next : (call : Call V) (σ' : State V) → Action setup world call the_state σ' → model.Next (length world.nodes) setup.quorum the_state σ'
  is_next (bootstrap n) σ' a = model.d1 n a.0 a.1
  is_next (start_join n d t) σ' a = model.d2 n d a.0 a.1.0 t a.1.1
  is_next (publish n t v value configuration) σ' a = model.d4 n a.0 t v value configuration a.1.0 a.1.1
  is_next (deliver e n) σ' a = is_next_delivery e n a.0 (slice_get world.entries e) refl σ' a.1
  is_next (restart n) σ' a = model.d8 n a.0 a.1

  module _ (values : (x y : V) → Decides (setup.same_value x y) (x ≡ y)) (call : Call V) (fate : Fate) where
    abbrev n : ℕ
    n = node_called setup world call

    abbrev descendant' : List model.Descendant
    descendant' = descendant_after setup world versions descendant call

    went_call : Taken setup (called setup world call fate) → Went setup values world n fate (decision setup world call)
    went_call t = went setup values world n fate (decision setup world call) t

    acted : (w : Went setup values world n fate (decision setup world call))
        → Action setup world call the_state (denoted setup versions descendant' (called setup world call fate).world)
    acted w =
        let node' = node_after (get_or world.nodes n (blank setup)) w.effect in
        let a = ((fits call).to w.known w.effect w.decides).acts w.entries w.means in
        let same_count : length (set world.nodes n node') ≡ length world.nodes = length-set world.nodes n node' in
        subst (λ (x : World V). Action setup world call the_state (denoted setup versions descendant' x)) (sym w.leaves)
        (subst (λ k. Action setup world call the_state (state setup versions descendant' k (set world.nodes n node') w.entries)) (sym same_count) a)

    step_is_the_models : StepIsTheModels setup world call fate versions descendant
    step_is_the_models = record {
      only_when = λ t.
          let w = went_call t in
          record {
            enabled = (_, acted w);
            goes_through = subst (λ (o : Option (Effect V)). GoesThrough setup world fate o)
                (sym ((fits call).to w.known w.effect w.decides).has) (w.room, w.finishes);
          };
      whenever = λ p.
          let d = (fits call).from p.enabled.0 p.enabled.1 in
          let g = subst (λ (o : Option (Effect V)). GoesThrough setup world fate o) d.has p.goes_through in
          goes setup values world n fate (decision setup world call) d.known d.effect d.decides g.0 g.1;
      step = λ t. acted (went_call t);
      tied = λ t d.
          let w = went_call t in
          subst (λ (x : World V). Tied (messages_of x.entries) descendant') (sym w.leaves)
          (tied_after setup world versions descendant (messages_of world.entries) (messages_of w.entries) d call w.effect
          ((fits call).to w.known w.effect w.decides).has w.sends);
      next = λ t. is_next call _ (acted (went_call t));
    }

-- the second of two new elements at a place is left
set_twice : {X : Type 0} (xs : List X) (n : ℕ) (a b : X) → set (set xs n a) n b ≡ set xs n b
set_twice [] n a b = refl
set_twice (x ∷ xs) zero a b = refl
set_twice (x ∷ xs) (suc n) a b = ap (λ (l : List _). x ∷ l) (set_twice xs n a b)

-- Writes that do not finish.
module _ {V : Type 0} (setup : Setup V) (world : World V) (versions : ℕ → ℕ) (descendant : List model.Descendant)
    (values : (x y : V) → Decides (setup.same_value x y) (x ≡ y)) (call : Call V) (fate : Fate) where
  abbrev place : ℕ
  place = node_called setup world call

  abbrev called_node : NodeState V
  called_node = get_or world.nodes place (blank setup)

  abbrev longer : List model.Descendant
  longer = descendant_after setup world versions descendant call

  record Stop : Type 0 where
    decided_so : Decided setup world versions descendant call
    change : Change V
    halted : Halted setup values world place fate (decision setup world call) decided_so.effect change
    changes : decided_so.effect.change ≡ Some change

  stop : Stopped setup world call fate versions descendant → Stop
  stop s =
      let d = (fits setup world versions descendant call).from s.enabled.0 s.enabled.1 in
      let c = subst (λ (o : Option (Effect V)). IsCut setup world fate o) d.has s.cut in
      go d c.0 d.effect.change refl c.1
    where
      go : (d : Decided setup world versions descendant call) → Room setup world d.effect.message
          → (o : Option (Change V)) → d.effect.change ≡ o → CutShort setup world fate o → Stop
      go d room None e c = absurd c
      go d room (Some change) e c = record {
        decided_so = d;
        change = change;
        halted = halts setup values world place fate (decision setup world call) d.known d.effect d.decides room c change e;
        changes = e;
      }

  no_more : Means world None world.entries
  no_more N x = (in_left x (all_meant N world.entries) [], λ h. ⊎_elim (λ k. k) (λ (k : ⊥). absurd k) (in_either x (all_meant N world.entries) [] h))

  restarts : Stop → fate.keeps_new ≡ false
      → model.RestartNode (length world.nodes) setup.quorum (denoted setup versions descendant world)
      (denoted setup versions descendant (called setup world call fate).world) place
  restarts s old =
      let X : Record V → NodeState V = λ r. record { kept = r; volatile = restarted r } in
      let r : model.RestartNode (length world.nodes) setup.quorum (denoted setup versions descendant world)
      (state setup versions descendant (length world.nodes) (set world.nodes place (X called_node.kept)) world.entries) place =
      does_restart setup world versions descendant place s.decided_so.known world.entries no_more
      in
      subst (λ (x : World V). model.RestartNode (length world.nodes) setup.quorum (denoted setup versions descendant world) (denoted setup versions descendant x) place)
      (sym (s.halted.leaves ∙ ap (λ (y : Record V). with_node_at setup world place (X y) world.entries)
      (cond-false fate.keeps_new (changed s.change called_node.kept) called_node.kept old)))
      (subst (λ k. model.RestartNode (length world.nodes) setup.quorum (denoted setup versions descendant world)
      (state setup versions descendant k (set world.nodes place (X called_node.kept)) world.entries) place)
      (sym (length-set world.nodes place (X called_node.kept))) r)

  -- the action, its message lost, and then a restart
  acts_and_restarts : Stop → fate.keeps_new ≡ true
      → (σ₁ : State V) × Action setup world call (denoted setup versions descendant world) σ₁
      × model.RestartNode (length world.nodes) setup.quorum (unsent setup (denoted setup versions descendant world) σ₁)
      (denoted setup versions longer (called setup world call fate).world) place
  acts_and_restarts s new =
      let d = s.decided_so in
      let effect = d.effect in
      let N = length world.nodes in
      let X : Record V → NodeState V = λ r. record { kept = r; volatile = restarted r } in
      let node₁ = node_after called_node effect in
      let nodes₁ = set world.nodes place node₁ in
      let world₁ : World V = with_node_at setup world place node₁ world.entries in
      let there : get_or nodes₁ place (blank setup) ≡ node₁ = get_or-set_same world.nodes place node₁ (blank setup) d.known in
      let count₁ : length nodes₁ ≡ N = length-set world.nodes place node₁ in
      let kept_is : cond fate.keeps_new (changed s.change called_node.kept) called_node.kept ≡ node₁.kept =
      cond-true fate.keeps_new (changed s.change called_node.kept) called_node.kept new
      ∙ sym (ap (λ (o : Option (Change V)). changed_by o called_node.kept) s.changes)
      in
      let r₁ : model.RestartNode (length nodes₁) setup.quorum (state setup versions longer (length nodes₁) nodes₁ world.entries)
      (state setup versions longer (length nodes₁) (set nodes₁ place (X (get_or nodes₁ place (blank setup)).kept)) world.entries) place =
      does_restart setup world₁ versions longer place (subst (λ k. place < k) (sym count₁) d.known) world.entries no_more
      in
      let r₂ : model.RestartNode (length nodes₁) setup.quorum (state setup versions longer (length nodes₁) nodes₁ world.entries)
      (state setup versions longer (length nodes₁) (set world.nodes place (X node₁.kept)) world.entries) place =
      subst (λ (l : List (NodeState V)). model.RestartNode (length nodes₁) setup.quorum (state setup versions longer (length nodes₁) nodes₁ world.entries)
      (state setup versions longer (length nodes₁) l world.entries) place)
      (ap (λ (x : NodeState V). set nodes₁ place (X x.kept)) there ∙ set_twice world.nodes place node₁ (X node₁.kept)) r₁
      in
      let r₃ : model.RestartNode N setup.quorum (state setup versions longer N nodes₁ world.entries)
      (state setup versions longer N (set world.nodes place (X node₁.kept)) world.entries) place =
      subst (λ k. model.RestartNode k setup.quorum (state setup versions longer k nodes₁ world.entries)
      (state setup versions longer k (set world.nodes place (X node₁.kept)) world.entries) place) count₁ r₂
      in (
        after setup world versions descendant place longer effect s.halted.entries,
        ((fits setup world versions descendant call).to d.known effect d.decides).acts s.halted.entries s.halted.means,
        subst (λ (x : World V). model.RestartNode N setup.quorum (state setup versions longer N nodes₁ world.entries) (denoted setup versions longer x) place)
            (sym (s.halted.leaves ∙ ap (λ (y : Record V). with_node_at setup world place (X y) world.entries) kept_is))
            (subst (λ k. model.RestartNode N setup.quorum (state setup versions longer N nodes₁ world.entries)
            (state setup versions longer k (set world.nodes place (X node₁.kept)) world.entries) place)
            (sym (length-set world.nodes place (X node₁.kept))) r₃),
      )

  cut_is_the_models : CutIsTheModels setup world call fate versions descendant
  cut_is_the_models = record {
    answers = λ s. (stop s).halted.answers;
    keeps_old = λ s old. restarts (stop s) old;
    keeps_new = λ s new. acts_and_restarts (stop s) new;
  }

  -- every call ends in one of three ways
  ends : Taken setup (called setup world call fate)
      ⊎ (Stopped setup world call fate versions descendant ⊎ ((called setup world call fate).world ≡ world))
  ends = go (ended setup values world place fate (decision setup world call))
    where
      go : Ended setup values world place fate (decision setup world call)
          → Taken setup (called setup world call fate)
          ⊎ (Stopped setup world call fate versions descendant ⊎ ((called setup world call fate).world ≡ world))
      go (through t) = inl t
      go (halted h effect e room cut es means) =
          let d = (fits setup world versions descendant call).to h effect e in
          inr (inl (record {
            enabled = (_, d.acts es means);
            cut = subst (λ (o : Option (Effect V)). IsCut setup world fate o) (sym d.has) (room, cut);
          }))
      go (unmoved same) = inr (inr same)

-- A cluster that is opened is at the model's beginning.
module _ {V : Type 0} (setup : Setup V) (world : World V) (opened : Opened setup world) where
  fresh_at : (versions : List ℕ) (n : ℕ) → get_or (map (fresh_node setup) versions) n (blank setup) ≡ fresh_node setup (get_or versions n 0)
  fresh_at [] n = refl
  fresh_at (v ∷ versions) zero = refl
  fresh_at (v ∷ versions) (suc n) = fresh_at versions n

  node_at : (n : ℕ) → get_or world.nodes n (blank setup) ≡ fresh_node setup (get_or opened.versions n 0)
  node_at n = ap (λ (nodes : List (NodeState V)). get_or nodes n (blank setup)) opened.nodes ∙ fresh_at opened.versions n

  as_many : length world.nodes ≡ length opened.versions
  as_many = ap length opened.nodes ∙ length-map opened.versions (fresh_node setup)

  opening_is_the_models : model.Init (length world.nodes) setup.quorum (denoted setup (λ n. get_or opened.versions n 0) [] world)
  opening_is_the_models = record {
    c1 = subst (λ (es : List (Entry V)). all_meant (length world.nodes) es ≈ []) (sym opened.cleared) (λ x. (λ h. h, λ h. h));
    c2 = λ x. (λ h. h, λ h. h);
    c3 = subst (λ k. Configuration k setup.initial_configuration) (sym as_many)
        ((legal (length opened.versions) setup.initial_configuration).0 opened.legal);
    c6 = λ i n. (node_at n i).kept.current_term;
    c7 = λ i n. (node_at n i).kept.last_committed_configuration;
    c8 = λ i n. (node_at n i).kept.last_accepted_term;
    c9 = λ i n. (node_at n i).kept.last_accepted_version;
    c10 = (setup.initial_value, λ i n. (node_at n i).kept.last_accepted_value);
    c11 = (λ i n. (node_at n i).kept.last_accepted_configuration) ∙ sym (λ i n. (node_at n i).kept.last_committed_configuration);
    c12 = λ i n. (node_at n i).volatile.join_votes;
    c13 = λ i n. (node_at n i).volatile.started_join;
    c14 = λ i n. (node_at n i).volatile.election_won;
    c15 = λ i n. (node_at n i).volatile.last_published_version;
    c16 = (λ i n. (node_at n i).volatile.last_published_configuration) ∙ sym (λ i n. (node_at n i).kept.last_committed_configuration);
    c17 = λ i n. (node_at n i).volatile.publish_votes;
  }

pub steps_are_the_models : (V : Type 0) → StepsAreTheModels V
steps_are_the_models V = record {
  steps = λ setup values world call fate versions descendant. step_is_the_models setup world versions descendant values call fate;
  cuts = λ setup values world call fate versions descendant. cut_is_the_models setup world versions descendant values call fate;
  otherwise = λ setup values world call fate versions descendant. ends setup world versions descendant values call fate;
  opening = opening_is_the_models;
  opening_tied = λ setup world opened.
      subst (λ (es : List (Entry V)). Tied (messages_of es) []) (sym opened.cleared)
      (record { chains = λ d h. absurd h; bases = λ p h. absurd (let t = h.there in let z : ◌≡◌ {A = ℕ} 0 1 = cc in omega arith) });
  asserts = λ setup values world reached versions descendant σ' n a.
      asserted setup world versions descendant (reached_sound setup values world reached) σ' n a;
}
