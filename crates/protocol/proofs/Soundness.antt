-- The invariant of runs: a node is as at the beginning or has legal configurations, and every message is legal.
use Rattle.std.proofs.Common.{◌≡◌, ℕ, zero, suc, ◌<◌, Bool, true, false, cond, ltb, ◌≢◌, List, [], ◌∷◌, map, length, get_or, set, Some, None, Ok, Err, Decides, Option, Result, sym, refl, ap, ◌∙◌, subst, ⊎_elim, arith}
use Rattle.std.specs.List.{slice_get}
use Rattle.std.proofs.lemmas.List.{length-set, length-map, get_or-set_same, get_or-set_other}
use Rattle.std.proofs.lemmas.Bool.{and_parts, and_from, ltb-true, lt-ltb, leb-false, eqb-false, cases_eq, cases_Bool, cond-true, cond-false, not-false, both_ways}
use Rattle.quorum.specs.declared.node_set.NodeSet.{NodeSet}
use Rattle.quorum.specs.Sets.{nobody, with_node, legal_configuration}
use Rattle.protocol.specs.Messages.{is_for}
use Rattle.protocol.specs.declared.message.Message.{Message}
use Rattle.protocol.specs.declared.message.Message.TheVariants as message
use Rattle.protocol.specs.declared.record.Record.{Record}
use Rattle.protocol.specs.declared.refusal.Refusal.{Refusal}
use Rattle.protocol.specs.Changes.{changed}
use Rattle.protocol.specs.Decisions.{
  NodeState,
  Setup,
  Effect,
  Test,
  decided,
  restarted,
  bootstrap_tests,
  bootstrap_effect,
  start_join_tests,
  start_join_effect,
  publish_tests,
  publish_effect,
  join_tests,
  join_effect,
  publication_tests,
  publication_effect,
  response_tests,
  decides,
  response_effect,
  commit_tests,
  commit_effect,
  restart_effect,
  deliver_decided,
}
use Rattle.protocol.specs.Calls.{Entry, entries_of, World, Fate, Call, bootstrap, start_join, publish, deliver, restart, fresh_node, called, node_called, decision, decided_on, carried_out, if_known, with_node_at}
use Rattle.protocol.specs.Messages.{legal_message}
use Rattle.protocol.specs.Runs.{Opened, Reached, at_opening, by_call}
use Rattle.protocol.specs.Steps.{blank}
use Rattle.protocol.proofs.Log.{Has, impossible, sent_adds}
use Rattle.protocol.proofs.Deciding.{Passed, taken}
use Rattle.protocol.proofs.Carrying.{changed_by, Sends, Left, as_it_was, done, cut, left}
use Rattle.protocol.proofs.CallsAreSteps.{nth_below, nth_getD, readable_entry}
use Rattle.protocol.proofs.Placing.{node_after}

-- what holds of a node while its accepted configuration is empty
pub record Bare {V : Type 0} (node : NodeState V) : Type 0 where
  pub term : node.kept.last_accepted_term ≡ 0
  pub committed : node.kept.last_committed_configuration ≡ nobody
  pub published : node.volatile.last_published_version ≡ 0
  pub configuration : node.volatile.last_published_configuration ≡ nobody
  pub lost : node.volatile.election_won ≡ false
  pub joins : node.volatile.join_votes ≡ nobody
  pub votes : node.volatile.publish_votes ≡ nobody

-- both configurations of a record are legal among N nodes
abbrev pub LegalRecord : {V : Type 0} → ℕ → Record V → Type 0
LegalRecord N r =
    (legal_configuration N r.last_accepted_configuration ≡ true)
    × (legal_configuration N r.last_committed_configuration ≡ true)

-- of a node among N: its accepted configuration is empty, or both its configurations are legal
pub data Configured {V : Type 0} (N : ℕ) (node : NodeState V) : Type 0 where
  unset : node.kept.last_accepted_configuration ≡ nobody → Bare node → Configured N node
  legal : LegalRecord N node.kept → Configured N node

pub legal_not_empty : (N : ℕ) (s : NodeSet) → legal_configuration N s ≡ true → s ≢ nobody
legal_not_empty N s h e =
    let p = and_parts (ltb 0 s.bits) _ h in
    let l = ltb-true 0 s.bits p.0 in
    let z : s.bits ≡ 0 = ap (λ (x : NodeSet). x.bits) e in
    omega arith

module _ {V : Type 0} {N : ℕ} {node : NodeState V} where
  pub bare_where_empty : Configured N node → node.kept.last_accepted_configuration ≡ nobody → Bare node
  bare_where_empty (unset e b) empty = b
  bare_where_empty (legal both) empty = absurd (legal_not_empty N _ both.0 empty)

  -- both are legal where the accepted one is not empty, and where the election is won
  accepted_legal : Configured N node → node.kept.last_accepted_configuration ≢ nobody → LegalRecord N node.kept
  accepted_legal (unset e b) some = absurd (some e)
  accepted_legal (legal both) some = both

  pub won_legal : Configured N node → node.volatile.election_won ≡ true → LegalRecord N node.kept
  won_legal (unset e b) won = absurd (both_ways node.volatile.election_won b.lost won)
  won_legal (legal both) won = both

  after-restart : Configured N node → Configured N (record { kept = node.kept; volatile = restarted node.kept })
  after-restart (unset e b) =
      unset e (record { term = b.term; committed = b.committed; published = refl; configuration = e; lost = refl; joins = refl; votes = refl })
  after-restart (legal both) = legal both

module _ {V : Type 0} (setup : Setup V) where
  -- of a world with N nodes: every node, every message in its log, and the initial configuration
  pub record SoundAmong (N : ℕ) (world : World V) : Type 0 where
    pub log : List (Message V)
    pub readable : world.entries ≡ entries_of log
    pub nodes : (n : ℕ) → Configured N (get_or world.nodes n (blank setup))
    pub messages : (m : Message V) → Has log m → legal_message N m ≡ true
    pub initial : legal_configuration N setup.initial_configuration ≡ true

  abbrev pub Sound : World V → Type 0
  Sound world = SoundAmong (length world.nodes) world

  -- an entry of a world's log is one of the messages
  pub in_the_log : {N : ℕ} {world : World V} (sound : SoundAmong N world) (e : ℕ) (m : Message V)
      → slice_get world.entries e ≡ Some (Ok m) → Has sound.log m
  in_the_log {N} {world} sound e m h =
      record { entry = e; there = readable_entry sound.log e m (sym (ap (λ (es : List (Entry V)). slice_get es e) sound.readable) ∙ h) }

  -- of the message that an effect sends, if it sends one
  abbrev pub Legal : ℕ → Option (Message V) → Type 0
  Legal N None = Unit {0}
  Legal N (Some m) = legal_message N m ≡ true

  -- of an effect
  record Good (N : ℕ) (node : NodeState V) (effect : Effect V) : Type 0 where
    configured : Configured N (node_after node effect)
    sends : Legal N effect.message

  module _ (world : World V) (sound : Sound world) (node : NodeState V) (u : Configured (length world.nodes) node) where
    abbrev N : ℕ
    N = length world.nodes

    by_tests : (tests : List Test) (effect e : Effect V) → (Passed tests → Good N node effect) → decided tests effect ≡ Ok e → Good N node e
    by_tests tests effect e good h =
        let t = taken tests effect e h in
        subst (Good N node) t.1 (good t.0)

    -- a message is delivered to node n
    module _ (n : ℕ) (known : n < N) (e : Effect V) where
      by_kind : (m : Message V) → legal_message N m ≡ true → deliver_decided setup node n m ≡ Ok e → Good N node e
      by_kind (message.Join m) l =
          by_tests (join_tests setup node m) (join_effect setup node m) e
          (λ p. record {
            configured = legal (accepted_legal u (λ empty.
                eqb-false node.kept.last_accepted_configuration.bits 0 p.1.1.1.0 (ap (λ (s : NodeSet). s.bits) empty)));
            sends = tt;
          })
      by_kind (message.Publication m) l =
          let source = and_parts (ltb m.source N) _ l in
          let both = and_parts (legal_configuration N m.configuration) _ source.1 in
          by_tests (publication_tests setup node m) (publication_effect setup node n m) e
          (λ p. record {
            configured = legal both;
            sends = and_from (ltb n N) (ltb m.source N) (lt-ltb n N known) source.0;
          })
      by_kind (message.Response m) l =
          by_tests (response_tests setup node m) (response_effect setup node n m) e
          (λ p. record {
            configured = legal (won_legal u (not-false node.volatile.election_won p.0));
            sends = committed (decides setup node (with_node m.source node.volatile.publish_votes));
          })
        where
          committed : (b : Bool) → Legal N (cond b (Some (message.Commit (record { source = n; term = m.term; version = m.version }))) None)
          committed true = lt-ltb n N known
          committed false = tt
      by_kind (message.Commit m) l =
          by_tests (commit_tests setup node m) (commit_effect setup node) e
          (λ p. record { configured = marked u; sends = tt })
        where
          marked : Configured N node → Configured N (node_after node (commit_effect setup node))
          marked (unset empty b) = unset empty (record {
            term = b.term;
            committed = empty;
            published = b.published;
            configuration = b.configuration;
            lost = b.lost;
            joins = b.joins;
            votes = b.votes;
          })
          marked (legal both) = legal (both.0, both.0)

      good_delivery : (found : Option (Entry V)) → ((m : Message V) → found ≡ Some (Ok m) → Has sound.log m)
          → decided_on setup world n node found ≡ Ok e → Good N node e
      good_delivery None in-log h = impossible cc
      good_delivery (Some (Err why)) in-log h = impossible cc
      good_delivery (Some (Ok m)) in-log h =
          ⊎_elim
          (λ (t : is_for n m ≡ true). by_kind m (sound.messages m (in-log m refl)) (sym (cond-true (is_for n m) _ _ t) ∙ h))
          (λ (f : is_for n m ≡ false).
          let q : ◌≡◌ {A = Result (Effect V) Refusal} (Err _) (Ok e) = sym (cond-false (is_for n m) _ _ f) ∙ h in
          impossible cc)
          (cases_Bool (is_for n m))

    good : (call : Call V) → node_called setup world call < N → (e : Effect V) → decision setup world call node ≡ Ok e → Good N node e
    good (bootstrap n) known e =
        by_tests (bootstrap_tests setup node) (bootstrap_effect setup node) e
        (λ p. record { configured = legal (sound.initial, sound.initial); sends = tt })
    good (start_join n d t) known e =
        by_tests (_ ∷ start_join_tests setup node t) (start_join_effect setup node n d t) e
        (λ p. record {
          configured = joined u;
          sends = and_from (ltb n N) (ltb d N) (lt-ltb n N known) (lt-ltb d N (leb-false N d p.0));
        })
      where
        joined : Configured N node → Configured N (node_after node (start_join_effect setup node n d t))
        joined (unset empty b) = unset empty (record {
          term = b.term;
          committed = b.committed;
          published = refl;
          configuration = empty;
          lost = refl;
          joins = refl;
          votes = refl;
        })
        joined (legal both) = legal both
    good (publish n t v value configuration) known e =
        by_tests (_ ∷ publish_tests setup node t v configuration) (publish_effect setup node n t v value configuration) e
        (λ p.
        let both = won_legal u (not-false node.volatile.election_won p.1.0) in
        record {
          configured = legal both;
          sends = and_from (ltb n N) _ (lt-ltb n N known)
              (and_from (legal_configuration N configuration) _ (not-false (legal_configuration N configuration) p.0) both.1);
        })
    good (deliver f n) known e = good_delivery n known e (slice_get world.entries f) (in_the_log sound f)
    good (restart n) known e = by_tests [] (restart_effect setup node) e (λ p. record { configured = after-restart u; sends = tt })

  -- the world with another node, and with this log
  sound_after : (world : World V) → Sound world → (n : ℕ) → n < length world.nodes → (node : NodeState V) → Configured (length world.nodes) node
      → (log' : List (Message V)) → ((m : Message V) → Has log' m → legal_message (length world.nodes) m ≡ true)
      → Sound (with_node_at setup world n node (entries_of log'))
  sound_after world sound n known node u log' ms =
      subst (λ (N : ℕ). SoundAmong N (with_node_at setup world n node (entries_of log'))) (sym (length-set world.nodes n node))
      (record {
        log = log';
        readable = refl;
        nodes = λ k.
            ⊎_elim
            (λ (t : k ≡ n).
            subst (Configured (length world.nodes))
            (sym (ap (λ j. get_or (set world.nodes n node) j (blank setup)) t ∙ get_or-set_same world.nodes n node (blank setup) known)) u)
            (λ (t : k ≡ n → ⊥).
            subst (Configured (length world.nodes)) (sym (get_or-set_other world.nodes n k node (blank setup) t)) (sound.nodes k))
            (cases_eq k n);
        messages = ms;
        initial = sound.initial;
      })

  -- all nodes are fresh, and the log is cleared
  opened_sound : (world : World V) → Opened setup world → Sound world
  opened_sound world opened = record {
    log = [];
    readable = opened.cleared;
    nodes = λ n.
        subst (λ (nodes : List (NodeState V)). Configured (length world.nodes) (get_or nodes n (blank setup))) (sym opened.nodes)
        (fresh opened.versions n);
    messages = λ m h. let t = h.there in impossible cc;
    initial = subst (λ (N : ℕ). legal_configuration N setup.initial_configuration ≡ true)
        (sym (ap length opened.nodes ∙ length-map opened.versions (fresh_node setup))) opened.legal;
  }
    where
      at : (v : ℕ) → Configured (length world.nodes) (fresh_node setup v)
      at v = unset refl (record { term = refl; committed = refl; published = refl; configuration = refl; lost = refl; joins = refl; votes = refl })

      fresh : (versions : List ℕ) (n : ℕ) → Configured (length world.nodes) (get_or (map (fresh_node setup) versions) n (blank setup))
      fresh [] n = at 0
      fresh (v ∷ versions) zero = at v
      fresh (v ∷ versions) (suc n) = fresh versions n

  module _ (values : (x y : V) → Decides (setup.same_value x y) (x ≡ y)) where
    call_sound : (world : World V) → Sound world → (call : Call V) (fate : Fate) → Sound (called setup world call fate).world
    call_sound world sound call fate = go (slice_get world.nodes n) refl
      where
        n : ℕ
        n = node_called setup world call

        all_legal : (mo : Option (Message V)) → Legal (length world.nodes) mo → (log' : List (Message V)) → Sends sound.log log' mo
            → (m : Message V) → Has log' m → legal_message (length world.nodes) m ≡ true
        all_legal None l log' s m has = sound.messages m (subst (λ (ms : List (Message V)). Has ms m) s has)
        all_legal (Some x) l log' s m has =
            ⊎_elim (λ old. sound.messages m old) (λ (new : m ≡ x). rw new l) ((sent_adds s).new m has)

        carried : n < length world.nodes → (node : NodeState V) → Configured (length world.nodes) node
            → (effect : Effect V) → Good (length world.nodes) node effect → (after : World V)
            → Left setup values world sound.log sound.readable n node effect after → Sound after
        carried known node u effect g after (as_it_was e) = subst Sound (sym e) sound
        carried known node u effect g after (done log' s e) =
            subst Sound (sym e)
            (sound_after world sound n known (node_after node effect) g.configured log' (all_legal effect.message g.sends log' s))
        carried known node u effect g after (cut change c kept which e) =
            subst Sound (sym (e ∙ ap (with_node_at setup world n (record { kept = kept; volatile = restarted kept })) sound.readable))
            (sound_after world sound n known (record { kept = kept; volatile = restarted kept })
            (⊎_elim
            (λ (old : kept ≡ node.kept). again (sym old) (after-restart u))
            (λ (new : kept ≡ changed change node.kept).
            again (ap (λ o. changed_by o node.kept) c ∙ sym new) (after-restart g.configured))
            which)
            sound.log sound.messages)
          where
            again : {r r' : Record V} → r ≡ r' → Configured (length world.nodes) (record { kept = r; volatile = restarted r })
                → Configured (length world.nodes) (record { kept = r'; volatile = restarted r' })
            again same = subst (λ (r : Record V). Configured (length world.nodes) (record { kept = r; volatile = restarted r })) same

        go : (found : Option (NodeState V)) → slice_get world.nodes n ≡ found → Sound (if_known setup world n fate (decision setup world call) found).world
        go None is = sound
        go (Some node) is = decide (decision setup world call node) refl
          where
            known : n < length world.nodes
            known = nth_below world.nodes n node is

            configured : Configured (length world.nodes) node
            configured = subst (Configured (length world.nodes)) (sym (nth_getD world.nodes n node (blank setup) is)) (sound.nodes n)

            decide : (r : Result (Effect V) Refusal) → decision setup world call node ≡ r → Sound (carried_out setup world n node fate r).world
            decide (Err why) e = sound
            decide (Ok effect) e =
                carried known node configured effect (good world sound node configured call known effect e) _
                (left setup values world sound.log sound.readable n node fate effect)

    -- the message that a call on a sound world sends, if it sends one, is legal
    pub sends_legal : (world : World V) → Sound world → (call : Call V) (node : NodeState V) → slice_get world.nodes (node_called setup world call) ≡ Some node
        → (effect : Effect V) → decision setup world call node ≡ Ok effect → Legal (length world.nodes) effect.message
    sends_legal world sound call node is effect e =
        let n = node_called setup world call in
        let configured = subst (Configured (length world.nodes)) (sym (nth_getD world.nodes n node (blank setup) is)) (sound.nodes n) in
        (good world sound node configured call (nth_below world.nodes n node is) effect e).sends

    pub reached_sound : (world : World V) → Reached setup world → Sound world
    reached_sound world (at_opening opened) = opened_sound world opened
    reached_sound _ (by_call {world} r call fate) = call_sound world (reached_sound world r) call fate
