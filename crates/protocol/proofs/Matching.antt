-- Each action of the model, and the tests and the effect of ours.
use Rattle.std.proofs.Common.{◌≡◌, ℕ, ◌<◌, ◌≤◌, Bool, true, false, cond, not, ◌&&◌, eqb, ltb, leb, ◌≢◌, ◌⊎◌, List, map, length, get_or, set, Some, None, sym, refl, ap, ◌∙◌, subst, inl, inr, ⊎_elim, arith}
use Rattle.std.proofs.lemmas.List.{get_or-set_same, get_or-set_other, append-nil}
use Rattle.std.proofs.lemmas.Bool.{cond-true, cond-false, cases_Bool, cases_eq, cases_order, eqb-true, eqb-false, eq-eqb, ne_eqb, leb-false, lt-leb, ltb-false, le-ltb, not-false, not-true, not_from_true, not_from_false, and_cases, and_left, and_right, or_parts, or_from}
use Rattle.quorum.specs.declared.node_set.NodeSet.{NodeSet}
use Rattle.quorum.specs.Sets.{nobody, with_node}
use Rattle.protocol.specs.declared.message.Join.{Join}
use Rattle.protocol.specs.declared.message.Publication.{Publication}
use Rattle.protocol.specs.declared.message.Response.{Response}
use Rattle.protocol.specs.declared.message.Commit.{Commit}
use Rattle.protocol.specs.declared.message.Message.TheVariants as message
use Rattle.protocol.specs.Decisions.{
  NodeState,
  Setup,
  Effect,
  same_set,
  elects,
  decides,
  bootstrap_tests,
  bootstrap_effect,
  start_join_tests,
  start_join_effect,
  publish_tests,
  publish_effect,
  join_tests,
  join_effect,
  publication_tests,
  publication_effect,
  response_tests,
  response_effect,
  commit_tests,
  commit_effect,
  restart_effect,
}
use Rattle.protocol.specs.Calls.{Entry, World}
use Rattle.protocol.specs.Model as model
use Rattle.protocol.specs.Model.{◌≈◌, ◌∪◌, ❴◌❵, ◌EXCEPT![◌]=◌, IF◌THEN◌ELSE◌, Nodes, State}
use Rattle.protocol.specs.Steps.{join_of, publication_of, response_of, commit_of, all_meant, blank, state, denoted}
use Rattle.protocol.proofs.Deciding.{Passed}
use Rattle.protocol.proofs.Sending.{same_bits}
use Rattle.protocol.proofs.Placing.{Means, node_after}

pub and_swap : (x y : Bool) → (x && y) ≡ (y && x)
and_swap true true = refl
and_swap true false = refl
and_swap false true = refl
and_swap false false = refl

-- tests of equal numbers and of sets, that do not refuse
pub equal_here : (a b : ℕ) → not (eqb a b) ≡ false → a ≡ b
equal_here a b p = eqb-true a b (not-false (eqb a b) p)

pub here_equal : (a b : ℕ) → a ≡ b → not (eqb a b) ≡ false
here_equal a b e = not_from_true (eqb a b) (eq-eqb a b e)

pub not_nobody : (s : NodeSet) → s ≢ nobody → eqb s.bits 0 ≡ false
not_nobody s h = ne_eqb s.bits 0 (λ e. h (same_bits s nobody (eq-eqb s.bits 0 e)))

pub bits_apart : (a b : NodeSet) → a ≢ b → same_set a b ≡ false
bits_apart a b h = ne_eqb a.bits b.bits (λ e. h (same_bits a b (eq-eqb a.bits b.bits e)))

pub bits_same : (a b : NodeSet) → a ≡ b → same_set a b ≡ true
bits_same a b e = eq-eqb a.bits b.bits (ap (λ (s : NodeSet). s.bits) e)

pub cases_set : (a b : NodeSet) → (a ≡ b) ⊎ (a ≢ b)
cases_set a b =
    ⊎_elim (λ t. inl (same_bits a b t)) (λ f. inr (λ e. eqb-false a.bits b.bits f (ap (λ (s : NodeSet). s.bits) e)))
    (cases_Bool (same_set a b))

-- an implication as a test that does not refuse
pub implied : (x y : Bool) → (x && not y) ≡ false → x ≡ true → y ≡ true
implied true y h e = not-false y h
implied false y h e = absurd (let z : ◌≡◌ {A = ℕ} 0 1 = cc in omega arith)

pub implies : (x y : Bool) → (x ≡ true → y ≡ true) → (x && not y) ≡ false
implies true y h = not_from_true y (h refl)
implies false y h = refl

same_set_of_messages : {X : Type 0} (a : List X) → a ≈ a
same_set_of_messages a x = (λ h. h, λ h. h)

module _ {V : Type 0} (setup : Setup V) (nodes : List (NodeState V)) (n : ℕ) (node' : NodeState V) (h : n < length nodes) where
  -- node n is another node: what is read of it has moved ..
  at_n : get_or (set nodes n node') n (blank setup) ≡ node'
  at_n = get_or-set_same nodes n node' (blank setup) h

  moved_at : {X : Type 0} (f : NodeState V → X) (x : X) → f node' ≡ x → (k : ℕ)
      → f (get_or (set nodes n node') k (blank setup)) ≡ cond (eqb k n) x (f (get_or nodes k (blank setup)))
  moved_at f x e k =
      ⊎_elim
      (λ (t : eqb k n ≡ true).
      ap (λ j. f (get_or (set nodes n node') j (blank setup))) (eqb-true k n t)
      ∙ ap f at_n ∙ e ∙ sym (cond-true (eqb k n) x (f (get_or nodes k (blank setup))) t))
      (λ (t : eqb k n ≡ false).
      ap f (get_or-set_other nodes n k node' (blank setup) (eqb-false k n t))
      ∙ sym (cond-false (eqb k n) x (f (get_or nodes k (blank setup))) t))
      (cases_Bool (eqb k n))

  moved : {X : Type 0} (f : NodeState V → X) (x : X) → f node' ≡ x
      → ◌≡◌ {A = ℕ → X} (λ k. f (get_or (set nodes n node') k (blank setup))) ((λ k. f (get_or nodes k (blank setup))) EXCEPT![ n ]= x)
  moved f x e = λ i k. moved_at f x e k i

  -- .. or stayed, and the others' has stayed
  stayed_at : {X : Type 0} (f : NodeState V → X) → f node' ≡ f (get_or nodes n (blank setup)) → (k : ℕ)
      → f (get_or (set nodes n node') k (blank setup)) ≡ f (get_or nodes k (blank setup))
  stayed_at f e k =
      ⊎_elim
      (λ (t : k ≡ n).
      ap (λ j. f (get_or (set nodes n node') j (blank setup))) t
      ∙ ap f at_n ∙ e ∙ sym (ap (λ j. f (get_or nodes j (blank setup))) t))
      (λ (t : k ≡ n → ⊥). ap f (get_or-set_other nodes n k node' (blank setup) t))
      (cases_eq k n)

  stayed : {X : Type 0} (f : NodeState V → X) → f node' ≡ f (get_or nodes n (blank setup))
      → ◌≡◌ {A = ℕ → X} (λ k. f (get_or (set nodes n node') k (blank setup))) (λ k. f (get_or nodes k (blank setup)))
  stayed f e = λ i k. stayed_at f e k i

-- what is read of a node
module _ {V : Type 0} where
  abbrev cT : NodeState V → ℕ
  cT x = x.kept.current_term

  abbrev lCC : NodeState V → NodeSet
  lCC x = x.kept.last_committed_configuration

  abbrev lAT : NodeState V → ℕ
  lAT x = x.kept.last_accepted_term

  abbrev lAV : NodeState V → ℕ
  lAV x = x.kept.last_accepted_version

  abbrev lAVal : NodeState V → V
  lAVal x = x.kept.last_accepted_value

  abbrev lAC : NodeState V → NodeSet
  lAC x = x.kept.last_accepted_configuration

  abbrev jV : NodeState V → NodeSet
  jV x = x.volatile.join_votes

  abbrev sJ : NodeState V → Bool
  sJ x = x.volatile.started_join

  abbrev eW : NodeState V → Bool
  eW x = x.volatile.election_won

  abbrev lPV : NodeState V → ℕ
  lPV x = x.volatile.last_published_version

  abbrev lPC : NodeState V → NodeSet
  lPC x = x.volatile.last_published_configuration

  abbrev pV : NodeState V → NodeSet
  pV x = x.volatile.publish_votes

module _ {V : Type 0} (setup : Setup V) (world : World V) (versions : ℕ → ℕ) (descendant : List model.Descendant) (n : ℕ) where
  -- the node, the states of the model before and after an effect
  abbrev pub the_node : NodeState V
  the_node = get_or world.nodes n (blank setup)

  abbrev pub N : ℕ
  N = length world.nodes

  abbrev pub before : State V
  before = denoted setup versions descendant world

  abbrev pub after : List model.Descendant → Effect V → List (Entry V) → State V
  after descendant' effect es = state setup versions descendant' N (set world.nodes n (node_after the_node effect)) es

  -- with no message the log means what it meant
  no_message : (es : List (Entry V)) → Means world None es → all_meant N es ≈ all_meant N world.entries
  no_message es m = subst (λ (l : List (model.Message V)). all_meant N es ≈ l) (append-nil (all_meant N world.entries)) (m N)

  mov : (effect : Effect V) → n < N → {X : Type 0} (f : NodeState V → X) (x : X) → f (node_after the_node effect) ≡ x
      → ◌≡◌ {A = ℕ → X} (λ k. f (get_or (set world.nodes n (node_after the_node effect)) k (blank setup)))
      ((λ k. f (get_or world.nodes k (blank setup))) EXCEPT![ n ]= x)
  mov effect h f x e = moved setup world.nodes n (node_after the_node effect) h f x e

  sty : (effect : Effect V) → n < N → {X : Type 0} (f : NodeState V → X) → f (node_after the_node effect) ≡ f the_node
      → ◌≡◌ {A = ℕ → X} (λ k. f (get_or (set world.nodes n (node_after the_node effect)) k (blank setup)))
      (λ k. f (get_or world.nodes k (blank setup)))
  sty effect h f e = stayed setup world.nodes n (node_after the_node effect) h f e

  -- RestartNode
  pub does_restart : n < N → (es : List (Entry V)) → Means world None es
      → model.RestartNode N setup.quorum before (after descendant (restart_effect setup the_node) es) n
  does_restart h es m =
      let E = restart_effect setup the_node in
      record {
        c1 = mov E h jV nobody refl;
        c2 = mov E h sJ false refl;
        c3 = mov E h eW false refl;
        c4 = mov E h lPV 0 refl;
        c5 = mov E h lPC (lAC the_node) refl;
        c6 = mov E h pV nobody refl;
        unchanged = (
          no_message es m,
          sty E h lAV refl,
          sty E h cT refl,
          sty E h lCC refl,
          same_set_of_messages descendant,
          sty E h lAT refl,
          sty E h lAVal refl,
          sty E h lAC refl,
          refl,
          refl,
          refl,
        );
      }

  -- SetInitialState
  pub does_bootstrap : n < N → Passed (bootstrap_tests setup the_node) → (es : List (Entry V)) → Means world None es
      → model.SetInitialState N setup.quorum before (after descendant (bootstrap_effect setup the_node) es) n
  does_bootstrap h p es m =
      let E = bootstrap_effect setup the_node in
      record {
        c1 = same_bits (lAC the_node) nobody (not-false (same_set (lAC the_node) nobody) p.0);
        c9 = mov E h lAC setup.initial_configuration refl;
        c10 = mov E h lAVal setup.initial_value refl;
        c11 = mov E h lCC setup.initial_configuration refl;
        unchanged = (
          same_set_of_messages descendant,
          refl,
          refl,
          no_message es m,
          sty E h lAT refl,
          sty E h lAV refl,
          sty E h lPV refl,
          sty E h lPC refl,
          sty E h eW refl,
          sty E h jV refl,
          sty E h pV refl,
          sty E h sJ refl,
          sty E h cT refl,
          refl,
        );
      }

  pub asks_bootstrap : (σ' : State V) → model.SetInitialState N setup.quorum before σ' n → Passed (bootstrap_tests setup the_node)
  asks_bootstrap σ' a = (not_from_true (same_set (lAC the_node) nobody) (bits_same (lAC the_node) nobody a.c1), tt)

  -- HandleCommit
  pub does_commit : (c : Commit) → n < N → Passed (commit_tests setup the_node c) → (es : List (Entry V)) → Means world None es
      → model.HandleCommit N setup.quorum before (after descendant (commit_effect setup the_node) es) n (model.Commit (commit_of c n))
  does_commit c h p es m =
      let E = commit_effect setup the_node in
      record {
        m = commit_of c n;
        c1 = refl;
        c2 = equal_here c.term (cT the_node) p.0;
        c3 = equal_here c.term (lAT the_node) p.1.0;
        c4 = equal_here c.version (lAV the_node) p.1.1.0;
        c5 = λ won. eqb-true (lAV the_node) (lPV the_node) (implied (eW the_node) (eqb (lAV the_node) (lPV the_node)) p.1.1.1.0 won);
        c6 = mov E h lCC (lAC the_node) refl;
        unchanged = (
          sty E h cT refl,
          sty E h jV refl,
          no_message es m,
          sty E h lAT refl,
          sty E h lAVal refl,
          sty E h sJ refl,
          sty E h eW refl,
          sty E h lAC refl,
          sty E h lAV refl,
          sty E h lPV refl,
          sty E h pV refl,
          sty E h lPC refl,
          refl,
          refl,
          refl,
          same_set_of_messages descendant,
        );
      }

  pub asks_commit : (c : Commit) (σ' : State V) → model.HandleCommit N setup.quorum before σ' n (model.Commit (commit_of c n))
      → Passed (commit_tests setup the_node c)
  asks_commit c σ' a =
      let e : commit_of c n ≡ a.m = cc a.c1 in
      let t : c.term ≡ a.m.term = ap (λ (x : model.CommitMessage). x.term) e in
      let v : c.version ≡ a.m.version = ap (λ (x : model.CommitMessage). x.version) e in (
        here_equal c.term (cT the_node) (t ∙ a.c2),
        (
          here_equal c.term (lAT the_node) (t ∙ a.c3),
          (
            here_equal c.version (lAV the_node) (v ∙ a.c4),
            (implies (eW the_node) (eqb (lAV the_node) (lPV the_node)) (λ won. eq-eqb (lAV the_node) (lPV the_node) (a.c5 won)), tt),
          ),
        ),
      )

  -- HandleStartJoin
  pub does_start_join : (d t : ℕ) → n < N → Passed (start_join_tests setup the_node t) → (es : List (Entry V))
      → Means world (start_join_effect setup the_node n d t).message es
      → model.HandleStartJoin N setup.quorum before (after descendant (start_join_effect setup the_node n d t) es) n d t
  does_start_join d t h p es m =
      let E = start_join_effect setup the_node n d t in
      record {
        c1 = leb-false t (cT the_node) p.0;
        c2 = mov E h cT t refl;
        c3 = mov E h lPV 0 refl;
        c4 = mov E h lPC (lAC the_node) refl;
        c5 = mov E h sJ true refl;
        c6 = mov E h eW false refl;
        c7 = mov E h jV nobody refl;
        c8 = mov E h pV nobody refl;
        c9 = m N;
        unchanged = (
          sty E h lCC refl,
          sty E h lAC refl,
          sty E h lAV refl,
          sty E h lAVal refl,
          sty E h lAT refl,
          same_set_of_messages descendant,
          refl,
          refl,
          refl,
        );
      }

  pub asks_start_join : (d t : ℕ) (σ' : State V) → model.HandleStartJoin N setup.quorum before σ' n d t
      → Passed (start_join_tests setup the_node t)
  asks_start_join d t σ' a = (lt-leb t (cT the_node) a.c1, tt)

  -- HandlePublishRequest
  pub does_publication : (q : Publication V) → n < N → Passed (publication_tests setup the_node q) → (es : List (Entry V))
      → Means world (publication_effect setup the_node n q).message es
      → model.HandlePublishRequest N setup.quorum before (after descendant (publication_effect setup the_node n q) es) n
      (model.PublishRequest (publication_of q n))
  does_publication q h p es m =
      let E = publication_effect setup the_node n q in
      record {
        m = publication_of q n;
        c1 = refl;
        c2 = equal_here q.term (cT the_node) p.0;
        c3 = λ same.
            ⊎_elim (λ no_match. absurd (eqb-false q.term (lAT the_node) no_match same)) (λ higher. leb-false q.version (lAV the_node) higher)
            (and_cases (eqb q.term (lAT the_node)) (leb q.version (lAV the_node)) p.1.0);
        c4 = mov E h lAT q.term refl;
        c5 = mov E h lAV q.version refl;
        c6 = mov E h lAVal q.value refl;
        c7 = mov E h lAC q.configuration refl;
        c8 = mov E h lCC q.committed_configuration refl;
        c9 = m N;
        unchanged = (
          sty E h sJ refl,
          sty E h cT refl,
          same_set_of_messages descendant,
          sty E h lPC refl,
          sty E h eW refl,
          sty E h lPV refl,
          sty E h jV refl,
          sty E h pV refl,
          refl,
          refl,
          refl,
        );
      }

  pub asks_publication : (q : Publication V) (σ' : State V)
      → model.HandlePublishRequest N setup.quorum before σ' n (model.PublishRequest (publication_of q n))
      → Passed (publication_tests setup the_node q)
  asks_publication q σ' a =
      let e : publication_of q n ≡ a.m = cc a.c1 in
      let t : q.term ≡ a.m.term = ap (λ (x : model.PublishRequestMessage V). x.term) e in
      let v : q.version ≡ a.m.version = ap (λ (x : model.PublishRequestMessage V). x.version) e in
      let higher : q.term ≡ lAT the_node → lAV the_node < q.version =
      λ same. subst (λ x. lAV the_node < x) (sym v) (a.c3 (sym t ∙ same))
      in (
        here_equal q.term (cT the_node) (t ∙ a.c2),
        (
          ⊎_elim (λ same. and_right (eqb q.term (lAT the_node)) (leb q.version (lAV the_node)) (lt-leb q.version (lAV the_node) (higher same)))
              (λ apart. and_left (eqb q.term (lAT the_node)) (leb q.version (lAV the_node)) (ne_eqb q.term (lAT the_node) apart))
              (cases_eq q.term (lAT the_node)),
          tt,
        ),
      )

  -- HandleClientValue
  pub does_publish : (t v : ℕ) (value : V) (cfg : NodeSet) → n < N → Passed (publish_tests setup the_node t v cfg) → (es : List (Entry V))
      → Means world (publish_effect setup the_node n t v value cfg).message es
      → model.HandleClientValue N setup.quorum before
      (after (descendant ∪ ❴ model.newEntry N setup.quorum before n t v ❵ ∪ model.newTransitiveElems N setup.quorum before n t v)
      (publish_effect setup the_node n t v value cfg) es) n t v value cfg
  does_publish t v value cfg h p es m =
      let E = publish_effect setup the_node n t v value cfg in
      record {
        c1 = not-false (eW the_node) p.0;
        c2 = equal_here (lPV the_node) (lAV the_node) p.1.0;
        c3 = equal_here t (cT the_node) p.1.1.0;
        c4 = leb-false v (lPV the_node) p.1.1.1.0;
        c5 = λ other. same_bits (lCC the_node) (lAC the_node)
            (implied (not (same_set cfg (lAC the_node))) (same_set (lCC the_node) (lAC the_node)) p.1.1.1.1.0
            (not_from_false (same_set cfg (lAC the_node)) (bits_apart cfg (lAC the_node) other)));
        c6 = not-false (setup.quorum (jV the_node) cfg) p.1.1.1.1.1.0;
        c7 = same_set_of_messages _;
        c8 = mov E h lPV v refl;
        c9 = mov E h lPC cfg refl;
        c10 = mov E h pV nobody refl;
        c11 = m N;
        unchanged = (
          sty E h sJ refl,
          sty E h lCC refl,
          sty E h cT refl,
          sty E h eW refl,
          sty E h lAV refl,
          sty E h lAVal refl,
          sty E h lAT refl,
          sty E h lAC refl,
          sty E h jV refl,
          refl,
          refl,
          refl,
        );
      }

  pub asks_publish : (t v : ℕ) (value : V) (cfg : NodeSet) (σ' : State V)
      → model.HandleClientValue N setup.quorum before σ' n t v value cfg → Passed (publish_tests setup the_node t v cfg)
  asks_publish t v value cfg σ' a = (
    not_from_true (eW the_node) a.c1,
    (
      here_equal (lPV the_node) (lAV the_node) a.c2,
      (
        here_equal t (cT the_node) a.c3,
        (
          lt-leb v (lPV the_node) a.c4,
          (
            implies (not (same_set cfg (lAC the_node))) (same_set (lCC the_node) (lAC the_node))
                (λ other. bits_same (lCC the_node) (lAC the_node)
                (a.c5 (λ same. eqb-false cfg.bits (lAC the_node).bits (not-true (same_set cfg (lAC the_node)) other)
                (ap (λ (s : NodeSet). s.bits) same)))),
            (not_from_true (setup.quorum (jV the_node) cfg) a.c6, tt),
          ),
        ),
      ),
    ),
  )

  -- HandleJoin
  pub does_join : (j : Join) → n < N → Passed (join_tests setup the_node j) → (es : List (Entry V)) → Means world None es
      → model.HandleJoin N setup.quorum before (after descendant (join_effect setup the_node j) es) n (model.Join (join_of j))
  does_join j h p es m =
      let E = join_effect setup the_node j in
      let votes : NodeSet = with_node j.source (jV the_node) in
      let node' = node_after the_node (join_effect setup the_node j) in
      let here : get_or (set world.nodes n node') n (blank setup) ≡ node' = at_n setup world.nodes n node' h in
      let ahead = or_parts (ltb (lAT the_node) j.base_term) (eqb j.base_term (lAT the_node) && ltb (lAV the_node) j.base_version) p.1.1.0 in
      let not_later : j.base_term ≤ lAT the_node = ltb-false (lAT the_node) j.base_term ahead.0 in
      let P : Type 0 = ◌≡◌ {A = ℕ → ℕ} (after descendant E es).lastPublishedVersion (before.lastPublishedVersion EXCEPT![ n ]= lAV the_node) in
      let Q : Type 0 = ◌≡◌ {A = ℕ → ℕ} (after descendant E es).lastPublishedVersion before.lastPublishedVersion in
      let won : Bool = elects setup the_node votes && not (eW the_node) in
      let test : (not (eW the_node) && (after descendant E es).electionWon n) ≡ won =
      ap (λ (x : NodeState V). not (eW the_node) && eW x) here ∙ and_swap (not (eW the_node)) (elects setup the_node votes)
      in
      record {
        m = join_of j;
        c1 = refl;
        c2 = equal_here j.term (cT the_node) p.0;
        c3 = not-false (sJ the_node) p.1.0;
        c4 = ⊎_elim
            (λ (apart : eqb j.base_term (lAT the_node) ≡ false).
            let ne = eqb-false j.base_term (lAT the_node) apart in
            inl (⊎_elim (λ same. absurd (ne same)) (λ other. lower j.base_term (lAT the_node) not_later other) (cases_eq j.base_term (lAT the_node))))
            (λ (low : ltb (lAV the_node) j.base_version ≡ false).
            let le = ltb-false (lAV the_node) j.base_version low in
            ⊎_elim (λ same. inr (same, le)) (λ other. inl (lower j.base_term (lAT the_node) not_later other)) (cases_eq j.base_term (lAT the_node)))
            (and_cases (eqb j.base_term (lAT the_node)) (ltb (lAV the_node) j.base_version) ahead.1);
        c5 = λ empty. eqb-false (lAC the_node).bits 0 p.1.1.1.0 (ap (λ (s : NodeSet). s.bits) empty);
        c6 = mov E h jV votes refl;
        c7 = mov E h eW (model.IsElectionQuorum N setup.quorum before n ((after descendant E es).joinVotes n))
            (and_swap (setup.quorum votes (lAC the_node)) (setup.quorum votes (lCC the_node))
            ∙ ap (λ (x : NodeState V). setup.quorum (jV x) (lCC the_node) && setup.quorum (jV x) (lAC the_node)) (sym here));
        c8 = subst (λ (b : Bool). IF b THEN P ELSE Q) (sym test)
            (decide won P Q
            (λ t. mov E h lPV (lAV the_node) (cond-true won (lAV the_node) (lPV the_node) t))
            (λ f. sty E h lPV (cond-false won (lAV the_node) (lPV the_node) f)));
        unchanged = (
          sty E h lCC refl,
          sty E h cT refl,
          sty E h pV refl,
          no_message es m,
          same_set_of_messages descendant,
          sty E h lAV refl,
          sty E h lAVal refl,
          sty E h lAC refl,
          sty E h lAT refl,
          sty E h sJ refl,
          sty E h lPC refl,
          refl,
          refl,
          refl,
        );
      }
    where
      lower : (a b : ℕ) → a ≤ b → (a ≡ b → ⊥) → a < b
      lower a b le ne = ⊎_elim (λ e. absurd (ne e)) (λ o. ⊎_elim (λ l. l) (λ g. absurd (omega arith)) o) (cases_order a b)

      decide : (c : Bool) (P Q : Type 0) → (c ≡ true → P) → (c ≡ false → Q) → IF c THEN P ELSE Q
      decide true P Q x y = x refl
      decide false P Q x y = y refl

  pub asks_join : (j : Join) (σ' : State V) → model.HandleJoin N setup.quorum before σ' n (model.Join (join_of j))
      → Passed (join_tests setup the_node j)
  asks_join j σ' a =
      let e : join_of j ≡ a.m = cc a.c1 in
      let t : j.term ≡ a.m.term = ap (λ (x : model.JoinMessage). x.term) e in
      let bt : j.base_term ≡ a.m.laTerm = ap (λ (x : model.JoinMessage). x.laTerm) e in
      let bv : j.base_version ≡ a.m.laVersion = ap (λ (x : model.JoinMessage). x.laVersion) e in
      let c4 : (j.base_term < lAT the_node) ⊎ ((j.base_term ≡ lAT the_node) × (j.base_version ≤ lAV the_node)) =
      ⊎_elim (λ l. inl (subst (λ x. x < lAT the_node) (sym bt) l))
      (λ r. inr (bt ∙ r.0, subst (λ x. x ≤ lAV the_node) (sym bv) r.1)) a.c4
      in (
        here_equal j.term (cT the_node) (t ∙ a.c2),
        (
          not_from_true (sJ the_node) a.c3,
          (
            ⊎_elim
                (λ l. or_from (ltb (lAT the_node) j.base_term) _ (le-ltb (lAT the_node) j.base_term (omega arith))
                (and_left (eqb j.base_term (lAT the_node)) (ltb (lAV the_node) j.base_version) (ne_eqb j.base_term (lAT the_node) (λ q. omega arith))))
                (λ r. or_from (ltb (lAT the_node) j.base_term) _ (le-ltb (lAT the_node) j.base_term (omega arith))
                (and_right (eqb j.base_term (lAT the_node)) (ltb (lAV the_node) j.base_version) (le-ltb (lAV the_node) j.base_version r.1)))
                c4,
            (not_nobody (lAC the_node) a.c5, tt),
          ),
        ),
      )

  -- HandlePublishResponse
  pub does_response : (q : Response) → n < N → Passed (response_tests setup the_node q) → (es : List (Entry V))
      → Means world (response_effect setup the_node n q).message es
      → model.HandlePublishResponse N setup.quorum before (after descendant (response_effect setup the_node n q) es) n
      (model.PublishResponse (response_of q))
  does_response q h p es m =
      let E = response_effect setup the_node n q in
      let votes : NodeSet = with_node q.source (pV the_node) in
      let node' = node_after the_node (response_effect setup the_node n q) in
      let here : get_or (set world.nodes n node') n (blank setup) ≡ node' = at_n setup world.nodes n node' h in
      let c3 = equal_here q.term (cT the_node) p.1.0 in
      let c4 = equal_here q.version (lPV the_node) p.1.1.0 in
      let test : model.IsPublishQuorum N setup.quorum before n ((after descendant E es).publishVotes n) ≡ decides setup the_node votes =
      ap (λ (x : NodeState V). setup.quorum (pV x) (lCC the_node) && setup.quorum (pV x) (lPC the_node)) here
      in
      record {
        m = response_of q;
        c1 = refl;
        c2 = not-false (eW the_node) p.0;
        c3 = c3;
        c4 = c4;
        c5 = mov E h pV votes refl;
        c6 = subst (λ (b : Bool). IF b THEN all_meant N es ≈ all_meant N world.entries ∪ model.commitRequests N setup.quorum before n ELSE (all_meant N es ≈ all_meant N world.entries))
            (sym test) (sends c3 c4 (decides setup the_node votes) m);
        unchanged = (
          sty E h sJ refl,
          sty E h lCC refl,
          sty E h cT refl,
          sty E h eW refl,
          same_set_of_messages descendant,
          sty E h lAV refl,
          sty E h lAVal refl,
          sty E h lAT refl,
          sty E h lAC refl,
          sty E h lPV refl,
          sty E h lPC refl,
          sty E h jV refl,
          refl,
          refl,
          refl,
        );
      }
    where
      sends : q.term ≡ cT the_node → q.version ≡ lPV the_node → (b : Bool)
          → Means world (cond b (Some (message.Commit (record { source = n; term = q.term; version = q.version }))) None) es
          → IF b THEN all_meant N es ≈ all_meant N world.entries ∪ model.commitRequests N setup.quorum before n
          ELSE (all_meant N es ≈ all_meant N world.entries)
      sends e f true k =
          subst (λ (l : List (model.Message V)). all_meant N es ≈ all_meant N world.entries ∪ l)
          (λ i. map (λ ns. model.Commit (record { source = n; dest = ns; term = e i; version = f i })) (Nodes N)) (k N)
      sends e f false k = no_message es k

  pub asks_response : (q : Response) (σ' : State V)
      → model.HandlePublishResponse N setup.quorum before σ' n (model.PublishResponse (response_of q))
      → Passed (response_tests setup the_node q)
  asks_response q σ' a =
      let e : response_of q ≡ a.m = cc a.c1 in
      let t : q.term ≡ a.m.term = ap (λ (x : model.PublishResponseMessage). x.term) e in
      let v : q.version ≡ a.m.version = ap (λ (x : model.PublishResponseMessage). x.version) e in (
        not_from_true (eW the_node) a.c2,
        (
          here_equal q.term (cT the_node) (t ∙ a.c3),
          (here_equal q.version (lPV the_node) (v ∙ a.c4), tt),
        ),
      )
