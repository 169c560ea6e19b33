-- On runs the model's set descendant is descent, as read from the publications in the log.
use Rattle.std.proofs.Common.{◌≡◌, ℕ, ◌<◌, Bool, true, false, cond, ◌&&◌, eqb, ◌⊎◌, List, [], ◌∷◌, ◌++◌, map, length, get_or, Some, None, Ok, Err, Option, Result, sym, refl, ap, ◌∙◌, subst, inl, inr, ⊎_elim, arith}
use Rattle.std.specs.List.{slice_get}
use Rattle.std.proofs.lemmas.Bool.{and_parts, and_from, eqb-true, eq-eqb}
use Rattle.protocol.specs.declared.change.Change.{Change}
use Rattle.protocol.specs.declared.message.Message.{Message}
use Rattle.protocol.specs.declared.message.Message.TheVariants as message
use Rattle.protocol.specs.declared.message.Publication.{Publication}
use Rattle.protocol.specs.declared.refusal.Refusal.{Refusal}
use Rattle.protocol.specs.Decisions.{Setup, Effect, publish_effect}
use Rattle.protocol.specs.Calls.{Entry, entries_of, World, Fate, Outcome, Call, bootstrap, start_join, publish, deliver, restart, called, node_called, decision}
use Rattle.protocol.specs.History.{Descends, from_base, by_base}
use Rattle.protocol.specs.Runs.{Lawful, Opened, Reached}
use Rattle.protocol.specs.Runs as runs
use Rattle.protocol.specs.Model as model
use Rattle.protocol.specs.Model.{◌∈◌, ◌∪◌, ❴◌❵, such_that}
use Rattle.protocol.specs.Steps.{messages_of, Tied, blank, effect_of, descendant_after, Room, CutShort, Taken}
use Rattle.protocol.specs.Traces.{descendant_then, Traced, at_opening, by_call, pair, DescendantIsDescent}
use Rattle.protocol.proofs.Setting.{Setting}
use Rattle.protocol.proofs.Log as messages
use Rattle.protocol.proofs.Log.{Has}
use Rattle.protocol.proofs.Certificates as certificate
use Rattle.protocol.proofs.Certificates.{published_has}
use Rattle.protocol.proofs.LogInvariant.{LogInvariant}
use Rattle.protocol.proofs.Safety.{reached_has_invariant}
use Rattle.protocol.proofs.Carrying.{Sends}
use Rattle.protocol.proofs.Unsplit.{stepped, the_setting}
use Rattle.protocol.proofs.Placing.{in_left, in_right, in_either, went, Ended, ended, through, halted, unmoved, halts}
use Rattle.protocol.proofs.Tying.{of_map, of_chosen, sends_new, silent, no_message, silent_delivery}
use Rattle.protocol.proofs.Stepping.{in_map, fits, steps_are_the_models}

-- a chosen member is a member of what is chosen
in_chosen : {X : Type 0} (test : X → Bool) (xs : List X) (x : X) → x ∈ xs → test x ≡ true → x ∈ such_that test xs
in_chosen test [] x h t = absurd h
in_chosen test (y ∷ xs) x h t = go (in_chosen test xs x) (test y) refl h
  where
    go : (x ∈ xs → test x ≡ true → x ∈ such_that test xs) → (b : Bool) → test y ≡ b → x ∈ (y ∷ xs)
        → x ∈ cond b (y ∷ such_that test xs) (such_that test xs)
    go rest true e (inl is) = inl is
    go rest true e (inr k) = inr (rest k t)
    go rest false e (inl is) = let z : true ≡ false = sym t ∙ ap test is ∙ e in let y : ◌≡◌ {A = ℕ} 0 1 = cc in absurd (omega arith)
    go rest false e (inr k) = rest k t

-- the messages of a log that has messages only
messages_back : {V : Type 0} (l : List (Message V)) → messages_of (entries_of l) ≡ l
messages_back [] = refl
messages_back (m ∷ l) = ap (λ (x : List (Message _)). m ∷ x) (messages_back l)

-- what ends in a publication's base is prolonged to the publication
abbrev pub Closed : {V : Type 0} → List (Message V) → List model.Descendant → Type 0
Closed {V} log descendant =
    (p : Publication V) → Has log (message.Publication p) → (t v : ℕ) → pair t v p.base_term p.base_version ∈ descendant
    → pair t v p.term p.version ∈ descendant

module _ {V : Type 0} where
  -- then descendant has every chain
  every_chain : (log : List (Message V)) (descendant : List model.Descendant) → Tied log descendant → Closed log descendant
      → (p : Publication V) (t v : ℕ) → Has log (message.Publication p) → Descends log p t v → pair t v p.term p.version ∈ descendant
  every_chain log descendant tied closed p t v has (from_base a b) =
      subst (λ (x : model.Descendant). x ∈ descendant) (λ i. pair (a i) (b i) p.term p.version)
      (tied.bases p (record { entry = has.entry; there = has.there; of_term = refl; of_version = refl }))
  every_chain log descendant tied closed p t v has (by_base {q = q} at d) =
      closed p has t v
      (subst (λ (x : model.Descendant). x ∈ descendant) (λ i. pair t v (at.of_term i) (at.of_version i))
      (every_chain log descendant tied closed q t v (record { entry = at.entry; there = at.there }) d))

  -- nothing but publications matters
  closed_still : (log log' : List (Message V)) (descendant : List model.Descendant) (mo : Option (Message V)) → Sends log log' mo
      → ((p : Publication V) → mo ≡ Some (message.Publication p) → ⊥) → Closed log descendant → Closed log' descendant
  closed_still log log' descendant mo s quiet closed p has =
      ⊎_elim (λ old. closed p old) (λ new. absurd (quiet p new)) (sends_new log log' mo s (message.Publication p) has)

  module _ (S : Setting) (log log' : List (Message V)) (I : LogInvariant S log) (I' : LogInvariant S log')
      (descendant : List model.Descendant) (tied : Tied log descendant) (closed : Closed log descendant)
      (new : Publication V) (sends : messages.Sent log log' (message.Publication new)) where
    abbrev base : model.Descendant
    base = pair new.base_term new.base_version new.term new.version

    abbrev ends_at_base : model.Descendant → Bool
    ends_at_base e = eqb e.nextT new.base_term && eqb e.nextV new.base_version

    abbrev prolonged : model.Descendant → model.Descendant
    prolonged e = pair e.prevT e.prevV new.term new.version

    abbrev after : List model.Descendant
    after = descendant ∪ ❴ base ❵ ∪ map prolonged (such_that ends_at_base descendant)

    here : Has log' (message.Publication new)
    here = messages.sent_has sends

    -- an element is old, or it ends at the new publication
    old_or_new : (d : model.Descendant) → d ∈ after → (d ∈ descendant) ⊎ ((d.nextT ≡ new.term) × (d.nextV ≡ new.version))
    old_or_new d h =
        ⊎_elim
        (λ k. ⊎_elim inl (λ j. ⊎_elim (λ (is : d ≡ base). inr (ap (λ (x : model.Descendant). x.nextT) is, ap (λ (x : model.Descendant). x.nextV) is)) (λ (z : ⊥). absurd z) j)
        (in_either d descendant (❴ base ❵) k))
        (λ k.
        let r = of_map prolonged (such_that ends_at_base descendant) d k in
        inr (ap (λ (x : model.Descendant). x.nextT) r.2, ap (λ (x : model.Descendant). x.nextV) r.2))
        (in_either d (descendant ++ ❴ base ❵) (map prolonged (such_that ends_at_base descendant)) h)

    stays : (d : model.Descendant) → d ∈ descendant → d ∈ after
    stays d h = in_left d (descendant ++ ❴ base ❵) (map prolonged (such_that ends_at_base descendant)) (in_left d descendant (❴ base ❵) h)

    -- what ends in the new publication's base is prolonged to it
    prolongs : (t v : ℕ) → pair t v new.base_term new.base_version ∈ descendant → pair t v new.term new.version ∈ after
    prolongs t v h =
        let e : model.Descendant = pair t v new.base_term new.base_version in
        in_right (prolonged e) (descendant ++ ❴ base ❵) (map prolonged (such_that ends_at_base descendant))
        (in_map prolonged (such_that ends_at_base descendant) e
        (in_chosen ends_at_base descendant e h (and_from _ _ (eq-eqb new.base_term new.base_term refl) (eq-eqb new.base_version new.base_version refl))))

    -- a new publication is the base of none that was there
    base_of_none : (Has log (message.Publication new) → ⊥) → (p : Publication V) → Has log (message.Publication p)
        → p.base_term ≡ new.term → p.base_version ≡ new.version → ⊥
    base_of_none fresh p has et ev = go (I.sound p has).follows.stands
      where
        go : certificate.Stands S log p.base_term p.base_version (I.sound p has).follows.base_committed (I.sound p has).follows.base_configuration → ⊥
        go (certificate.root z k c) = let e = (I'.sound new here).election.elected.earlier in omega arith
        go (certificate.published q at k c) =
            let same : q ≡ new =
            I'.one_publication q new ((messages.sent_adds sends).keeps (message.Publication q) (published_has log at)) here
            (at.of_term ∙ et) (at.of_version ∙ ev)
            in
            fresh (subst (λ (x : Publication V). Has log (message.Publication x)) same (published_has log at))

    -- a publication that was there adds nothing
    nothing_new : Has log (message.Publication new) → (d : model.Descendant) → d ∈ after → d ∈ descendant
    nothing_new there d h =
        ⊎_elim
        (λ k. ⊎_elim (λ old. old)
        (λ j. ⊎_elim (λ (is : d ≡ base). subst (λ (x : model.Descendant). x ∈ descendant) (sym is)
        (tied.bases new (record { entry = there.entry; there = there.there; of_term = refl; of_version = refl }))) (λ (z : ⊥). absurd z) j)
        (in_either d descendant (❴ base ❵) k))
        (λ k.
        let r = of_map prolonged (such_that ends_at_base descendant) d k in
        let e = r.0 in
        let c = of_chosen ends_at_base descendant e r.1 in
        let both = and_parts (eqb e.nextT new.base_term) (eqb e.nextV new.base_version) c.1 in
        let at : pair e.prevT e.prevV new.base_term new.base_version ∈ descendant =
        subst (λ (x : model.Descendant). x ∈ descendant)
        (λ i. pair e.prevT e.prevV (eqb-true e.nextT new.base_term both.0 i) (eqb-true e.nextV new.base_version both.1 i)) c.0
        in
        subst (λ (x : model.Descendant). x ∈ descendant) (sym r.2) (closed new there e.prevT e.prevV at))
        (in_either d (descendant ++ ❴ base ❵) (map prolonged (such_that ends_at_base descendant)) h)

    closed_anew : Closed log' after
    closed_anew p has t v h = go ((messages.sent_adds sends).new (message.Publication p) has) (old_or_new _ h) sends
      where
        go : Has log (message.Publication p) ⊎ (message.Publication p ≡ message.Publication new)
            → (pair t v p.base_term p.base_version ∈ descendant) ⊎ ((p.base_term ≡ new.term) × (p.base_version ≡ new.version))
            → messages.Sent log log' (message.Publication new) → pair t v p.term p.version ∈ after
        go (inl old) (inl d) s = stays _ (closed p old t v d)
        go (inr is) (inl d) s =
            let same : new ≡ p = cc in
            subst (λ (x : Publication V). pair t v x.term x.version ∈ after) same
            (prolongs t v (subst (λ (x : Publication V). pair t v x.base_term x.base_version ∈ descendant) (sym same) d))
        go (inr is) (inr e) s =
            let same : new ≡ p = cc in
            let low = (I'.sound new here).base_versions in
            let q : new.base_version ≡ new.version = ap (λ (x : Publication V). x.base_version) same ∙ e.1 in
            absurd (omega arith)
        go (inl old) (inr e) (messages.appended fresh is) = absurd (base_of_none fresh p old e.0 e.1)
        go (inl old) (inr e) (messages.already there is) = stays _ (closed p old t v (nothing_new there _ h))

module _ {V : Type 0} (setup : Setup V) (lawful : Lawful setup) where
  -- the log's invariant, in every run
  invariant : (world : World V) → Reached setup world → LogInvariant (the_setting setup lawful) (messages_of world.entries)
  invariant world r =
      let s = stepped setup lawful world r in
      subst (λ (l : List (Message V)). LogInvariant (the_setting setup lawful) l)
      (sym (ap messages_of s.readable ∙ messages_back s.log))
      (reached_has_invariant (the_setting setup lawful) setup.initial_value s.reached).of_log

  forgotten : (world : World V) (descendant : List model.Descendant) → Traced setup world descendant → Reached setup world
  forgotten world descendant (at_opening o) = runs.at_opening o
  forgotten world descendant (by_call {world = before} {descendant = d} r call fate) = runs.by_call (forgotten before d r) call fate

  pub record Good (world : World V) (descendant : List model.Descendant) : Type 0 where
    pub tied : Tied (messages_of world.entries) descendant
    pub closed : Closed (messages_of world.entries) descendant

  module _ (world : World V) (reached : Reached setup world) (call : Call V) (fate : Fate) (descendant : List model.Descendant)
      (good : Good world descendant) where
    abbrev outcome : Outcome V
    outcome = called setup world call fate

    abbrev log : List (Message V)
    log = messages_of world.entries

    abbrev log' : List (Message V)
    log' = messages_of outcome.world.entries

    -- a call that is taken
    closed_after : (c : Call V) (effect : Effect V) → effect_of setup world c ≡ Some effect → (l : List (Message V)) → Sends log l effect.message
        → LogInvariant (the_setting setup lawful) l → Closed l (descendant_after setup world (λ n. 0) descendant c)
    closed_after (bootstrap n) effect has l s I = closed_still log l descendant effect.message s (silent setup world _ effect has (no_message setup world)) good.closed
    closed_after (start_join n d t) effect has l s I =
        closed_still log l descendant effect.message s
        (silent setup world _ effect has (λ q e. let z : ◌≡◌ {A = ℕ} 0 1 = cc in omega arith)) good.closed
    closed_after (publish n t v value configuration) effect has l s I =
        let concrete : Effect V = publish_effect setup (get_or world.nodes n (blank setup)) n t v value configuration in
        let is : concrete ≡ effect = cc in
        closed_anew (the_setting setup lawful) log l (invariant world reached) I descendant good.tied good.closed _
        (subst (λ (x : Effect V). Sends log l x.message) (sym is) s)
    closed_after (deliver e n) effect has l s I =
        closed_still log l descendant effect.message s (silent_delivery setup world n (slice_get world.entries e) effect has) good.closed
    closed_after (restart n) effect has l s I =
        closed_still log l descendant effect.message s (silent setup world _ effect has (no_message setup world)) good.closed

    good_taken : Taken setup outcome → Good outcome.world (descendant_after setup world (λ n. 0) descendant call)
    good_taken t =
        let w = went setup lawful.values world (node_called setup world call) fate (decision setup world call) t in
        let does = (fits setup world (λ n. 0) descendant call).to w.known w.effect w.decides in
        let entries : outcome.world.entries ≡ w.entries = ap (λ (x : World V). x.entries) w.leaves in
        let sends : Sends log log' w.effect.message =
        subst (λ (es : List (Entry V)). Sends log (messages_of es) w.effect.message) (sym entries) w.sends
        in
        record {
          tied = ((steps_are_the_models V).steps setup lawful.values world call fate (λ n. 0) descendant).tied t good.tied;
          closed = closed_after call w.effect does.has log' sends (invariant outcome.world (runs.by_call reached call fate));
        }

    -- a call that is refused
    good_refused : (why : Refusal) → outcome.answer ≡ Err why → Good outcome.world descendant
    good_refused why e = go (ended setup lawful.values world (node_called setup world call) fate (decision setup world call))
      where
        same_log : outcome.world.entries ≡ world.entries → Good outcome.world descendant
        same_log is = record {
          tied = subst (λ (es : List (Entry V)). Tied (messages_of es) descendant) (sym is) good.tied;
          closed = subst (λ (es : List (Entry V)). Closed (messages_of es) descendant) (sym is) good.closed;
        }

        broken_off : (effect : Effect V) → node_called setup world call < length world.nodes
            → decision setup world call (get_or world.nodes (node_called setup world call) (blank setup)) ≡ Ok effect
            → Room setup world effect.message → (c : Option (Change V)) → effect.change ≡ c → CutShort setup world fate c → Good outcome.world descendant
        broken_off effect known d room None is k = absurd k
        broken_off effect known d room (Some change) is k =
            same_log (ap (λ (x : World V). x.entries)
            (halts setup lawful.values world (node_called setup world call) fate (decision setup world call) known effect d room k change is).leaves)

        go : Ended setup lawful.values world (node_called setup world call) fate (decision setup world call) → Good outcome.world descendant
        go (through t) =
            let a = t.answered in
            let q : ◌≡◌ {A = Result (Option ℕ) Refusal} (Err why) (Ok t.entry) = sym e ∙ a in
            let z : ◌≡◌ {A = ℕ} 0 1 = cc in
            absurd (omega arith)
        go (halted known effect d room k es means) = broken_off effect known d room effect.change refl k
        go (unmoved same) = same_log (ap (λ (x : World V). x.entries) same)

    pub good_then : Good outcome.world (descendant_then setup outcome.answer world descendant call)
    good_then = go outcome.answer refl
      where
        go : (r : Result (Option ℕ) Refusal) → outcome.answer ≡ r → Good outcome.world (descendant_then setup r world descendant call)
        go (Ok entry) e = good_taken (record { entry = entry; answered = e })
        go (Err why) e = good_refused why e

  good_run : (world : World V) (descendant : List model.Descendant) → Traced setup world descendant → Good world descendant
  good_run world descendant (at_opening o) = record {
    tied = (steps_are_the_models V).opening_tied setup world o;
    closed = subst (λ (es : List (Entry V)). Closed (messages_of es) []) (sym o.cleared) (λ p has t v h. absurd h);
  }
  good_run world descendant (by_call {world = before} {descendant = d} r call fate) =
      good_then before (forgotten before d r) call fate d (good_run before d r)

pub descendant_is_descent : (V : Type 0) → DescendantIsDescent V
descendant_is_descent V setup lawful world descendant r =
    let g = good_run setup lawful world descendant r in
    record {
      only = g.tied.chains;
      every = λ p t v at d.
          every_chain (messages_of world.entries) descendant g.tied g.closed p t v (record { entry = at.entry; there = at.there }) d;
    }
