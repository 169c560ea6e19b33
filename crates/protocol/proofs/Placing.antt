-- What carrying out an effect comes to: it goes through, with its message in the log, or the call is refused.
use Rattle.std.proofs.Common.{◌≡◌, ℕ, zero, suc, ◌<◌, ◌≤◌, Bool, true, false, cond, ltb, ◌⊎◌, List, [], ◌∷◌, ◌++◌, length, get_or, Some, None, Ok, Err, Decides, Option, Result, sym, refl, ap, ◌∙◌, subst, inl, inr, ⊎_elim, arith}
use Rattle.std.specs.List.{slice_get}
use Rattle.std.specs.Option.{option_map}
use Rattle.std.proofs.lemmas.Bool.{cond-true, cond-false, false≢true, both_ways, ltb-true, lt-ltb, cases_lt}
use Rattle.std.proofs.lemmas.Option.{slice_get-get_or, slice_get_past}
use Rattle.protocol.specs.declared.change.Change.{Change}
use Rattle.protocol.specs.declared.message.Message.{Message}
use Rattle.protocol.specs.declared.refusal.Refusal.{Refusal}
use Rattle.protocol.specs.declared.refusal.Refusal.TheVariants.{WriteUnfinished}
use Rattle.protocol.specs.Changes.{changed}
use Rattle.protocol.specs.Decisions.{NodeState, Setup, Effect, restarted}
use Rattle.protocol.specs.Positions.{position}
use Rattle.protocol.specs.Model.{Message as Meaning, ◌∈◌, ◌≈◌, ◌∪◌}
use Rattle.protocol.specs.Steps.{meant, meant_by, all_meant, messages_of, blank, Room, Finishes, CutShort, Taken}
use Rattle.protocol.specs.Calls.{Entry, World, Fate, Outcome, is_message, Sent, sent, sent_unless, with_node_at, written, with_room, carried_out, on_node, if_known}
use Rattle.protocol.proofs.Sending.{same_is_equal, same_itself}
use Rattle.protocol.proofs.Carrying.{changed_by, Sends}
use Rattle.protocol.proofs.Log as messages
use Rattle.protocol.proofs.Log.{Has}

module _ {X : Type 0} where
  -- members of two lists put together
  pub in_left : (x : X) (a b : List X) → x ∈ a → x ∈ (a ++ b)
  in_left x [] b h = absurd h
  in_left x (y ∷ a) b (inl e) = inl e
  in_left x (y ∷ a) b (inr h) = inr (in_left x a b h)

  pub in_right : (x : X) (a b : List X) → x ∈ b → x ∈ (a ++ b)
  in_right x [] b h = h
  in_right x (y ∷ a) b h = inr (in_right x a b h)

  pub in_either : (x : X) (a b : List X) → x ∈ (a ++ b) → (x ∈ a) ⊎ (x ∈ b)
  in_either x [] b h = inr h
  in_either x (y ∷ a) b (inl e) = inl (inl e)
  in_either x (y ∷ a) b (inr h) = ⊎_elim (λ l. inl (inr l)) (λ r. inr r) (in_either x a b h)

  -- the element at a place is a member
  pub nth_in : (xs : List X) (e : ℕ) (x : X) → slice_get xs e ≡ Some x → x ∈ xs
  nth_in [] e x h = absurd (let z : ◌≡◌ {A = ℕ} 0 1 = cc in omega arith)
  nth_in (y ∷ xs) zero x h = inl (cc)
  nth_in (y ∷ xs) (suc e) x h = inr (nth_in xs e x h)

  -- a position is one of a member that passes ..
  pub found : (test : X → Bool) (xs : List X) (e : ℕ) → position test xs ≡ Some e → (x : X) × (x ∈ xs) × (test x ≡ true)
  unfolding position
  found test [] e h = absurd (let z : ◌≡◌ {A = ℕ} 0 1 = cc in omega arith)
  found test (y ∷ xs) e h = go (found test xs) (test y) refl (position test xs) refl
    where
      go : ((e : ℕ) → position test xs ≡ Some e → (x : X) × (x ∈ xs) × (test x ≡ true))
          → (b : Bool) → test y ≡ b → (o : Option ℕ) → position test xs ≡ o → (x : X) × (x ∈ (y ∷ xs)) × (test x ≡ true)
      go rest true t o p = (y, inl refl, t)
      go rest false t (Some j) p = let r = rest j p in (r.0, inr r.1, r.2)
      go rest false t None p =
          let q : ◌≡◌ {A = Option ℕ} None (Some e) = sym (cond-false (test y) _ _ t ∙ ap (option_map suc) p) ∙ h in
          absurd (let z : ◌≡◌ {A = ℕ} 0 1 = cc in omega arith)

  -- .. and where there is none, no member passes
  pub nowhere : (test : X → Bool) (xs : List X) → position test xs ≡ None → (x : X) → x ∈ xs → test x ≡ false
  unfolding position
  nowhere test [] h x m = absurd m
  nowhere test (y ∷ xs) h x m = go (nowhere test xs) (test y) refl (position test xs) refl m
    where
      go : (position test xs ≡ None → (x : X) → x ∈ xs → test x ≡ false)
          → (b : Bool) → test y ≡ b → (o : Option ℕ) → position test xs ≡ o → x ∈ (y ∷ xs) → test x ≡ false
      go rest true t o p m =
          let q : ◌≡◌ {A = Option ℕ} (Some 0) None = sym (cond-true (test y) _ _ t) ∙ h in
          absurd (let z : ◌≡◌ {A = ℕ} 0 1 = cc in omega arith)
      go rest false t (Some j) p m =
          let q : ◌≡◌ {A = Option ℕ} (Some (suc j)) None = sym (cond-false (test y) _ _ t ∙ ap (option_map suc) p) ∙ h in
          absurd (let z : ◌≡◌ {A = ℕ} 0 1 = cc in omega arith)
      go rest false t None p (inl e) = ap test e ∙ t
      go rest false t None p (inr k) = rest p x k

-- what is meant by the message of an effect, if there is one
abbrev pub meant_if : {V : Type 0} → (N : ℕ) → Option (Message V) → List (Meaning V)
meant_if N None = []
meant_if N (Some m) = meant N m

-- the log afterwards means what it meant, and the message
abbrev pub Means : {V : Type 0} → World V → Option (Message V) → List (Entry V) → Type 0
Means world mo es = (N : ℕ) → all_meant N es ≈ (all_meant N world.entries ∪ meant_if N mo)

-- the node that an effect leaves
abbrev pub node_after : {V : Type 0} → NodeState V → Effect V → NodeState V
node_after node effect = record { kept = changed_by effect.change node.kept; volatile = effect.volatile }

-- an entry that is a message is one of the messages, and the other way round
pub in_has : {V : Type 0} (es : List (Entry V)) (m : Message V) → Ok m ∈ es → Has (messages_of es) m
in_has [] m h = absurd h
in_has (Ok x ∷ es) m (inl e) = record { entry = 0; there = ap Some (let q : x ≡ m = cc in q) }
in_has (Ok x ∷ es) m (inr h) = let k = in_has es m h in record { entry = suc k.entry; there = k.there }
in_has (Err why ∷ es) m (inl e) = absurd (let z : ◌≡◌ {A = ℕ} 0 1 = cc in omega arith)
in_has (Err why ∷ es) m (inr h) = in_has es m h

pub has_in : {V : Type 0} (es : List (Entry V)) (m : Message V) (e : ℕ) → slice_get (messages_of es) e ≡ Some m → Ok m ∈ es
has_in [] m e h = absurd (let z : ◌≡◌ {A = ℕ} 0 1 = cc in omega arith)
has_in (Ok x ∷ es) m zero h = inl (ap Ok (let q : m ≡ x = cc in q))
has_in (Ok x ∷ es) m (suc e) h = inr (has_in es m e h)
has_in (Err why ∷ es) m e h = inr (has_in es m e h)

pub messages_push : {V : Type 0} (es : List (Entry V)) (m : Message V) → messages_of (es ++ Ok m ∷ []) ≡ messages_of es ++ m ∷ []
messages_push [] m = refl
messages_push (Ok x ∷ es) m = ap (λ (l : List (Message _)). x ∷ l) (messages_push es m)
messages_push (Err why ∷ es) m = messages_push es m

module _ {V : Type 0} (N : ℕ) where
  -- what an entry means is among what they all mean
  pub entry_means : (es : List (Entry V)) (m : Message V) → Ok m ∈ es → (x : Meaning V) → x ∈ meant N m → x ∈ all_meant N es
  entry_means [] m h x k = absurd h
  entry_means (e ∷ es) m (inl p) x k =
      in_left x (meant_by N e) (all_meant N es) (subst (λ (y : Entry V). x ∈ meant_by N y) p k)
  entry_means (e ∷ es) m (inr h) x k = in_right x (meant_by N e) (all_meant N es) (entry_means es m h x k)

  -- one entry more
  pub more_means : (es : List (Entry V)) (m : Message V) → all_meant N (es ++ Ok m ∷ []) ≈ (all_meant N es ∪ meant N m)
  more_means es m x = (to es, from es)
    where
      to : (es : List (Entry V)) → x ∈ all_meant N (es ++ Ok m ∷ []) → x ∈ (all_meant N es ++ meant N m)
      to [] h = ⊎_elim (λ k. k) (λ (k : ⊥). absurd k) (in_either x (meant N m) [] h)
      to (e ∷ es) h =
          ⊎_elim
          (λ k. in_left x (meant_by N e ++ all_meant N es) (meant N m) (in_left x (meant_by N e) (all_meant N es) k))
          (λ k. ⊎_elim
          (λ l. in_left x (meant_by N e ++ all_meant N es) (meant N m) (in_right x (meant_by N e) (all_meant N es) l))
          (λ l. in_right x (meant_by N e ++ all_meant N es) (meant N m) l)
          (in_either x (all_meant N es) (meant N m) (to es k)))
          (in_either x (meant_by N e) (all_meant N (es ++ Ok m ∷ [])) h)

      from : (es : List (Entry V)) → x ∈ (all_meant N es ++ meant N m) → x ∈ all_meant N (es ++ Ok m ∷ [])
      from [] h = in_left x (meant N m) [] h
      from (e ∷ es) h =
          ⊎_elim
          (λ k. ⊎_elim
          (λ l. in_left x (meant_by N e) (all_meant N (es ++ Ok m ∷ [])) l)
          (λ l. in_right x (meant_by N e) (all_meant N (es ++ Ok m ∷ [])) (from es (in_left x (all_meant N es) (meant N m) l)))
          (in_either x (meant_by N e) (all_meant N es) k))
          (λ k. in_right x (meant_by N e) (all_meant N (es ++ Ok m ∷ [])) (from es (in_right x (all_meant N es) (meant N m) k)))
          (in_either x (meant_by N e ++ all_meant N es) (meant N m) h)

module _ {V : Type 0} (setup : Setup V) (values : (x y : V) → Decides (setup.same_value x y) (x ≡ y)) (world : World V) where
  -- a message is sent, or the log is full
  data Tried (mo : Option (Message V)) : Type 0 where
    placed : (s : Sent V) → sent setup world mo ≡ Some s → Room setup world mo → Means world mo s.entries
        → Sends (messages_of world.entries) (messages_of s.entries) mo → Tried mo
    full : sent setup world mo ≡ None → (Room setup world mo → ⊥) → Tried mo

  equal_entry : (m : Message V) (x : Entry V) → is_message setup m x ≡ true → x ≡ Ok m
  equal_entry m (Ok other) h = ap Ok (sym (same_is_equal setup values m other h))
  equal_entry m (Err why) h = absurd (false≢true h)

  tried : (mo : Option (Message V)) → Tried mo
  tried None = placed _ refl tt (λ N x. (in_left x (all_meant N world.entries) [], λ h. ⊎_elim (λ k. k) (λ (k : ⊥). absurd k) (in_either x (all_meant N world.entries) [] h))) refl
  tried (Some m) = go (position (is_message setup m) world.entries) refl (ltb (length world.entries) world.capacity) refl
    where
      go : (o : Option ℕ) → position (is_message setup m) world.entries ≡ o
          → (b : Bool) → ltb (length world.entries) world.capacity ≡ b → Tried (Some m)
      go (Some e) p b q =
          let f = found (is_message setup m) world.entries e p in
          let there : Ok m ∈ world.entries = subst (λ (x : Entry V). x ∈ world.entries) (equal_entry m f.0 f.2) f.1 in
          placed _ (ap (λ (o : Option ℕ). sent_unless setup world o m) p) (inl there)
          (λ N x. (
            in_left x (all_meant N world.entries) (meant N m),
            λ h. ⊎_elim (λ k. k) (λ k. entry_means N world.entries m there x k) (in_either x (all_meant N world.entries) (meant N m) h),
          ))
          (messages.already (in_has world.entries m there) refl)
      go None p true q =
          placed _ (ap (λ (o : Option ℕ). sent_unless setup world o m) p ∙ cond-true (ltb (length world.entries) world.capacity) _ _ q)
          (inr (ltb-true (length world.entries) world.capacity q))
          (λ N. more_means N world.entries m)
          (messages.appended
          (λ has. both_ways (is_message setup m (Ok m))
          (nowhere (is_message setup m) world.entries p (Ok m) (has_in world.entries m has.entry has.there))
          (same_itself setup values m))
          (messages_push world.entries m))
      go None p false q =
          full (ap (λ (o : Option ℕ). sent_unless setup world o m) p ∙ cond-false (ltb (length world.entries) world.capacity) _ _ q)
          (⊎_elim
          (λ there. both_ways (is_message setup m (Ok m)) (nowhere (is_message setup m) world.entries p (Ok m) there) (same_itself setup values m))
          (λ room. both_ways (ltb (length world.entries) world.capacity) q (lt-ltb (length world.entries) world.capacity room)))

  -- An outcome: the effect is carried out, or the call is refused.
  pub data Carried (n : ℕ) (node : NodeState V) (fate : Fate) (effect : Effect V) (outcome : Outcome V) : Type 0 where
    carried : Room setup world effect.message → Finishes setup world fate effect.change
        → Taken setup outcome
        → (es : List (Entry V)) → Means world effect.message es
        → Sends (messages_of world.entries) (messages_of es) effect.message
        → outcome.world ≡ with_node_at setup world n (node_after node effect) es
        → Carried n node fate effect outcome
    not_carried : (Taken setup outcome → ⊥) → (Room setup world effect.message → Finishes setup world fate effect.change → ⊥)
        → Carried n node fate effect outcome

  refused_not_taken : (outcome : Outcome V) (why : Refusal) → outcome.answer ≡ Err why → Taken setup outcome → ⊥
  refused_not_taken outcome why e t =
      let a = t.answered in
      let q : ◌≡◌ {A = Result (Option ℕ) Refusal} (Err why) (Ok t.entry) = sym e ∙ a in
      let z : ◌≡◌ {A = ℕ} 0 1 = cc in
      omega arith

  module _ (n : ℕ) (node : NodeState V) (fate : Fate) (effect : Effect V) where
    carrying : Carried n node fate effect (carried_out setup world n node fate (Ok effect))
    carrying = go (tried effect.message)
      where
        write : (c : Option (Change V)) → effect.change ≡ c → (s : Sent V) → sent setup world effect.message ≡ Some s
            → Room setup world effect.message → Means world effect.message s.entries
            → Sends (messages_of world.entries) (messages_of s.entries) effect.message
            → (b : Bool) → fate.finished ≡ b
            → Carried n node fate effect (written setup world n node fate c effect s)
        write None e s p room means sends b f =
            carried room (subst (λ (x : Option (Change V)). Finishes setup world fate x) (sym e) tt)
            (record { entry = s.entry; answered = refl }) s.entries means sends
            (ap (λ (x : Option (Change V)). with_node_at setup world n (record { kept = changed_by x node.kept; volatile = effect.volatile }) s.entries) (sym e))
        write (Some change) e s p room means sends true f =
            let is = cond-true fate.finished (record {
              answer = Ok s.entry;
              world = with_node_at setup world n (record { kept = changed change node.kept; volatile = effect.volatile }) s.entries;
            }) _ f in
            carried room (subst (λ (x : Option (Change V)). Finishes setup world fate x) (sym e) f)
            (record { entry = s.entry; answered = ap (λ (o : Outcome V). o.answer) is }) s.entries means sends
            (ap (λ (o : Outcome V). o.world) is
            ∙ ap (λ (x : Option (Change V)). with_node_at setup world n (record { kept = changed_by x node.kept; volatile = effect.volatile }) s.entries) (sym e))
        write (Some change) e s p room means sends false f =
            not_carried (refused_not_taken _ _ (ap (λ (o : Outcome V). o.answer) (cond-false fate.finished _ _ f)))
            (λ r h. both_ways fate.finished f (subst (λ (x : Option (Change V)). Finishes setup world fate x) e h))

        go : Tried effect.message → Carried n node fate effect (carried_out setup world n node fate (Ok effect))
        go (placed s p room means sends) =
            subst (λ (o : Option (Sent V)). Carried n node fate effect (with_room setup world n node fate effect o)) (sym p)
            (write effect.change refl s p room means sends fate.finished refl)
        go (full p none) =
            not_carried
            (λ t. refused_not_taken (with_room setup world n node fate effect None) _ refl
            (subst (λ (o : Option (Sent V)). Taken setup (with_room setup world n node fate effect o)) p t))
            (λ r h. none r)

  -- A call on a node is taken exactly when the node exists, its decision is an effect, and that is carried out.
  pub record Went (n : ℕ) (fate : Fate) (decision : NodeState V → Result (Effect V) Refusal) : Type 0 where
    pub known : n < length world.nodes
    pub effect : Effect V
    pub decides : decision (get_or world.nodes n (blank setup)) ≡ Ok effect
    pub room : Room setup world effect.message
    pub finishes : Finishes setup world fate effect.change
    pub entries : List (Entry V)
    pub means : Means world effect.message entries
    pub sends : Sends (messages_of world.entries) (messages_of entries) effect.message
    pub leaves : (on_node setup world n fate decision).world
        ≡ with_node_at setup world n (node_after (get_or world.nodes n (blank setup)) effect) entries

  module _ (n : ℕ) (fate : Fate) (decision : NodeState V → Result (Effect V) Refusal) where
    pub went : Taken setup (on_node setup world n fate decision) → Went n fate decision
    went t = ⊎_elim here past (cases_lt n (length world.nodes))
      where
        past : length world.nodes ≤ n → Went n fate decision
        past h =
            absurd (refused_not_taken (if_known setup world n fate decision None) _ refl
            (subst (λ (o : Option (NodeState V)). Taken setup (if_known setup world n fate decision o)) (slice_get_past world.nodes n h) t))

        here : n < length world.nodes → Went n fate decision
        here h = go (decision (get_or world.nodes n (blank setup))) refl
          where
            is : slice_get world.nodes n ≡ Some (get_or world.nodes n (blank setup))
            is = slice_get-get_or world.nodes n (blank setup) h

            go : (r : Result (Effect V) Refusal) → decision (get_or world.nodes n (blank setup)) ≡ r → Went n fate decision
            go (Err why) e =
                absurd (refused_not_taken (carried_out setup world n (get_or world.nodes n (blank setup)) fate (Err why)) _ refl
                (subst (λ (r : Result (Effect V) Refusal). Taken setup (carried_out setup world n (get_or world.nodes n (blank setup)) fate r)) e
                (subst (λ (o : Option (NodeState V)). Taken setup (if_known setup world n fate decision o)) is t)))
            go (Ok effect) e = finish (carrying n (get_or world.nodes n (blank setup)) fate effect)
              where
                same : on_node setup world n fate decision ≡ carried_out setup world n (get_or world.nodes n (blank setup)) fate (Ok effect)
                same = ap (if_known setup world n fate decision) is
                    ∙ ap (carried_out setup world n (get_or world.nodes n (blank setup)) fate) e

                finish : Carried n (get_or world.nodes n (blank setup)) fate effect (carried_out setup world n (get_or world.nodes n (blank setup)) fate (Ok effect))
                    → Went n fate decision
                finish (carried room finishes taken es means sends leaves) = record {
                  known = h;
                  effect = effect;
                  decides = e;
                  room = room;
                  finishes = finishes;
                  entries = es;
                  means = means;
                  sends = sends;
                  leaves = ap (λ (o : Outcome V). o.world) same ∙ leaves;
                }
                finish (not_carried not_taken none) = absurd (not_taken (subst (Taken setup) same t))

    pub goes : n < length world.nodes → (effect : Effect V) → decision (get_or world.nodes n (blank setup)) ≡ Ok effect
        → Room setup world effect.message → Finishes setup world fate effect.change
        → Taken setup (on_node setup world n fate decision)
    goes h effect e room finishes = finish (carrying n (get_or world.nodes n (blank setup)) fate effect)
      where
        same : on_node setup world n fate decision ≡ carried_out setup world n (get_or world.nodes n (blank setup)) fate (Ok effect)
        same = ap (if_known setup world n fate decision) (slice_get-get_or world.nodes n (blank setup) h)
            ∙ ap (carried_out setup world n (get_or world.nodes n (blank setup)) fate) e

        finish : Carried n (get_or world.nodes n (blank setup)) fate effect (carried_out setup world n (get_or world.nodes n (blank setup)) fate (Ok effect))
            → Taken setup (on_node setup world n fate decision)
        finish (carried r f taken es means sends leaves) = subst (Taken setup) (sym same) taken
        finish (not_carried not_taken none) = absurd (none room finishes)

  -- Where all but the write goes through, the node keeps one of two records, and has restarted.
  abbrev pub cut_node : NodeState V → Fate → Change V → NodeState V
  cut_node node fate change =
      let kept = cond fate.keeps_new (changed change node.kept) node.kept in
      record { kept = kept; volatile = restarted kept }

  pub record Halted (n : ℕ) (fate : Fate) (decision : NodeState V → Result (Effect V) Refusal) (effect : Effect V) (change : Change V) : Type 0 where
    pub answers : (on_node setup world n fate decision).answer ≡ Err WriteUnfinished
    pub leaves : (on_node setup world n fate decision).world
        ≡ with_node_at setup world n (cut_node (get_or world.nodes n (blank setup)) fate change) world.entries
    pub entries : List (Entry V)
    pub means : Means world effect.message entries

  pub halts : (n : ℕ) (fate : Fate) (decision : NodeState V → Result (Effect V) Refusal) → n < length world.nodes → (effect : Effect V)
      → decision (get_or world.nodes n (blank setup)) ≡ Ok effect → Room setup world effect.message → fate.finished ≡ false
      → (change : Change V) → effect.change ≡ Some change → Halted n fate decision effect change
  halts n fate decision h effect e room unfinished change c = go (tried effect.message)
    where
      go : Tried effect.message → Halted n fate decision effect change
      go (full p none) = absurd (none room)
      go (placed s p r means sends) =
          let same : on_node setup world n fate decision ≡ written setup world n (get_or world.nodes n (blank setup)) fate (Some change) effect s =
          ap (if_known setup world n fate decision) (slice_get-get_or world.nodes n (blank setup) h)
          ∙ ap (carried_out setup world n (get_or world.nodes n (blank setup)) fate) e
          ∙ ap (with_room setup world n (get_or world.nodes n (blank setup)) fate effect) p
          ∙ ap (λ (x : Option (Change V)). written setup world n (get_or world.nodes n (blank setup)) fate x effect s) c
          in
          let stop = cond-false fate.finished _ (record {
            answer = Err WriteUnfinished;
            world = with_node_at setup world n (cut_node (get_or world.nodes n (blank setup)) fate change) world.entries;
          }) unfinished in
          record {
            answers = ap (λ (o : Outcome V). o.answer) (same ∙ stop);
            leaves = ap (λ (o : Outcome V). o.world) (same ∙ stop);
            entries = s.entries;
            means = means;
          }

  -- A call on a node ends in one of three ways.
  pub data Ended (n : ℕ) (fate : Fate) (decision : NodeState V → Result (Effect V) Refusal) : Type 0 where
    through : Taken setup (on_node setup world n fate decision) → Ended n fate decision
    halted : n < length world.nodes → (effect : Effect V) → decision (get_or world.nodes n (blank setup)) ≡ Ok effect
        → Room setup world effect.message → CutShort setup world fate effect.change
        → (es : List (Entry V)) → Means world effect.message es → Ended n fate decision
    unmoved : (on_node setup world n fate decision).world ≡ world → Ended n fate decision

  pub ended : (n : ℕ) (fate : Fate) (decision : NodeState V → Result (Effect V) Refusal) → Ended n fate decision
  ended n fate decision = ⊎_elim here past (cases_lt n (length world.nodes))
    where
      past : length world.nodes ≤ n → Ended n fate decision
      past h = unmoved (ap (λ (o : Option (NodeState V)). (if_known setup world n fate decision o).world) (slice_get_past world.nodes n h))

      here : n < length world.nodes → Ended n fate decision
      here h = decide (decision (get_or world.nodes n (blank setup))) refl
        where
          same : on_node setup world n fate decision
              ≡ carried_out setup world n (get_or world.nodes n (blank setup)) fate (decision (get_or world.nodes n (blank setup)))
          same = ap (if_known setup world n fate decision) (slice_get-get_or world.nodes n (blank setup) h)

          decide : (r : Result (Effect V) Refusal) → decision (get_or world.nodes n (blank setup)) ≡ r → Ended n fate decision
          decide (Err why) e =
              unmoved (ap (λ (o : Outcome V). o.world)
              (same ∙ ap (carried_out setup world n (get_or world.nodes n (blank setup)) fate) e))
          decide (Ok effect) e = send (tried effect.message)
            where
              write : Room setup world effect.message → (es : List (Entry V)) → Means world effect.message es
                  → (c : Option (Change V)) → effect.change ≡ c → (b : Bool) → fate.finished ≡ b → Ended n fate decision
              write room es means None c b f =
                  through (goes n fate decision h effect e room (subst (λ (x : Option (Change V)). Finishes setup world fate x) (sym c) tt))
              write room es means (Some change) c true f =
                  through (goes n fate decision h effect e room (subst (λ (x : Option (Change V)). Finishes setup world fate x) (sym c) f))
              write room es means (Some change) c false f =
                  halted h effect e room (subst (λ (x : Option (Change V)). CutShort setup world fate x) (sym c) f) es means

              send : Tried effect.message → Ended n fate decision
              send (full p none) =
                  unmoved (ap (λ (o : Outcome V). o.world)
                  (same ∙ ap (carried_out setup world n (get_or world.nodes n (blank setup)) fate) e
                  ∙ ap (with_room setup world n (get_or world.nodes n (blank setup)) fate effect) p))
              send (placed s p room means sends) = write room s.entries means effect.change refl fate.finished refl
