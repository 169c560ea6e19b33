-- What carrying out an effect leaves: the world as it was, the effect, or a write that was cut.
use Rattle.std.proofs.Common.{◌≡◌, ℕ, Bool, true, false, ltb, ◌⊎◌, List, [], ◌∷◌, ◌++◌, length, Some, None, Ok, Decides, Option, sym, refl, ap, ◌∙◌, subst, inl, inr, arith}
use Rattle.std.proofs.lemmas.List.{map-append}
use Rattle.std.proofs.lemmas.Bool.{cond-true, cond-false}
use Rattle.protocol.specs.declared.change.Change.{Change}
use Rattle.protocol.specs.declared.message.Message.{Message}
use Rattle.protocol.specs.declared.record.Record.{Record}
use Rattle.protocol.specs.Changes.{changed}
use Rattle.protocol.specs.Decisions.{NodeState, Setup, Effect, restarted}
use Rattle.protocol.specs.Positions.{position}
use Rattle.protocol.specs.Calls.{Entry, entries_of, World, Fate, Outcome, is_message, Sent, sent, sent_unless, with_node_at, written, with_room, carried_out}
use Rattle.protocol.proofs.Log as messages
use Rattle.protocol.proofs.Sending.{found_there, not_found}

-- the record after a change, if there is one
abbrev pub changed_by : {V : Type 0} → Option (Change V) → Record V → Record V
changed_by None r = r
changed_by (Some change) r = changed change r

-- the log after a message is sent, if there is one
abbrev pub Sends : {V : Type 0} → List (Message V) → List (Message V) → Option (Message V) → Type 0
Sends log log' None = log' ≡ log
Sends log log' (Some m) = messages.Sent log log' m

module _ {V : Type 0} (setup : Setup V) (values : (x y : V) → Decides (setup.same_value x y) (x ≡ y))
    (world : World V) (log : List (Message V)) (readable : world.entries ≡ entries_of log) where
  -- what is left: the log afterwards, and the world
  pub data Left (n : ℕ) (node : NodeState V) (effect : Effect V) (after : World V) : Type 0 where
    as_it_was : after ≡ world → Left n node effect after
    done : (log' : List (Message V)) → Sends log log' effect.message
        → after ≡ with_node_at setup world n (record { kept = changed_by effect.change node.kept; volatile = effect.volatile }) (entries_of log')
        → Left n node effect after
    cut : (change : Change V) → effect.change ≡ Some change → (kept : Record V)
        → (kept ≡ node.kept) ⊎ (kept ≡ changed change node.kept)
        → after ≡ with_node_at setup world n (record { kept = kept; volatile = restarted kept }) world.entries
        → Left n node effect after

  -- a message that found a place was sent
  record Placed (m : Message V) (s : Sent V) : Type 0 where
    log' : List (Message V)
    sends : messages.Sent log log' m
    entries : s.entries ≡ entries_of log'

  placed : (m : Message V) (s : Sent V) → sent setup world (Some m) ≡ Some s → Placed m s
  placed m s h = go (position (is_message setup m) world.entries) refl (ltb (length world.entries) world.capacity) refl
    where
      here : position (is_message setup m) world.entries ≡ position (is_message setup m) (entries_of log)
      here = ap (position (is_message setup m)) readable

      go : (o : Option ℕ) → position (is_message setup m) world.entries ≡ o
          → (b : Bool) → ltb (length world.entries) world.capacity ≡ b → Placed m s
      go (Some e) p b q =
          let found : ◌≡◌ {A = Option (Sent V)} (Some (record { entry = Some e; entries = world.entries })) (Some s) =
          sym (ap (λ (o : Option ℕ). sent_unless setup world o m) p) ∙ h
          in
          let is : ◌≡◌ {A = Sent V} (record { entry = Some e; entries = world.entries }) s = cc in
          record {
            log' = log;
            sends = messages.already (record { entry = e; there = found_there setup values m log e (sym here ∙ p) }) refl;
            entries = sym (ap (λ (x : Sent V). x.entries) is) ∙ readable;
          }
      go None p true q =
          let new : Sent V = record { entry = Some (length world.entries); entries = world.entries ++ Ok m ∷ [] } in
          let found : ◌≡◌ {A = Option (Sent V)} (Some new) (Some s) =
          sym (ap (λ (o : Option ℕ). sent_unless setup world o m) p ∙ cond-true (ltb (length world.entries) world.capacity) _ _ q) ∙ h
          in
          let is : new ≡ s = cc in
          record {
            log' = log ++ m ∷ [];
            sends = messages.appended (not_found setup values m log (sym here ∙ p)) refl;
            entries = sym (ap (λ (x : Sent V). x.entries) is) ∙ ap (λ (es : List (Entry V)). es ++ Ok m ∷ []) readable
                ∙ sym (map-append Ok log (m ∷ []));
          }
      go None p false q =
          let found : ◌≡◌ {A = Option (Sent V)} None (Some s) =
          sym (ap (λ (o : Option ℕ). sent_unless setup world o m) p ∙ cond-false (ltb (length world.entries) world.capacity) _ _ q) ∙ h
          in
          let z : ◌≡◌ {A = ℕ} 0 1 = cc in
          absurd (omega arith)

  module _ (n : ℕ) (node : NodeState V) (fate : Fate) (effect : Effect V) where
    -- the same world, written otherwise
    same_world : (r r' : Record V) (es es' : List (Entry V)) → r ≡ r' → es ≡ es'
        → with_node_at setup world n (record { kept = r; volatile = effect.volatile }) es
        ≡ with_node_at setup world n (record { kept = r'; volatile = effect.volatile }) es'
    same_world r r' es es' p q = λ i. with_node_at setup world n (record { kept = p i; volatile = effect.volatile }) (q i)

    after_write : (c : Option (Change V)) → effect.change ≡ c → (s : Sent V) (log' : List (Message V))
        → Sends log log' effect.message → s.entries ≡ entries_of log'
        → Left n node effect (written setup world n node fate c effect s).world
    after_write None e s log' sends es =
        done log' sends
        (same_world _ _ _ _ (sym (ap (λ (x : Option (Change V)). changed_by x node.kept) e)) es)
    after_write (Some change) e s log' sends es = go fate.finished refl fate.keeps_new refl
      where
        go : (b : Bool) → fate.finished ≡ b → (k : Bool) → fate.keeps_new ≡ k
            → Left n node effect (written setup world n node fate (Some change) effect s).world
        go true f k g =
            done log' sends
            (ap (λ (o : Outcome V). o.world) (cond-true fate.finished _ _ f)
            ∙ same_world _ _ _ _ (sym (ap (λ (x : Option (Change V)). changed_by x node.kept) e)) es)
        go false f true g =
            cut change e _ (inr (cond-true fate.keeps_new _ _ g)) (ap (λ (o : Outcome V). o.world) (cond-false fate.finished _ _ f))
        go false f false g =
            cut change e _ (inl (cond-false fate.keeps_new _ _ g)) (ap (λ (o : Outcome V). o.world) (cond-false fate.finished _ _ f))

    after_sending : (mo : Option (Message V)) → effect.message ≡ mo → (o : Option (Sent V)) → sent setup world mo ≡ o
        → Left n node effect (with_room setup world n node fate effect o).world
    after_sending mo e None p = as_it_was refl
    after_sending None e (Some s) p =
        let is : ◌≡◌ {A = Sent V} (record { entry = None; entries = world.entries }) s = cc in
        after_write effect.change refl s log (subst (λ (x : Option (Message V)). Sends log log x) (sym e) refl)
        (sym (ap (λ (x : Sent V). x.entries) is) ∙ readable)
    after_sending (Some m) e (Some s) p =
        let q = placed m s p in
        after_write effect.change refl s q.log' (subst (λ (x : Option (Message V)). Sends log q.log' x) (sym e) q.sends) q.entries

    pub left : Left n node effect (carried_out setup world n node fate (Ok effect)).world
    left = after_sending effect.message refl (sent setup world effect.message) refl
