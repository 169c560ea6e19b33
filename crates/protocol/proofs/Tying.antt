-- The set descendant of the model and the bases in the log, after a message is sent.
use Rattle.std.proofs.Common.{◌≡◌, ℕ, Bool, true, false, cond, ◌&&◌, eqb, ◌⊎◌, List, [], ◌∷◌, ◌++◌, map, get_or, Some, None, Ok, Err, Option, sym, refl, ap, ◌∙◌, subst, inl, inr, ⊎_elim, arith}
use Rattle.std.specs.List.{slice_get}
use Rattle.std.proofs.lemmas.Bool.{and_parts, eqb-true}
use Rattle.protocol.specs.declared.message.Commit.{Commit}
use Rattle.protocol.specs.declared.message.Publication.{Publication}
use Rattle.protocol.specs.declared.message.Message.{Message}
use Rattle.protocol.specs.declared.message.Message.TheVariants as message
use Rattle.protocol.specs.Decisions.{Setup, Effect, publish_effect}
use Rattle.protocol.specs.Calls.{Entry, World, Call, bootstrap, start_join, publish, deliver, restart}
use Rattle.protocol.specs.History.{Published, Descends, from_base, by_base}
use Rattle.protocol.specs.Model as model
use Rattle.protocol.specs.Model.{◌∈◌, ◌∪◌, ❴◌❵, such_that}
use Rattle.protocol.specs.Steps.{Tied, blank, delivery_effect, effect_of, descendant_after}
use Rattle.protocol.proofs.Log.{Has, Grown, sent_adds, sent_has}
use Rattle.protocol.proofs.Carrying.{Sends}
use Rattle.protocol.proofs.Placing.{in_left, in_right, in_either}

-- a member of an image is the image of a member, and a member that was chosen is a member that passed
pub of_map : {X Y : Type 0} (f : X → Y) (xs : List X) (y : Y) → y ∈ map f xs → (x : X) × (x ∈ xs) × (y ≡ f x)
of_map f [] y h = absurd h
of_map f (x ∷ xs) y (inl e) = (x, inl refl, e)
of_map f (x ∷ xs) y (inr h) = let r = of_map f xs y h in (r.0, inr r.1, r.2)

pub of_chosen : {X : Type 0} (test : X → Bool) (xs : List X) (x : X) → x ∈ such_that test xs → (x ∈ xs) × (test x ≡ true)
of_chosen test [] x h = absurd h
of_chosen test (y ∷ xs) x h = go (of_chosen test xs x) (test y) refl h
  where
    go : (x ∈ such_that test xs → (x ∈ xs) × (test x ≡ true)) → (b : Bool) → test y ≡ b
        → x ∈ cond b (y ∷ such_that test xs) (such_that test xs) → (x ∈ (y ∷ xs)) × (test x ≡ true)
    go rest true t (inl e) = (inl e, ap test e ∙ t)
    go rest true t (inr k) = let r = rest k in (inr r.0, r.1)
    go rest false t k = let r = rest k in (inr r.0, r.1)

module _ {V : Type 0} (log log' : List (Message V)) where
  -- a longer log publishes as much, and what descends still does
  published_stays : Grown log log' → (p : Publication V) (t v : ℕ) → Published log p t v → Published log' p t v
  published_stays grown p t v h =
      let k = grown (message.Publication p) (record { entry = h.entry; there = h.there }) in
      record { entry = k.entry; there = k.there; of_term = h.of_term; of_version = h.of_version }

  descends_stays : Grown log log' → {p : Publication V} {t v : ℕ} → Descends log p t v → Descends log' p t v
  descends_stays grown (from_base a b) = from_base a b
  descends_stays grown (by_base q d) = by_base (published_stays grown _ _ _ q) (descends_stays grown d)

  pub sends_grown : (mo : Option (Message V)) → Sends log log' mo → Grown log log'
  sends_grown None e m h = subst (λ (l : List (Message V)). Has l m) (sym e) h
  sends_grown (Some x) s m h = (sent_adds s).keeps m h

  pub sends_new : (mo : Option (Message V)) → Sends log log' mo → (m : Message V) → Has log' m → Has log m ⊎ (mo ≡ Some m)
  sends_new None e m h = inl (subst (λ (l : List (Message V)). Has l m) e h)
  sends_new (Some x) s m h = ⊎_elim (λ old. inl old) (λ is. inr (ap Some (sym is))) ((sent_adds s).new m h)

  module _ (descendant : List model.Descendant) (tied : Tied log descendant) where
    chains_stay : Grown log log' → (d : model.Descendant) → d ∈ descendant
        → (p : Publication V) × Published log' p d.nextT d.nextV × Descends log' p d.prevT d.prevV
    chains_stay grown d h =
        let c = tied.chains d h in
        (c.0, published_stays grown c.0 _ _ c.1, descends_stays grown c.2)

    -- no publication was sent
    pub tied_still : (mo : Option (Message V)) → Sends log log' mo → ((p : Publication V) → mo ≡ Some (message.Publication p) → ⊥)
        → Tied log' descendant
    tied_still mo s quiet = record {
      chains = chains_stay (sends_grown mo s);
      bases = λ p h.
          ⊎_elim
          (λ (old : Has log (message.Publication p)).
          tied.bases p (record { entry = old.entry; there = old.there; of_term = refl; of_version = refl }))
          (λ new. absurd (quiet p new))
          (sends_new mo s (message.Publication p) (record { entry = h.entry; there = h.there }));
    }

    abbrev pub base_of : Publication V → model.Descendant
    base_of p = record { prevT = p.base_term; prevV = p.base_version; nextT = p.term; nextV = p.version }

    abbrev pub follows : Publication V → model.Descendant → Bool
    follows p e = eqb e.nextT p.base_term && eqb e.nextV p.base_version

    abbrev pub prolonged : Publication V → model.Descendant → model.Descendant
    prolonged p e = record { prevT = e.prevT; prevV = e.prevV; nextT = p.term; nextV = p.version }

    -- a publication was sent
    pub tied_anew : (p : Publication V) → Sends log log' (Some (message.Publication p))
        → Tied log' (descendant ∪ ❴ base_of p ❵ ∪ map (prolonged p) (such_that (follows p) descendant))
    tied_anew p s = record {
      chains = λ d h.
          ⊎_elim
          (λ h1. ⊎_elim
          (λ old. chains_stay grown d old)
          (λ new. ⊎_elim (λ (is : d ≡ base_of p). chain_of_new d is) (λ (k : ⊥). absurd k) new)
          (in_either d descendant (❴ base_of p ❵) h1))
          (λ h2. chain_of_longer d h2)
          (in_either d (descendant ++ ❴ base_of p ❵) (map (prolonged p) (such_that (follows p) descendant)) h);
      bases = λ q h.
          in_left (base_of q) (descendant ++ ❴ base_of p ❵) (map (prolonged p) (such_that (follows p) descendant))
          (⊎_elim
          (λ (old : Has log (message.Publication q)).
          in_left (base_of q) descendant (❴ base_of p ❵)
          (tied.bases q (record { entry = old.entry; there = old.there; of_term = refl; of_version = refl })))
          (λ (new : Some (message.Publication p) ≡ Some (message.Publication q)).
          let is : q ≡ p = cc in
          in_right (base_of q) descendant (❴ base_of p ❵) (inl (ap base_of is)))
          (sends_new (Some (message.Publication p)) s (message.Publication q) (record { entry = h.entry; there = h.there })));
    }
      where
        grown : Grown log log'
        grown = sends_grown (Some (message.Publication p)) s

        here : Published log' p p.term p.version
        here =
            let h = sent_has s in
            record { entry = h.entry; there = h.there; of_term = refl; of_version = refl }

        chain_of_new : (d : model.Descendant) → d ≡ base_of p
            → (q : Publication V) × Published log' q d.nextT d.nextV × Descends log' q d.prevT d.prevV
        chain_of_new d is =
            subst (λ (x : model.Descendant). (q : Publication V) × Published log' q x.nextT x.nextV × Descends log' q x.prevT x.prevV)
            (sym is) (p, here, from_base refl refl)

        chain_of_longer : (d : model.Descendant) → d ∈ map (prolonged p) (such_that (follows p) descendant)
            → (q : Publication V) × Published log' q d.nextT d.nextV × Descends log' q d.prevT d.prevV
        chain_of_longer d h =
            let r = of_map (prolonged p) (such_that (follows p) descendant) d h in
            let e = r.0 in
            let k = of_chosen (follows p) descendant e r.1 in
            let both = and_parts (eqb e.nextT p.base_term) (eqb e.nextV p.base_version) k.1 in
            let c = chains_stay grown e k.0 in
            let base : Published log' c.0 p.base_term p.base_version = record {
              entry = c.1.entry;
              there = c.1.there;
              of_term = c.1.of_term ∙ eqb-true e.nextT p.base_term both.0;
              of_version = c.1.of_version ∙ eqb-true e.nextV p.base_version both.1;
            } in
            subst (λ (x : model.Descendant). (q : Publication V) × Published log' q x.nextT x.nextV × Descends log' q x.prevT x.prevV)
            (sym r.2) (p, here, by_base base c.2)

-- no call but a publication sends a publication
module _ {V : Type 0} (setup : Setup V) (world : World V) where
  pub silent : (concrete effect : Effect V) → ◌≡◌ {A = Option (Effect V)} (Some concrete) (Some effect)
      → ((p : Publication V) → concrete.message ≡ Some (message.Publication p) → ⊥)
      → (p : Publication V) → effect.message ≡ Some (message.Publication p) → ⊥
  silent concrete effect has quiet p h =
      let is : concrete ≡ effect = cc in
      quiet p (ap (λ (x : Effect V). x.message) is ∙ h)

  pub no_message : (p : Publication V) → ◌≡◌ {A = Option (Message V)} None (Some (message.Publication p)) → ⊥
  no_message p h = let z : ◌≡◌ {A = ℕ} 0 1 = cc in omega arith

  pub no_commit : (b : Bool) (c : Commit) (p : Publication V) → cond b (Some (message.Commit c)) None ≡ Some (message.Publication p) → ⊥
  no_commit true c p h = let z : ◌≡◌ {A = ℕ} 0 1 = cc in omega arith
  no_commit false c p h = let z : ◌≡◌ {A = ℕ} 0 1 = cc in omega arith

  pub silent_delivery : (n : ℕ) (found : Option (Entry V)) (effect : Effect V) → delivery_effect setup world n found ≡ Some effect
      → (p : Publication V) → effect.message ≡ Some (message.Publication p) → ⊥
  silent_delivery n None effect has p h = let z : ◌≡◌ {A = ℕ} 0 1 = cc in omega arith
  silent_delivery n (Some (Err why)) effect has p h = let z : ◌≡◌ {A = ℕ} 0 1 = cc in omega arith
  silent_delivery n (Some (Ok (message.Join m))) effect has p h = silent _ effect has no_message p h
  silent_delivery n (Some (Ok (message.Publication m))) effect has p h =
      silent _ effect has (λ q e. let z : ◌≡◌ {A = ℕ} 0 1 = cc in omega arith) p h
  silent_delivery n (Some (Ok (message.Response m))) effect has p h = silent _ effect has (no_commit _ _) p h
  silent_delivery n (Some (Ok (message.Commit m))) effect has p h = silent _ effect has no_message p h

  -- so descendant and the log stay tied
  pub tied_after : (versions : ℕ → ℕ) (descendant : List model.Descendant) (log log' : List (Message V)) → Tied log descendant
      → (call : Call V) (effect : Effect V) → effect_of setup world call ≡ Some effect → Sends log log' effect.message
      → Tied log' (descendant_after setup world versions descendant call)
  tied_after versions descendant log log' tied (bootstrap n) effect has s =
      tied_still log log' descendant tied effect.message s (silent _ effect has no_message)
  tied_after versions descendant log log' tied (start_join n d t) effect has s =
      tied_still log log' descendant tied effect.message s
      (silent _ effect has (λ q e. let z : ◌≡◌ {A = ℕ} 0 1 = cc in omega arith))
  tied_after versions descendant log log' tied (publish n t v value configuration) effect has s =
      let concrete : Effect V = publish_effect setup (get_or world.nodes n (blank setup)) n t v value configuration in
      let is : concrete ≡ effect = cc in
      tied_anew log log' descendant tied _ (subst (λ (x : Effect V). Sends log log' x.message) (sym is) s)
  tied_after versions descendant log log' tied (deliver e n) effect has s =
      tied_still log log' descendant tied effect.message s (silent_delivery n (slice_get world.entries e) effect has)
  tied_after versions descendant log log' tied (restart n) effect has s =
      tied_still log log' descendant tied effect.message s (silent _ effect has no_message)
