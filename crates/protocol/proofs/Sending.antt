-- Equal messages, and the log after a message is sent.
use Rattle.std.proofs.Common.{◌≡◌, ℕ, zero, suc, Bool, true, false, eqb, List, [], ◌∷◌, Some, None, Decides, Option, sym, refl, ap, ◌∙◌, arith}
use Rattle.std.specs.List.{slice_get}
use Rattle.std.specs.Option.{option_map}
use Rattle.std.proofs.lemmas.Bool.{and_parts, and_from, eqb-true, eq-eqb, cond-true, cond-false, false≢true, both_ways}
use Rattle.quorum.specs.declared.node_set.NodeSet.{NodeSet}
use Rattle.protocol.specs.declared.message.Publication.{Publication}
use Rattle.protocol.specs.declared.message.Message.{Message}
use Rattle.protocol.specs.declared.message.Message.TheVariants as message
use Rattle.protocol.specs.Decisions.{Setup, same_set}
use Rattle.protocol.specs.Positions.{position}
use Rattle.protocol.specs.Calls.{entries_of, same_message, is_message}
use Rattle.protocol.proofs.Log.{Has}

pub same_bits : (a b : NodeSet) → same_set a b ≡ true → a ≡ b
same_bits a b h = ap (λ (n : ℕ). record { bits = n }) (eqb-true a.bits b.bits h)

module _ {V : Type 0} (setup : Setup V) (values : (x y : V) → Decides (setup.same_value x y) (x ≡ y)) where
  same_publications : (a b : Publication V) → same_message setup (message.Publication a) (message.Publication b) ≡ true → a ≡ b
  same_publications a b h =
      let p1 = and_parts (eqb a.source b.source) _ h in
      let p2 = and_parts (eqb a.term b.term) _ p1.1 in
      let p3 = and_parts (eqb a.version b.version) _ p2.1 in
      let p4 = and_parts (eqb a.base_term b.base_term) _ p3.1 in
      let p5 = and_parts (eqb a.base_version b.base_version) _ p4.1 in
      let p6 = and_parts (setup.same_value a.value b.value) _ p5.1 in
      let p7 = and_parts (same_set a.configuration b.configuration) (same_set a.committed_configuration b.committed_configuration) p6.1 in
      let e1 = eqb-true a.source b.source p1.0 in
      let e2 = eqb-true a.term b.term p2.0 in
      let e3 = eqb-true a.version b.version p3.0 in
      let e4 = eqb-true a.base_term b.base_term p4.0 in
      let e5 = eqb-true a.base_version b.base_version p5.0 in
      let e6 = (values a.value b.value).0 p6.0 in
      let e7 = same_bits a.configuration b.configuration p7.0 in
      let e8 = same_bits a.committed_configuration b.committed_configuration p7.1 in
      λ i. record {
        source = e1 i;
        term = e2 i;
        version = e3 i;
        base_term = e4 i;
        base_version = e5 i;
        value = e6 i;
        configuration = e7 i;
        committed_configuration = e8 i;
      }

  -- a message that is found equal is equal
  pub same_is_equal : (a b : Message V) → same_message setup a b ≡ true → a ≡ b
  same_is_equal (message.Publication a) (message.Publication b) h = ap message.Publication (same_publications a b h)
  same_is_equal (message.Join a) (message.Join b) h =
      let p1 = and_parts (eqb a.source b.source) _ h in
      let p2 = and_parts (eqb a.destination b.destination) _ p1.1 in
      let p3 = and_parts (eqb a.term b.term) _ p2.1 in
      let p4 = and_parts (eqb a.base_term b.base_term) (eqb a.base_version b.base_version) p3.1 in
      let e1 = eqb-true a.source b.source p1.0 in
      let e2 = eqb-true a.destination b.destination p2.0 in
      let e3 = eqb-true a.term b.term p3.0 in
      let e4 = eqb-true a.base_term b.base_term p4.0 in
      let e5 = eqb-true a.base_version b.base_version p4.1 in
      λ i. message.Join (record { source = e1 i; destination = e2 i; term = e3 i; base_term = e4 i; base_version = e5 i })
  same_is_equal (message.Response a) (message.Response b) h =
      let p1 = and_parts (eqb a.source b.source) _ h in
      let p2 = and_parts (eqb a.destination b.destination) _ p1.1 in
      let p3 = and_parts (eqb a.term b.term) (eqb a.version b.version) p2.1 in
      let e1 = eqb-true a.source b.source p1.0 in
      let e2 = eqb-true a.destination b.destination p2.0 in
      let e3 = eqb-true a.term b.term p3.0 in
      let e4 = eqb-true a.version b.version p3.1 in
      λ i. message.Response (record { source = e1 i; destination = e2 i; term = e3 i; version = e4 i })
  same_is_equal (message.Commit a) (message.Commit b) h =
      let p1 = and_parts (eqb a.source b.source) _ h in
      let p2 = and_parts (eqb a.term b.term) (eqb a.version b.version) p1.1 in
      let e1 = eqb-true a.source b.source p1.0 in
      let e2 = eqb-true a.term b.term p2.0 in
      let e3 = eqb-true a.version b.version p2.1 in
      λ i. message.Commit (record { source = e1 i; term = e2 i; version = e3 i })
  same_is_equal (message.Join a) (message.Publication b) h = absurd (false≢true h)
  same_is_equal (message.Join a) (message.Response b) h = absurd (false≢true h)
  same_is_equal (message.Join a) (message.Commit b) h = absurd (false≢true h)
  same_is_equal (message.Publication a) (message.Join b) h = absurd (false≢true h)
  same_is_equal (message.Publication a) (message.Response b) h = absurd (false≢true h)
  same_is_equal (message.Publication a) (message.Commit b) h = absurd (false≢true h)
  same_is_equal (message.Response a) (message.Join b) h = absurd (false≢true h)
  same_is_equal (message.Response a) (message.Publication b) h = absurd (false≢true h)
  same_is_equal (message.Response a) (message.Commit b) h = absurd (false≢true h)
  same_is_equal (message.Commit a) (message.Join b) h = absurd (false≢true h)
  same_is_equal (message.Commit a) (message.Publication b) h = absurd (false≢true h)
  same_is_equal (message.Commit a) (message.Response b) h = absurd (false≢true h)

  itself : (n : ℕ) → eqb n n ≡ true
  itself n = eq-eqb n n refl

  -- a message is found equal to itself
  pub same_itself : (m : Message V) → same_message setup m m ≡ true
  same_itself (message.Join a) =
      and_from _ _ (itself a.source)
      (and_from _ _ (itself a.destination)
      (and_from _ _ (itself a.term) (and_from _ _ (itself a.base_term) (itself a.base_version))))
  same_itself (message.Publication a) =
      and_from _ _ (itself a.source)
      (and_from _ _ (itself a.term)
      (and_from _ _ (itself a.version)
      (and_from _ _ (itself a.base_term)
      (and_from _ _ (itself a.base_version)
      (and_from _ _ ((values a.value a.value).1 refl)
      (and_from _ _ (itself a.configuration.bits) (itself a.committed_configuration.bits)))))))
  same_itself (message.Response a) =
      and_from _ _ (itself a.source)
      (and_from _ _ (itself a.destination) (and_from _ _ (itself a.term) (itself a.version)))
  same_itself (message.Commit a) =
      and_from _ _ (itself a.source) (and_from _ _ (itself a.term) (itself a.version))

  -- a message that has a position is in the log at that entry ..
  pub found_there : (m : Message V) (log : List (Message V)) (e : ℕ) → position (is_message setup m) (entries_of log) ≡ Some e
      → slice_get log e ≡ Some m
  unfolding position
  found_there m [] e h =
      let z : ◌≡◌ {A = ℕ} 0 1 = cc in
      absurd (omega arith)
  found_there m (x ∷ log) e h = go (found_there m log) (same_message setup m x) refl (position (is_message setup m) (entries_of log)) refl e h
    where
      go : ((e : ℕ) → position (is_message setup m) (entries_of log) ≡ Some e → slice_get log e ≡ Some m)
          → (b : Bool) → same_message setup m x ≡ b → (o : Option ℕ) → position (is_message setup m) (entries_of log) ≡ o
          → (e : ℕ) → position (is_message setup m) (entries_of (x ∷ log)) ≡ Some e → slice_get (x ∷ log) e ≡ Some m
      go rest true s o p zero k = ap Some (sym (same_is_equal m x s))
      go rest true s o p (suc e) k =
          let q : ◌≡◌ {A = Option ℕ} (Some 0) (Some (suc e)) = sym (cond-true (same_message setup m x) _ _ s) ∙ k in
          let z : 0 ≡ suc e = cc in
          absurd (omega arith)
      go rest false s None p e k =
          let q : ◌≡◌ {A = Option ℕ} None (Some e) = sym (cond-false (same_message setup m x) _ _ s ∙ ap (option_map suc) p) ∙ k in
          let z : ◌≡◌ {A = ℕ} 0 1 = cc in
          absurd (omega arith)
      go rest false s (Some j) p zero k =
          let q : ◌≡◌ {A = Option ℕ} (Some (suc j)) (Some 0) = sym (cond-false (same_message setup m x) _ _ s ∙ ap (option_map suc) p) ∙ k in
          let z : suc j ≡ 0 = cc in
          absurd (omega arith)
      go rest false s (Some j) p (suc e) k =
          let q : ◌≡◌ {A = Option ℕ} (Some (suc j)) (Some (suc e)) = sym (cond-false (same_message setup m x) _ _ s ∙ ap (option_map suc) p) ∙ k in
          let z : suc j ≡ suc e = cc in
          let y : j ≡ e = omega arith in
          rest e (p ∙ ap Some y)

  -- .. and one that has none is not in the log
  absent : (m : Message V) (log : List (Message V)) → position (is_message setup m) (entries_of log) ≡ None
      → (e : ℕ) → slice_get log e ≡ Some m → ⊥
  unfolding position
  absent m [] h e there =
      let z : ◌≡◌ {A = ℕ} 0 1 = cc in
      omega arith
  absent m (x ∷ log) h e there = go (absent m log) (same_message setup m x) refl (position (is_message setup m) (entries_of log)) refl e there
    where
      go : (position (is_message setup m) (entries_of log) ≡ None → (e : ℕ) → slice_get log e ≡ Some m → ⊥)
          → (b : Bool) → same_message setup m x ≡ b → (o : Option ℕ) → position (is_message setup m) (entries_of log) ≡ o
          → (e : ℕ) → slice_get (x ∷ log) e ≡ Some m → ⊥
      go rest true s o p e k =
          let q : ◌≡◌ {A = Option ℕ} (Some 0) None = sym (cond-true (same_message setup m x) _ _ s) ∙ h in
          let z : ◌≡◌ {A = ℕ} 0 1 = cc in
          omega arith
      go rest false s (Some j) p e k =
          let q : ◌≡◌ {A = Option ℕ} (Some (suc j)) None = sym (cond-false (same_message setup m x) _ _ s ∙ ap (option_map suc) p) ∙ h in
          let z : ◌≡◌ {A = ℕ} 0 1 = cc in
          omega arith
      go rest false s None p zero k =
          let q : x ≡ m = cc in
          both_ways (same_message setup m x) s (ap (same_message setup m) q ∙ same_itself m)
      go rest false s None p (suc e) k = rest p e k

  pub not_found : (m : Message V) (log : List (Message V)) → position (is_message setup m) (entries_of log) ≡ None → Has log m → ⊥
  not_found m log h has = absent m log h has.entry has.there
