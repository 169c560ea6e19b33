-- A log that is the encoding of a list of messages: what it reads as, and one message more.
use Rattle.std.proofs.Common.{◌≡◌, ℕ, zero, suc, ◌<◌, ◌≤◌, Bool, true, false, cond, ◌==◌, ltb, List, [], ◌∷◌, ◌++◌, map, length, get_or, is_some, Some, None, Ok, Err, Option, Result, sym, refl, ap, ◌∙◌, ap₂, ⊎_elim, arith}
use Rattle.std.specs.List.{slice_get, AllByRecursion}
use Rattle.std.specs.Option.{option_map}
use Rattle.std.proofs.lemmas.List.FromFn.{length-map-range_with_len, get_or-map-range_with_len}
use Rattle.std.proofs.lemmas.Slice.Eq.{bytes_eq-Decides}
use Rattle.std.proofs.lemmas.List.{length-map, map_push}
use Rattle.std.proofs.lemmas.Option.{slice_get-get_or, slice_get_past}
use Rattle.std.proofs.lemmas.Bool.{and_parts, eqb-true, cond-true, cond-false, lt-ltb, le-ltb, cases_lt, false≢true}
use Rattle.protocol.specs.declared.kind.Kind.{Kind}
use Rattle.protocol.specs.declared.kind.Kind.TheVariants as kind
use Rattle.protocol.specs.declared.message.Message.{Message}
use Rattle.protocol.specs.declared.refusal.Refusal.{Refusal}
use Rattle.protocol.specs.declared.refusal.Refusal.TheVariants.{NoSuchEntry}
use Rattle.protocol.specs.Kinds.{kind_number, kind_of_number}
use Rattle.protocol.specs.Messages.{kind_of, legal_message}
use Rattle.protocol.specs.Positions.{position}
use Rattle.message_log.specs.declared.fault.Fault.{Fault}
use Rattle.message_log.specs.Body.{fields_in}
use Rattle.message_log.specs.Faults.{refusal_of}
use Rattle.message_log.specs.Layout.{legal_capacity, well_formed, capacity_of, count_of}
use Rattle.message_log.specs.Rules.{message_with, body_of, Fits}
use Rattle.message_log.specs.Log.{Stored, stored_at, entries, same_stored, stored_as, added, read_as, found_as, message_at, cleared}
use Rattle.message_log.specs.Encoded.{with_all, Encodes}
use Rattle.message_log.proofs.Adding.{holds_added, empty_log, same_itself}
use Rattle.message_log.proofs.RoundTrip.{message_again, reads_back}

-- one more message at the end
with_all_push : (bytes : List ℕ) (messages : List (Message ℕ)) (m : Message ℕ)
    → with_all bytes (messages ++ m ∷ []) ≡ added (with_all bytes messages) (stored_as m)
unfolding with_all
with_all_push bytes [] m = refl
with_all_push bytes (x ∷ messages) m = with_all_push (added bytes (stored_as x)) messages m

-- how many entries a log has
count_of_entries : (bytes : List ℕ) (messages : List (Message ℕ)) → entries bytes ≡ map stored_as messages → count_of bytes ≡ length messages
count_of_entries bytes messages e =
    sym (length-map-range_with_len (stored_at bytes) 0 (count_of bytes)) ∙ ap length e ∙ length-map messages stored_as

-- a cleared log is the encoding of no message
pub cleared_encodes : (c : ℕ) → legal_capacity c ≡ true → Encodes c [] (cleared c)
unfolding with_all
cleared_encodes c h =
    let e = empty_log c h in
    record {
      encoded = refl;
      log = e.log;
      room = e.room;
      many = count_of_entries (cleared c) [] e.none;
      stored = e.none;
    }

-- messages whose numbers fit are equal if they are stored alike
known_kind : (k : Kind) → kind_of_number (kind_number k) ≡ Some k
known_kind kind.Join = refl
known_kind kind.Publication = refl
known_kind kind.Response = refl
known_kind kind.Commit = refl

same_kind : (a b : Kind) → kind_number a ≡ kind_number b → a ≡ b
same_kind a b h =
    let e : Some a ≡ Some b = sym (known_kind a) ∙ ap kind_of_number h ∙ known_kind b in
    cc

pub stored_one_to_one : (a b : Message ℕ) → Fits a → Fits b → stored_as a ≡ stored_as b → a ≡ b
stored_one_to_one a b fa fb h =
    let k = same_kind (kind_of a) (kind_of b) (ap (λ (s : Stored). s.kind) h) in
    let f = sym fa ∙ ap fields_in (ap (λ (s : Stored). s.body) h) ∙ fb in
    sym (message_again a) ∙ ap₂ message_with k f ∙ message_again b

same_stored_is_equal : (x y : Stored) → same_stored x y ≡ true → x ≡ y
same_stored_is_equal x y h =
    let p = and_parts (x.kind == y.kind) _ h in
    ap₂ (λ (k : ℕ) (b : List ℕ). record { kind = k; body = b }) (eqb-true _ _ p.0) ((bytes_eq-Decides x.body y.body).0 p.1)

-- Finding a message among those of a log by its bytes is finding it in the list, whatever test of the list tells equality.
module _ (same : Message ℕ → Message ℕ → Bool) (equal : (a b : Message ℕ) → same a b ≡ true → a ≡ b)
    (itself : (a : Message ℕ) → same a a ≡ true) where
  tests_agree : (m x : Message ℕ) → Fits m → Fits x → same_stored (stored_as m) (stored_as x) ≡ same m x
  tests_agree m x fm fx = go (same_stored (stored_as m) (stored_as x)) refl (same m x) refl
    where
      go : (a : Bool) → same_stored (stored_as m) (stored_as x) ≡ a → (b : Bool) → same m x ≡ b
          → same_stored (stored_as m) (stored_as x) ≡ same m x
      go true p true q = p ∙ sym q
      go false p false q = p ∙ sym q
      go true p false q =
          let e = stored_one_to_one m x fm fx (same_stored_is_equal (stored_as m) (stored_as x) p) in
          absurd (false≢true (sym q ∙ ap (same m) (sym e) ∙ itself m))
      go false p true q =
          let e = equal m x q in
          absurd (false≢true (sym p ∙ ap (λ (y : Message ℕ). same_stored (stored_as m) (stored_as y)) (sym e) ∙ same_itself (stored_as m)))

  pub found_alike : {X : Type 0} (test : X → Bool) (entry : Message ℕ → X) (m : Message ℕ) → ((x : Message ℕ) → test (entry x) ≡ same m x)
      → Fits m → (messages : List (Message ℕ)) → AllByRecursion Fits messages
      → position (same_stored (stored_as m)) (map stored_as messages) ≡ position test (map entry messages)
  unfolding position
  found_alike test entry m is fm [] all = refl
  found_alike test entry m is fm (x ∷ messages) all =
      ap₂ (λ (b : Bool) (o : Option ℕ). cond b (Some 0) (option_map suc o))
      (tests_agree m x fm all.0 ∙ sym (is x))
      (found_alike test entry m is fm messages all.1)

-- one message more, where there is room and it is not there
pub one_more : (c : ℕ) (messages : List (Message ℕ)) (bytes : List ℕ) → Encodes c messages bytes → (m : Message ℕ)
    → position (same_stored (stored_as m)) (entries bytes) ≡ None → count_of bytes < capacity_of bytes
    → Encodes c (messages ++ m ∷ []) (added bytes (stored_as m))
one_more c messages bytes E m none room =
    let h = holds_added bytes (stored_as m) E.log room refl none in
    let stored =
    h.list
    ∙ cond-false (is_some (position (same_stored (stored_as m)) (entries bytes))) _ _ (ap is_some none)
    ∙ ap (λ (l : List Stored). l ++ stored_as m ∷ []) E.stored
    ∙ sym (map_push stored_as messages m)
    in
    record {
      encoded = ap (λ (b : List ℕ). added b (stored_as m)) E.encoded ∙ sym (with_all_push (cleared c) messages m);
      log = h.log;
      room = h.room ∙ E.room;
      many = count_of_entries (added bytes (stored_as m)) (messages ++ m ∷ []) stored;
      stored = stored;
    }

-- reading what a legal message is stored as gives it back
pub read_stored : (n : ℕ) (m : Message ℕ) → Fits m → legal_message n m ≡ true → read_as n (stored_as m) ≡ Ok m
read_stored n m f h =
    ap (λ (r : Result (Message ℕ) Fault). elim r as (λ _. Result (Message ℕ) Refusal) [ Ok x ↦ Ok x | Err fault ↦ Err (refusal_of fault) ])
    (reads_back m (body_of m) refl f n h)

pub all_read : (n : ℕ) (messages : List (Message ℕ)) → AllByRecursion Fits messages → AllByRecursion (λ m. legal_message n m ≡ true) messages
    → map (read_as n) (map stored_as messages) ≡ map Ok messages
all_read n [] f h = refl
all_read n (m ∷ messages) f h = ap₂ ◌∷◌ (read_stored n m f.0 h.0) (all_read n messages f.1 h.1)

-- the message in an entry, and that there is none past the last
module _ (n c : ℕ) (messages : List (Message ℕ)) (bytes : List ℕ) (E : Encodes c messages bytes) where
  looked_up : (e : ℕ) (found : Option Stored) → cond (ltb e (count_of bytes)) (Some (stored_at bytes e)) None ≡ found
      → message_at n bytes e ≡ found_as n found
  looked_up e found h =
      ap (λ (r : Result (Option Stored) Fault). elim r as (λ _. Result (Message ℕ) Refusal) [ Ok o ↦ found_as n o | Err fault ↦ Err (refusal_of fault) ])
      (cond-true (well_formed bytes) _ _ E.log ∙ ap Ok h)

  pub no_message_at : (e : ℕ) → length messages ≤ e → message_at n bytes e ≡ Err NoSuchEntry
  no_message_at e l = looked_up e None (cond-false (ltb e (count_of bytes)) _ _ (le-ltb _ _ (omega (arith, E.many))))

  stored_there : (e : ℕ) → e < length messages → (d : Message ℕ) → stored_at bytes e ≡ stored_as (get_or messages e d)
  stored_there e l d =
      sym (get_or-map-range_with_len (stored_at bytes) 0 (count_of bytes) e e (stored_as d) (omega (arith, E.many)) (omega arith))
      ∙ ap (λ (l : List Stored). get_or l e (stored_as d)) E.stored
      ∙ at messages e
    where
      at : (ms : List (Message ℕ)) (e : ℕ) → get_or (map stored_as ms) e (stored_as d) ≡ stored_as (get_or ms e d)
      at [] e = refl
      at (m ∷ ms) zero = refl
      at (m ∷ ms) (suc e) = at ms e

  pub message_there : (e : ℕ) (m : Message ℕ) → slice_get messages e ≡ Some m → Fits m → legal_message n m ≡ true → message_at n bytes e ≡ Ok m
  message_there e m h f g = ⊎_elim inside outside (cases_lt e (length messages))
    where
      inside : e < length messages → message_at n bytes e ≡ Ok m
      inside l =
          let q = slice_get-get_or messages e m l in
          let s : Some (get_or messages e m) ≡ Some m = sym q ∙ h in
          let is : get_or messages e m ≡ m = cc in
          looked_up e (Some (stored_as m))
          (cond-true (ltb e (count_of bytes)) _ _ (lt-ltb _ _ (omega (arith, E.many)))
          ∙ ap Some (stored_there e l m ∙ ap stored_as is))
          ∙ read_stored n m f g

      outside : length messages ≤ e → message_at n bytes e ≡ Ok m
      outside l =
          let s : Some m ≡ None = sym h ∙ slice_get_past messages e l in
          let z : ◌≡◌ {A = ℕ} 0 1 = cc in
          absurd (omega arith)
