-- Lists whose numbers are bytes, and that a log of legal messages is one.
use Rattle.std.proofs.Common.{◌≡◌, ℕ, zero, suc, ◌+◌, ◌*◌, ◌/◌, ◌%◌, ◌<◌, ◌≤◌, true, nat_lt, List, [], ◌∷◌, ◌++◌, length, get_or, take, drop, set, replicate, Some, Ok, refl, arith}
use Rattle.std.specs.List.{slice_get, AllByRecursion}
use Rattle.std.proofs.lemmas.Bool.{and_parts, ltb-true}
use Rattle.protocol.specs.declared.message.Message.{Message}
use Rattle.protocol.specs.declared.message.Message.TheVariants.{Join, Publication, Response, Commit}
use Rattle.protocol.specs.Calls.{Entry, entries_of}
use Rattle.protocol.specs.Kinds.{kind_number}
use Rattle.protocol.specs.Messages.{kind_of, legal_message}
use Rattle.message_log.specs.declared.fields.Fields.{Fields}
use Rattle.message_log.specs.Body.{body_with}
use Rattle.message_log.specs.Encoded.{with_all, encoding}
use Rattle.message_log.specs.Layout.{put, in_two, in_four, capacity_of, count_of, kind_place, body_place}
use Rattle.message_log.specs.Log.{stored_as, added, cleared}
use Rattle.message_log.specs.Rules.{fields_of, body_of}

-- each number of the list is a byte
pub record Octets (l : List ℕ) : Type 0 where
  pub at : (i : ℕ) → get_or l i 0 < 256

none : Octets []
none = record { at = λ i. omega arith }

-- the first, and the others
more : {x : ℕ} {l : List ℕ} → x < 256 → Octets l → Octets (x ∷ l)
more {x} {l} h o = record { at = go }
  where
    go : (i : ℕ) → get_or (x ∷ l) i 0 < 256
    go zero = h
    go (suc i) = o.at i

rest : {x : ℕ} {l : List ℕ} → Octets (x ∷ l) → Octets l
rest o = record { at = λ i. o.at (suc i) }

pub of_take : (n : ℕ) (l : List ℕ) → Octets l → Octets (take n l)
of_take zero l o = none
of_take (suc n) [] o = none
of_take (suc n) (x ∷ l) o = more (o.at 0) (of_take n l (rest o))

pub of_drop : (n : ℕ) (l : List ℕ) → Octets l → Octets (drop n l)
of_drop zero l o = o
of_drop (suc n) [] o = none
of_drop (suc n) (x ∷ l) o = of_drop n l (rest o)

both_of : (a b : List ℕ) → Octets a → Octets b → Octets (a ++ b)
both_of [] b o p = p
both_of (x ∷ a) b o p = more (o.at 0) (both_of a b (rest o) p)

both : {a b : List ℕ} → Octets a → Octets b → Octets (a ++ b)
both {a} {b} = both_of a b

of_set : (l : List ℕ) (n x : ℕ) → x < 256 → Octets l → Octets (set l n x)
of_set [] n x h o = none
of_set (y ∷ l) zero x h o = more h (rest o)
of_set (y ∷ l) (suc n) x h o = more (o.at 0) (of_set l n x h (rest o))

zeros : (n : ℕ) → Octets (replicate n 0)
zeros zero = none
zeros (suc n) = more (omega arith) (zeros n)

byte : (x : ℕ) → x % 256 < 256
byte x = omega arith

of_two : (n : ℕ) → Octets (in_two n)
of_two n = more (byte (n / 256)) (more (byte n) none)

of_four : (n : ℕ) → Octets (in_four n)
of_four n = more (byte (n / 16777216)) (more (byte (n / 65536)) (more (byte (n / 256)) (more (byte n) none)))

of_put : (i : ℕ) (new bytes : List ℕ) → Octets new → Octets bytes → Octets (put i new bytes)
of_put i new bytes p o = both (of_take i bytes o) (both p (of_drop (length new) (drop i bytes) (of_drop i bytes o)))

of_body : (f : Fields) → f.source < 256 → f.destination < 256 → Octets (body_with f)
of_body f s d =
    more s
    (more d
    (both (of_four f.term)
    (both (of_four f.version)
    (both (of_four f.base_term)
    (both (of_four f.base_version)
    (both (of_four f.value) (both (of_two f.configuration.bits) (of_two f.committed_configuration.bits))))))))

module _ (n : ℕ) (few : n ≤ 16) where
  -- a node's number is a byte
  small : (k : ℕ) → nat_lt k n ≡ true → k < 256
  small k h = omega (arith, ltb-true k n h)

  -- the body of a legal message
  of_message : (m : Message ℕ) → legal_message n m ≡ true → Octets (body_of m)
  of_message (Join m) h =
      let p = and_parts (nat_lt m.source n) (nat_lt m.destination n) h in
      of_body (fields_of (Join m)) (small m.source p.0) (small m.destination p.1)
  of_message (Publication m) h =
      let p = and_parts (nat_lt m.source n) _ h in
      of_body (fields_of (Publication m)) (small m.source p.0) (omega arith)
  of_message (Response m) h =
      let p = and_parts (nat_lt m.source n) (nat_lt m.destination n) h in
      of_body (fields_of (Response m)) (small m.source p.0) (small m.destination p.1)
  of_message (Commit m) h = of_body (fields_of (Commit m)) (small m.source h) (omega arith)

  of_kind : (m : Message ℕ) → kind_number (kind_of m) < 256
  of_kind (Join m) = omega arith
  of_kind (Publication m) = omega arith
  of_kind (Response m) = omega arith
  of_kind (Commit m) = omega arith

  of_added : (bytes : List ℕ) (m : Message ℕ) → legal_message n m ≡ true → Octets bytes → Octets (added bytes (stored_as m))
  of_added bytes m h o =
      of_put 2 (in_two (count_of bytes + 1)) _ (of_two (count_of bytes + 1))
      (of_set _ (kind_place (count_of bytes)) (kind_number (kind_of m)) (of_kind m)
      (of_put (body_place (capacity_of bytes) (count_of bytes)) (body_of m) bytes (of_message m h) o))

  of_all : (messages : List (Message ℕ)) → AllByRecursion (λ m. legal_message n m ≡ true) messages → (bytes : List ℕ) → Octets bytes → Octets (with_all bytes messages)
  unfolding with_all
  of_all [] h bytes o = o
  of_all (m ∷ messages) h bytes o = of_all messages h.1 (added bytes (stored_as m)) (of_added bytes m h.0 o)

  -- the encoding of legal messages
  pub of_encoding : (c : ℕ) (messages : List (Message ℕ)) → AllByRecursion (λ m. legal_message n m ≡ true) messages → Octets (encoding c messages)
  of_encoding c messages h =
      of_all messages h (cleared c) (both (of_two c) (zeros (2 + 27 * c)))

-- what holds of each entry holds of each message
pub of_each : (P : Message ℕ → Type 0) (messages : List (Message ℕ))
    → ((e : ℕ) (m : Message ℕ) → slice_get {X = Entry ℕ} (entries_of messages) e ≡ Some (Ok m) → P m) → AllByRecursion P messages
of_each P [] h = tt
of_each P (m ∷ messages) h = (h 0 m refl, of_each P messages (λ e x k. h (suc e) x k))
