-- Reading what was written, and writing what was read.
use Rattle.std.proofs.Common.{◌≡◌, ℕ, ◌+◌, ◌<◌, ◌≤◌, Bool, true, false, ◌&&◌, ◌==◌, nat_lt, List, ◌∷◌, ◌++◌, length, get_or, take, drop, ⊎_elim, Some, Ok, Err, sym, refl, ap, ◌∙◌, arith}
use Rattle.std.proofs.lemmas.Bool.{cond-true, cond-false, and_from, eq-eqb, and_parts, eqb-true, cases_lt}
use Rattle.std.proofs.lemmas.List.{append-nil, drop_more, drop_all, drop-drop, length-drop, length-take, length-take-le, take-append-drop, get_or_past}
use Rattle.std.proofs.lemmas.Bool.Decides.{nat_tests}
use Rattle.std.proofs.lemmas.Nat.{be_bytes_2, be_bytes_4}
use Rattle.protocol.specs.declared.kind.Kind.{Kind}
use Rattle.protocol.specs.declared.kind.Kind.TheVariants as kind
use Rattle.protocol.specs.declared.message.Message.{Message}
use Rattle.protocol.specs.declared.message.Message.TheVariants.{Join, Publication, Response, Commit}
use Rattle.protocol.specs.Kinds.{kind_number, kind_of_number}
use Rattle.protocol.specs.Messages.{everyone, kind_of, legal_message}
use Rattle.message_log.proofs.PutThenRead.{part_at, two_read, four_read}
use Rattle.message_log.specs.declared.fault.Fault.TheVariants.{InvalidBody}
use Rattle.message_log.specs.declared.fields.Fields.{Fields}
use Rattle.message_log.specs.Layout.{two, four, in_two, in_four}
use Rattle.message_log.specs.Body.{fields_in, body_with}
use Rattle.message_log.specs.Rules.{valid, read_body, read_message, message_with, fields_of, body_of, no_base, no_content, ReadsBack, WritesBack}

pub read_valid : (n : ℕ) (k : Kind) (body : List ℕ) → length body ≡ 26 → valid n k (fields_in body) ≡ true
    → read_body n k body ≡ Ok (message_with k (fields_in body))
unfolding read_body
read_valid n k body l v = cond-true _ _ _ (and_from _ _ (eq-eqb _ _ l) v)

-- fields that differ in how their numbers are written only
pub same_fields : (f : Fields) (d t v bt bv x c k : ℕ) → d ≡ f.destination → t ≡ f.term → v ≡ f.version → bt ≡ f.base_term
    → bv ≡ f.base_version → x ≡ f.value → c ≡ f.configuration.bits → k ≡ f.committed_configuration.bits
    → ◌≡◌ {A = Fields} (record {
      source = f.source;
      destination = d;
      term = t;
      version = v;
      base_term = bt;
      base_version = bv;
      value = x;
      configuration = record { bits = c };
      committed_configuration = record { bits = k };
    }) f
same_fields f d t v bt bv x c k ed et ev ebt ebv ex ec ek = rw (ed, et, ev, ebt, ebv, ex, ec, ek) refl

-- bytes come back from the numbers that they are
module _ (body : List ℕ) (long : length body ≡ 26) (bytes : (i : ℕ) → get_or body i 0 < 256) where
  part_byte : (n i k : ℕ) → get_or (take n (drop i body)) k 0 < 256
  part_byte n i k = ⊎_elim inside outside (cases_lt k n)
    where
      inside : k < n → get_or (take n (drop i body)) k 0 < 256
      inside l = rw (part_at body n i k l) (bytes (i + k))

      outside : n ≤ k → get_or (take n (drop i body)) k 0 < 256
      outside l = rw (get_or_past (take n (drop i body)) k 0 (omega (arith, length-take n (drop i body)))) (omega arith)

  part_length : (n i : ℕ) → i + n ≤ 26 → length (take n (drop i body)) ≡ n
  part_length n i h = length-take-le n (drop i body) (omega (arith, length-drop i body))

  part_and_rest : (n i : ℕ) → take n (drop i body) ++ drop (i + n) body ≡ drop i body
  part_and_rest n i =
      ap (λ (d : List ℕ). take n (drop i body) ++ d) (sym (drop-drop n i body)) ∙ take-append-drop n (drop i body)

  two-part : (i : ℕ) → i + 2 ≤ 26 → in_two (two body i) ++ drop (i + 2) body ≡ drop i body
  two-part i h =
      ap (λ (d : List ℕ). d ++ drop (i + 2) body)
      (be_bytes_2 (take 2 (drop i body)) (two body i) (part_length 2 i h) (part_byte 2 i) (sym (two_read body _ i _ refl refl)))
      ∙ part_and_rest 2 i

  four-part : (i : ℕ) → i + 4 ≤ 26 → in_four (four body i) ++ drop (i + 4) body ≡ drop i body
  four-part i h =
      ap (λ (d : List ℕ). d ++ drop (i + 4) body)
      (be_bytes_4 (take 4 (drop i body)) (four body i) (part_length 4 i h) (part_byte 4 i) (sym (four_read body _ i _ refl refl)))
      ∙ part_and_rest 4 i

  -- a body comes back from the numbers that it holds
  pub body_back : body_with (fields_in body) ≡ body
  body_back =
      let from24 : in_two (two body 24) ≡ drop 24 body =
      sym (append-nil _) ∙ ap (λ (d : List ℕ). in_two (two body 24) ++ d) (sym (drop_all 26 body (omega arith)))
      ∙ two-part 24 (omega arith)
      in
      let from22 = ap (λ (d : List ℕ). in_two (two body 22) ++ d) from24 ∙ two-part 22 (omega arith) in
      let from18 = ap (λ (d : List ℕ). in_four (four body 18) ++ d) from22 ∙ four-part 18 (omega arith) in
      let from14 = ap (λ (d : List ℕ). in_four (four body 14) ++ d) from18 ∙ four-part 14 (omega arith) in
      let from10 = ap (λ (d : List ℕ). in_four (four body 10) ++ d) from14 ∙ four-part 10 (omega arith) in
      let from6 = ap (λ (d : List ℕ). in_four (four body 6) ++ d) from10 ∙ four-part 6 (omega arith) in
      let from2 = ap (λ (d : List ℕ). in_four (four body 2) ++ d) from6 ∙ four-part 2 (omega arith) in
      ap (λ (d : List ℕ). get_or body 0 0 ∷ get_or body 1 0 ∷ d) from2
      ∙ sym (ap (λ (d : List ℕ). get_or body 0 0 ∷ d) (drop_more body 1 0 (omega arith)))
      ∙ sym (drop_more body 0 0 (omega arith))

-- The fields of a legal message keep the rules of its kind, and say that message again.
legal_valid : (n : ℕ) (m : Message ℕ) → legal_message n m ≡ true → valid n (kind_of m) (fields_of m) ≡ true
legal_valid n (Join m) h =
    let p = and_parts (nat_lt m.source n) (nat_lt m.destination n) h in
    and_from _ _ p.0 (and_from _ _ p.1 refl)
legal_valid n (Publication m) h = h
legal_valid n (Response m) h =
    let p = and_parts (nat_lt m.source n) (nat_lt m.destination n) h in
    and_from _ _ p.0 (and_from _ _ p.1 refl)
legal_valid n (Commit m) h = and_from _ _ h refl

pub message_again : (m : Message ℕ) → message_with (kind_of m) (fields_of m) ≡ m
message_again (Join m) = refl
message_again (Publication m) = refl
message_again (Response m) = refl
message_again (Commit m) = refl

read_known : (n : ℕ) (k : Kind) (body : List ℕ) → read_message n (kind_number k) body ≡ read_body n k body
read_known n kind.Join body = refl
read_known n kind.Publication body = refl
read_known n kind.Response body = refl
read_known n kind.Commit body = refl

pub reads_back : (m : Message ℕ) (body : List ℕ) → length body ≡ 26 → fields_in body ≡ fields_of m → ReadsBack m body
reads_back m body long e n h =
    read_known n (kind_of m) body
    ∙ read_valid n (kind_of m) body long (ap (valid n (kind_of m)) e ∙ legal_valid n m h)
    ∙ ap Ok (ap (message_with (kind_of m)) e ∙ message_again m)

-- Fields that keep the rules of a kind are those of the message that they say, which is legal.
record NoContent (f : Fields) : Type 0 where
  value : 0 ≡ f.value
  configuration : 0 ≡ f.configuration.bits
  committed : 0 ≡ f.committed_configuration.bits

no_content_parts : (f : Fields) → no_content f ≡ true → NoContent f
no_content_parts f h =
    let p = and_parts (f.value == 0) _ h in
    let q = and_parts (f.configuration.bits == 0) _ p.1 in
    record {
      value = sym (eqb-true _ _ p.0);
      configuration = sym (eqb-true _ _ q.0);
      committed = sym (eqb-true _ _ q.1);
    }

fields_again : (n : ℕ) (k : Kind) (f : Fields) → valid n k f ≡ true → fields_of (message_with k f) ≡ f
fields_again n kind.Join f h =
    let a = and_parts (nat_lt f.source n) _ h in
    let b = and_parts (nat_lt f.destination n) _ a.1 in
    let c = and_parts (f.version == 0) (no_content f) b.1 in
    let d = no_content_parts f c.1 in
    same_fields f _ _ _ _ _ _ _ _ refl refl (sym (eqb-true _ _ c.0)) refl refl d.value d.configuration d.committed
fields_again n kind.Publication f h =
    let a = and_parts (nat_lt f.source n) _ h in
    let b = and_parts (f.destination == everyone) _ a.1 in
    same_fields f _ _ _ _ _ _ _ _ (sym (eqb-true _ _ b.0)) refl refl refl refl refl refl refl
fields_again n kind.Response f h =
    let a = and_parts (nat_lt f.source n) _ h in
    let b = and_parts (nat_lt f.destination n) _ a.1 in
    let c = and_parts (no_base f) (no_content f) b.1 in
    let d = no_content_parts f c.1 in
    let e = and_parts (f.base_term == 0) _ c.0 in
    same_fields f _ _ _ _ _ _ _ _ refl refl refl (sym (eqb-true _ _ e.0)) (sym (eqb-true _ _ e.1))
    d.value d.configuration d.committed
fields_again n kind.Commit f h =
    let a = and_parts (nat_lt f.source n) _ h in
    let b = and_parts (f.destination == everyone) _ a.1 in
    let c = and_parts (no_base f) (no_content f) b.1 in
    let d = no_content_parts f c.1 in
    let e = and_parts (f.base_term == 0) _ c.0 in
    same_fields f _ _ _ _ _ _ _ _ (sym (eqb-true _ _ b.0)) refl refl (sym (eqb-true _ _ e.0))
    (sym (eqb-true _ _ e.1)) d.value d.configuration d.committed

legal_again : (n : ℕ) (k : Kind) (f : Fields) → valid n k f ≡ true → legal_message n (message_with k f) ≡ true
legal_again n kind.Join f h =
    let a = and_parts (nat_lt f.source n) _ h in
    and_from _ _ a.0 (and_parts (nat_lt f.destination n) _ a.1).0
legal_again n kind.Publication f h =
    let a = and_parts (nat_lt f.source n) _ h in
    and_from _ _ a.0 (and_parts (f.destination == everyone) _ a.1).1
legal_again n kind.Response f h =
    let a = and_parts (nat_lt f.source n) _ h in
    and_from _ _ a.0 (and_parts (nat_lt f.destination n) _ a.1).0
legal_again n kind.Commit f h = (and_parts (nat_lt f.source n) _ h).0

kind_again : (k : Kind) (f : Fields) → kind_of (message_with k f) ≡ k
kind_again kind.Join f = refl
kind_again kind.Publication f = refl
kind_again kind.Response f = refl
kind_again kind.Commit f = refl

-- what reading a body of a kind accepts
record Accepted (n : ℕ) (k : Kind) (body : List ℕ) (m : Message ℕ) : Type 0 where
  long : length body ≡ 26
  rules : valid n k (fields_in body) ≡ true
  says : m ≡ message_with k (fields_in body)

accepted : (n : ℕ) (k : Kind) (body : List ℕ) (m : Message ℕ) → read_body n k body ≡ Ok m → Accepted n k body m
unfolding read_body
accepted n k body m h = go (length body == 26 && valid n k (fields_in body)) refl
  where
    go : (b : Bool) → (length body == 26 && valid n k (fields_in body)) ≡ b → Accepted n k body m
    go true e =
        let p = and_parts (length body == 26) (valid n k (fields_in body)) e in
        let q : Ok m ≡ Ok (message_with k (fields_in body)) = sym h ∙ cond-true _ _ _ e in
        record { long = eqb-true _ _ p.0; rules = p.1; says = cc }
    go false e =
        let q : Ok m ≡ Err InvalidBody = sym h ∙ cond-false _ _ _ e in
        let z : ◌≡◌ {A = ℕ} 0 1 = cc in
        absurd (omega arith)

-- the kind that a number stands for has that number
known_number : (n : ℕ) (k : Kind) → kind_of_number n ≡ Some k → kind_number k ≡ n
known_number n kind.Join h = grind (arith, nat_tests)
known_number n kind.Publication h = grind (arith, nat_tests)
known_number n kind.Response h = grind (arith, nat_tests)
known_number n kind.Commit h = grind (arith, nat_tests)

pub writes_back : (n number : ℕ) (k : Kind) (body : List ℕ) (m : Message ℕ) → ((i : ℕ) → get_or body i 0 < 256)
    → kind_of_number number ≡ Some k → read_body n k body ≡ Ok m → WritesBack n number body m
writes_back n number k body m bytes known read =
    let a = accepted n k body m read in
    record {
      same_kind = ap (λ (x : Message ℕ). kind_number (kind_of x)) a.says ∙ ap kind_number (kind_again k (fields_in body))
          ∙ known_number number k known;
      same_body = ap body_of a.says ∙ ap body_with (fields_again n k (fields_in body) a.rules)
          ∙ body_back body a.long bytes;
      legal = ap (legal_message n) a.says ∙ legal_again n k (fields_in body) a.rules;
    }
