-- Which bodies are valid, and the message that each is.
use Rattle.std.specs.Prelude.{◌≡◌, ℕ, Bool, true, cond, ◌&&◌, List, length, Some, None, Ok, Err, Result, ◌==◌, nat_lt}
use Rattle.quorum.specs.Sets.{nobody, legal_configuration}
use Rattle.protocol.specs.declared.kind.Kind.{Kind}
use Rattle.protocol.specs.declared.kind.Kind.TheVariants as kind
use Rattle.protocol.specs.declared.message.Message.{Message}
use Rattle.protocol.specs.declared.message.Message.TheVariants.{Join, Publication, Response, Commit}
use Rattle.protocol.specs.Kinds.{kind_number, kind_of_number}
use Rattle.protocol.specs.Messages.{everyone, kind_of, legal_message}
use Rattle.message_log.specs.declared.fault.Fault.{Fault}
use Rattle.message_log.specs.declared.fault.Fault.TheVariants.{UnknownKind, InvalidBody}
use Rattle.message_log.specs.declared.fields.Fields.{Fields}
use Rattle.message_log.specs.Layout.{body_length}
use Rattle.message_log.specs.Body.{fields_in, body_with}

-- the fields of a base, where a kind does not use them
abbrev pub no_base : Fields → Bool
no_base f = f.base_term == 0 && f.base_version == 0

-- the value and the configurations, where a kind does not use them
abbrev pub no_content : Fields → Bool
no_content f =
    (f.value == 0) && (f.configuration.bits == 0 && f.committed_configuration.bits == 0)

-- The rules of a body in a cluster of n nodes: the source is a node; so is the destination of a join or a response,
-- and a publication and a commit go to everyone; the configurations of a publication are legal; a field that the
-- kind does not use is zero.
abbrev pub valid : ℕ → Kind → Fields → Bool
valid n kind.Join f = nat_lt f.source n && (nat_lt f.destination n && (f.version == 0 && no_content f))
valid n kind.Publication f =
    nat_lt f.source n
    && (f.destination == everyone
    && (legal_configuration n f.configuration && legal_configuration n f.committed_configuration))
valid n kind.Response f = nat_lt f.source n && (nat_lt f.destination n && (no_base f && no_content f))
valid n kind.Commit f =
    nat_lt f.source n && (f.destination == everyone && (no_base f && no_content f))

-- the message that the fields of a valid body say
abbrev pub message_with : Kind → Fields → Message ℕ
message_with kind.Join f = Join (record {
  source = f.source;
  destination = f.destination;
  term = f.term;
  base_term = f.base_term;
  base_version = f.base_version;
})
message_with kind.Publication f = Publication (record {
  source = f.source;
  term = f.term;
  version = f.version;
  base_term = f.base_term;
  base_version = f.base_version;
  value = f.value;
  configuration = f.configuration;
  committed_configuration = f.committed_configuration;
})
message_with kind.Response f = Response (record {
  source = f.source;
  destination = f.destination;
  term = f.term;
  version = f.version;
})
message_with kind.Commit f = Commit (record { source = f.source; term = f.term; version = f.version })

-- the fields of a message, those that its kind does not use at zero
abbrev pub fields_of : Message ℕ → Fields
fields_of (Join m) = record {
  source = m.source;
  destination = m.destination;
  term = m.term;
  version = 0;
  base_term = m.base_term;
  base_version = m.base_version;
  value = 0;
  configuration = nobody;
  committed_configuration = nobody;
}
fields_of (Publication m) = record {
  source = m.source;
  destination = everyone;
  term = m.term;
  version = m.version;
  base_term = m.base_term;
  base_version = m.base_version;
  value = m.value;
  configuration = m.configuration;
  committed_configuration = m.committed_configuration;
}
fields_of (Response m) = record {
  source = m.source;
  destination = m.destination;
  term = m.term;
  version = m.version;
  base_term = 0;
  base_version = 0;
  value = 0;
  configuration = nobody;
  committed_configuration = nobody;
}
fields_of (Commit m) = record {
  source = m.source;
  destination = everyone;
  term = m.term;
  version = m.version;
  base_term = 0;
  base_version = 0;
  value = 0;
  configuration = nobody;
  committed_configuration = nobody;
}

-- the 26 bytes of a message
abbrev pub body_of : Message ℕ → List ℕ
body_of m = body_with (fields_of m)

-- Reading a body of kind k in a cluster of n nodes: it has its length and keeps the rules, or the fault is an invalid body.
unfoldable pub read_body : ℕ → Kind → List ℕ → Result (Message ℕ) Fault
read_body n k body =
    cond (length body == body_length && valid n k (fields_in body)) (Ok (message_with k (fields_in body))) (Err InvalidBody)

-- Reading a kind and a body: the kind is one of the four, or the fault is an unknown kind; then the body.
abbrev pub read_message : ℕ → ℕ → List ℕ → Result (Message ℕ) Fault
read_message n number body = elim (kind_of_number number) [ None ↦ Err UnknownKind | Some k ↦ read_body n k body ]

-- each number of a message fits its place in a body, as every number of the code does
abbrev pub Fits : Message ℕ → Type 0
Fits m = fields_in (body_of m) ≡ fields_of m

-- One to one: a legal message is read back from its kind and its bytes, ..
abbrev pub ReadsBack : Message ℕ → List ℕ → Type 0
ReadsBack m body = (n : ℕ) → legal_message n m ≡ true → read_message n (kind_number (kind_of m)) body ≡ Ok m

-- .. and a kind and a body that are accepted are the kind and the bytes of the message that was read, which is legal.
pub record WritesBack (n number : ℕ) (body : List ℕ) (m : Message ℕ) : Type 0 where
  pub same_kind : kind_number (kind_of m) ≡ number
  pub same_body : body_of m ≡ body
  pub legal : legal_message n m ≡ true
