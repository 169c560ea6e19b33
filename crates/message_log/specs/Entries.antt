-- An entry as read: its kind, its 26 bytes, and the message that they say.
use Rattle.std.specs.Prelude.{◌≡◌, ℕ, List, Ok, Err, Result}
use Rattle.protocol.specs.declared.kind.Kind.{Kind}
use Rattle.protocol.specs.declared.kind.Kind.TheVariants as kind
use Rattle.protocol.specs.declared.message.Message.{Message}
use Rattle.message_log.specs.declared.fault.Fault.{Fault}
use Rattle.message_log.specs.declared.entry.Entry.{Entry}
use Rattle.message_log.specs.declared.entry.Entry.TheVariants.{Join, Publication, Response, Commit}
use Rattle.message_log.specs.Body.{fields_in}
use Rattle.message_log.specs.Rules.{message_with}

abbrev pub entry_kind : Entry → Kind
entry_kind (Join body) = kind.Join
entry_kind (Publication body) = kind.Publication
entry_kind (Response body) = kind.Response
entry_kind (Commit body) = kind.Commit

abbrev pub entry_body : Entry → List ℕ
entry_body (Join body) = body.now
entry_body (Publication body) = body.now
entry_body (Response body) = body.now
entry_body (Commit body) = body.now

abbrev pub entry_message : Entry → Message ℕ
entry_message entry = message_with (entry_kind entry) (fields_in (entry_body entry))

-- What reading answers: an entry that says the message and holds the very bytes of the body, or the fault.
abbrev pub Answered : Result (Message ℕ) Fault → List ℕ → Result Entry Fault → Type 0
Answered message body (Ok entry) = (message ≡ Ok (entry_message entry)) × (entry_body entry ≡ body)
Answered message body (Err fault) = message ≡ Err fault
