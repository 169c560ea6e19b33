-- The entries of a log: looking one up, adding one, and clearing all.
use Rattle.std.specs.Prelude.{ℕ, ◌+◌, ◌*◌, Bool, cond, ◌&&◌, List, ◌++◌, map, length, take, drop, replicate, Some, None, Ok, Err, Option, Result, ◌==◌, nat_lt, slice_index, slice_set}
use Rattle.std.specs.List.{range_with_len}
use Rattle.std.specs.Option.{option_map}
use Rattle.std.specs.Str.{bytes_eq}
use Rattle.protocol.specs.declared.message.Message.{Message}
use Rattle.protocol.specs.declared.refusal.Refusal.{Refusal}
use Rattle.protocol.specs.declared.refusal.Refusal.TheVariants.{NoSuchEntry}
use Rattle.protocol.specs.Positions.{position}
use Rattle.protocol.specs.Kinds.{kind_number}
use Rattle.protocol.specs.Messages.{kind_of}
use Rattle.message_log.specs.declared.fault.Fault.{Fault}
use Rattle.message_log.specs.declared.fault.Fault.TheVariants.{IllFormedLog, LogFull}
use Rattle.message_log.specs.declared.header.Sizes.{Sizes}
use Rattle.message_log.specs.declared.lookup.StoredEntry.{StoredEntry}
use Rattle.message_log.specs.Layout.{in_two, put, capacity_of, count_of, log_length, legal_capacity, well_formed, kind_place, body_place, body_length}
use Rattle.message_log.specs.Faults.{refusal_of}
use Rattle.message_log.specs.Rules.{body_of, read_message}

-- the sizes of a log
abbrev pub sizes_of : List ℕ → Result Sizes Fault
sizes_of bytes =
    cond (well_formed bytes) (Ok (record { capacity = capacity_of bytes; count = count_of bytes })) (Err IllFormedLog)

-- how many entries a log has
abbrev pub count_in : List ℕ → Result ℕ Fault
count_in bytes = cond (well_formed bytes) (Ok (count_of bytes)) (Err IllFormedLog)

-- An entry as it lies in a log: its kind byte and its body.
pub record Stored : Type 0 where
  pub kind : ℕ
  pub body : List ℕ

-- entry e of a log: byte 4 + e, and the 26 bytes from 4 + c + 26 * e on
abbrev pub stored_at : List ℕ → ℕ → Stored
stored_at bytes e = record {
  kind = slice_index bytes (kind_place e);
  body = take body_length (drop (body_place (capacity_of bytes) e) bytes);
}

-- the entries of a log: those below its count
abbrev pub entries : List ℕ → List Stored
entries bytes = map (stored_at bytes) (range_with_len 0 (count_of bytes))

-- Looking up entry e: the fault of an ill-formed log, or the entry, or none where e is not below the count.
abbrev pub look_up_in : List ℕ → ℕ → Result (Option Stored) Fault
look_up_in bytes e =
    cond (well_formed bytes) (Ok (cond (nat_lt e (count_of bytes)) (Some (stored_at bytes e)) None)) (Err IllFormedLog)

-- what an answer of `look_up` shows
abbrev pub shows : StoredEntry → Stored
shows s = record { kind = s.kind; body = s.body.now }

abbrev pub shown : Result (Option StoredEntry) Fault → Result (Option Stored) Fault
shown (Ok found) = Ok (option_map shows found)
shown (Err fault) = Err fault

-- what a message is stored as
abbrev pub stored_as : Message ℕ → Stored
stored_as m = record { kind = kind_number (kind_of m); body = body_of m }

-- entries are equal in kind and body
abbrev pub same_stored : Stored → Stored → Bool
same_stored x y = x.kind == y.kind && bytes_eq x.body y.body

-- What a call on a log answers, and the bytes that it leaves.
pub record Outcome (X : Type 0) : Type 0 where
  pub answer : Result X Fault
  pub bytes : List ℕ

-- a log with one more entry: its body and kind at the count, and the count raised by one
abbrev pub added : List ℕ → Stored → List ℕ
added bytes x =
    put 2 (in_two (count_of bytes + 1))
    (slice_set (put (body_place (capacity_of bytes) (count_of bytes)) x.body bytes) (kind_place (count_of bytes)) x.kind)

-- Adding an entry to a well-formed log: an equal entry is found, the lowest, and nothing is written; else it is added
-- if there is room; else the log is full, and nothing is written.
abbrev pub add_unless : Option ℕ → List ℕ → Stored → Outcome ℕ
add_unless (Some e) bytes x = record { answer = Ok e; bytes = bytes }
add_unless None bytes x =
    cond (nat_lt (count_of bytes) (capacity_of bytes))
    (record { answer = Ok (count_of bytes); bytes = added bytes x })
    (record { answer = Err LogFull; bytes = bytes })

abbrev pub append_entry : List ℕ → Stored → Outcome ℕ
append_entry bytes x = add_unless (position (same_stored x) (entries bytes)) bytes x

-- Adding an entry to any bytes: nothing is written to what is no log.
abbrev pub append_to : List ℕ → Stored → Outcome ℕ
append_to bytes x =
    cond (well_formed bytes) (append_entry bytes x) (record { answer = Err IllFormedLog; bytes = bytes })

-- Adding a message to any bytes, as a word that callers need not open.
unfoldable pub appended : List ℕ → Message ℕ → Outcome ℕ
appended bytes m = append_to bytes (stored_as m)

-- a log with room for c entries, and none
abbrev pub cleared : ℕ → List ℕ
cleared c = in_two c ++ replicate (2 + 27 * c) 0

-- Clearing bytes to a capacity: the two fit the form of a log, or nothing is written.
abbrev pub clear_to : List ℕ → ℕ → Outcome (Unit {0})
clear_to bytes c =
    cond (legal_capacity c && length bytes == log_length c)
    (record { answer = Ok tt; bytes = cleared c })
    (record { answer = Err IllFormedLog; bytes = bytes })

-- The message in entry e of a log, in a cluster of n nodes; or the refusal: 2 the bytes are no log, 3 there is no such
-- entry, 4 its kind is unknown, 5 its body is against the rules, in this order.
abbrev pub read_as : ℕ → Stored → Result (Message ℕ) Refusal
read_as n s = elim (read_message n s.kind s.body) [ Ok m ↦ Ok m | Err fault ↦ Err (refusal_of fault) ]

abbrev pub found_as : ℕ → Option Stored → Result (Message ℕ) Refusal
found_as n None = Err NoSuchEntry
found_as n (Some s) = read_as n s

abbrev pub message_at : ℕ → List ℕ → ℕ → Result (Message ℕ) Refusal
message_at n bytes e = elim (look_up_in bytes e) [ Ok found ↦ found_as n found | Err fault ↦ Err (refusal_of fault) ]
