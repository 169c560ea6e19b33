-- A record as the bytes of a slot: its term, and its state, which is the five other numbers.
use Rattle.std.specs.Prelude.{◌≡◌, ℕ, List, ◌++◌}
use Rattle.protocol.specs.declared.record.Record.{Record}
pub use Rattle.protocol.specs.Bytes.{two, four, in_two, in_four}

-- how many bytes a term takes, and a state
abbrev pub term_size : ℕ
term_size = 4

abbrev pub state_size : ℕ
state_size = 16

-- the bytes of a record
abbrev pub term_bytes : Record ℕ → List ℕ
term_bytes r = in_four r.current_term

abbrev pub state_bytes : Record ℕ → List ℕ
state_bytes r =
    in_four r.last_accepted_term ++ (in_four r.last_accepted_version ++ (in_four r.last_accepted_value
    ++ (in_two r.last_accepted_configuration.bits ++ in_two r.last_committed_configuration.bits)))

-- the record that a term and a state stand for
abbrev pub record_of : (term state : List ℕ) → Record ℕ
record_of term state = record {
  current_term = four term 0;
  last_accepted_term = four state 0;
  last_accepted_version = four state 4;
  last_accepted_value = four state 8;
  last_accepted_configuration = record { bits = two state 12 };
  last_committed_configuration = record { bits = two state 14 };
}

-- a record whose bytes read as the record again, as every record of the code does
abbrev pub ReadsBack : Record ℕ → Type 0
ReadsBack r = record_of (term_bytes r) (state_bytes r) ≡ r
