-- The ring store: slots for records in lent bytes, filled in turn.
use Rattle.std.specs.Prelude.{◌≡◌, ℕ, ◌≤◌, ◌+◌, ◌*◌, Bool, false, cond, ◌&&◌, List, length, Some, None, Option, ◌==◌, nat_le, nat_lt, slice_index, slice_set}
use Rattle.protocol.specs.declared.record.Record.{Record}
use Rattle.protocol.specs.declared.change.Change.{Change}
use Rattle.store.specs.declared.power.Power.{Power}
use Rattle.protocol.specs.Changes.{changed}
use Rattle.store.specs.Overwriting.{part, spent, overwritten_at, lands}
use Rattle.store.specs.Slots.{term_size, state_size, term_bytes, state_bytes, record_of}
use Rattle.store.specs.Stores.{Meaning, zeros, by_last_write, Written}
use Rattle.store.specs.declared.ring.RingStore.{RingStore}
use Rattle.store.specs.declared.ring_bytes.Slot.{Slot}

-- The form of a ring: three bytes (how many slots, the width of a state, the current slot), then a term
-- for each slot, then a state for each slot.
abbrev pub header_size : ℕ
header_size = 3

abbrev pub current_place : ℕ
current_place = 2

abbrev pub least_slots : ℕ
least_slots = 2

abbrev pub most_slots : ℕ
most_slots = 16

-- a write takes the bytes of one slot, and last the current slot number
abbrev pub ring_size : ℕ
ring_size = term_size + state_size + 1

-- the number of slots, and the current one
abbrev pub slots_of : List ℕ → ℕ
slots_of bytes = slice_index bytes 0

abbrev pub current_of : List ℕ → ℕ
current_of bytes = slice_index bytes current_place

-- whether the bytes have the form
abbrev pub well_formed : List ℕ → Bool
well_formed bytes =
    nat_le least_slots (slots_of bytes) && (nat_le (slots_of bytes) most_slots && (slice_index bytes 1 == state_size
    && (nat_lt (current_of bytes) (slots_of bytes) && length bytes == header_size + (term_size + state_size) * slots_of bytes)))

-- where the term and the state of a slot stand
abbrev pub term_place : (slot : ℕ) → ℕ
term_place slot = header_size + term_size * slot

abbrev pub state_place : (slots slot : ℕ) → ℕ
state_place slots slot = header_size + term_size * slots + state_size * slot

-- that a slot is one of these bytes: its term and its state stand where the form says, and inside
pub record LiesIn (bytes : List ℕ) (slot : Slot) : Type 0 where
  pub term : slot.term ≡ term_place slot.number
  pub state : slot.state ≡ state_place (slots_of bytes) slot.number
  pub inside : slot.state + state_size ≤ length bytes

-- the record in a slot
abbrev pub record_in : (slot : ℕ) → List ℕ → Record ℕ
record_in slot bytes = record_of (part (term_place slot) term_size bytes) (part (state_place (slots_of bytes) slot) state_size bytes)

-- What the bytes mean: the record in the current slot. Bytes without the form are an unsound store.
abbrev pub ring : List ℕ → Meaning
ring bytes = record {
  content = cond (well_formed bytes) (record_in (current_of bytes) bytes) zeros;
  size = ring_size;
  sound = well_formed bytes;
  may_keep = by_last_write ring_size;
}

-- whether the slot number lands, if its turn comes
abbrev pub number_lands : Option Power → Bool
number_lands None = false
number_lands (Some power) = lands power

-- the slot after this one; after the last comes slot 0
abbrev pub next_slot : (slots slot : ℕ) → ℕ
next_slot slots slot = cond (nat_lt (slot + 1) slots) (slot + 1) 0

-- the power that the bytes of a slot leave for the slot number
abbrev pub left_for_number : Power → Option Power
left_for_number power = spent state_size (spent term_size (Some power))

-- The bytes after a record is written to a slot: the power is spent on the term, then on the state.
abbrev pub filled : (slot : ℕ) → Record ℕ → Power → List ℕ → List ℕ
filled slot new power bytes =
    overwritten_at (spent term_size (Some power)) (state_place (slots_of bytes) slot) (state_bytes new)
    (overwritten_at (Some power) (term_place slot) (term_bytes new) bytes)

-- The bytes with this slot as the current one, if the power that is left lets the number land.
abbrev pub turned : (slot : ℕ) → Option Power → List ℕ → List ℕ
turned slot power bytes = cond (number_lands power) (slice_set bytes current_place slot) bytes

-- The bytes after a write, finished or cut: the next slot is filled with the changed record, and last
-- the slot number is written. Bytes without the form stay as they were.
abbrev pub after_change : Change ℕ → Power → List ℕ → List ℕ
after_change change power bytes =
    let slot = next_slot (slots_of bytes) (current_of bytes) in
    cond (well_formed bytes) (turned slot (left_for_number power) (filled slot (changed change (ring bytes).content) power bytes)) bytes

-- A write to a ring store, and its answer: it is a write to a store, every byte is as above, and the bytes
-- are still lent by the same lender.
pub record Rewritten (before : RingStore) (change : Change ℕ) (power : Power) (finished : Bool) (after : RingStore) : Type 0 where
  pub written : Written (ring before.bytes.now) change power finished (ring after.bytes.now)
  pub bytes : after.bytes.now ≡ after_change change power before.bytes.now
  pub lender : after.bytes.ghost_name ≡ before.bytes.ghost_name
