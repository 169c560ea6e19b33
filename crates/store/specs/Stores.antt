-- What a store means, what holds of every store, and what a write does.
use Rattle.std.specs.Prelude.{◌≡◌, ℕ, ◌+◌, ◌%◌, ◌≤◌, Bool, true, false, cond, not, ◌&&◌, ◌||◌, ◌==◌, nat_le}
use Rattle.protocol.specs.declared.record.Record.{Record}
use Rattle.protocol.specs.declared.change.Change.{Change}
use Rattle.store.specs.declared.power.Power.{Power}
use Rattle.protocol.specs.Changes.{changed}

-- A store, as its callers see it.
pub record Meaning : Type 0 where
  -- the record that it holds
  pub content : Record ℕ
  -- how many byte writes a write takes
  pub size : ℕ
  -- whether it can hold a record at all
  pub sound : Bool
  -- which record a write may leave when the power cuts it: under this change and this power,
  -- the new one (true), the old one (false), or either
  pub may_keep : Change ℕ → Power → Bool → Bool

-- the record of six zeros
abbrev pub zeros : Record ℕ
zeros = record {
  current_term = 0;
  last_accepted_term = 0;
  last_accepted_version = 0;
  last_accepted_value = 0;
  last_accepted_configuration = record { bits = 0 };
  last_committed_configuration = record { bits = 0 };
}

-- What holds of every store: the limits of the write size, and an unsound store reads as zeros.
pub record Lawful (store : Meaning) : Type 0 where
  pub at_least : 1 ≤ store.size
  pub at_most : store.size ≤ 4096
  pub no_record : store.sound ≡ false → store.content ≡ zeros

-- whether a write finishes: the store is sound, and the budget reaches the write size
abbrev pub finishes : Meaning → Power → Bool
finishes store power = store.sound && nat_le store.size power.budget

-- the store after a write: a finished one leaves the new record; a cut one, in a sound store, leaves
-- the new record or the old, whole; nothing else ever changes
abbrev pub after_write : Meaning → Change ℕ → Power → (keeps_new : Bool) → Meaning
after_write store change power keeps_new = record {
  content = cond (finishes store power || (store.sound && keeps_new)) (changed change store.content) store.content;
  size = store.size;
  sound = store.sound;
  may_keep = store.may_keep;
}

-- A write and its answer: whether it finished, and a store that holds what a write may leave.
pub record Written (before : Meaning) (change : Change ℕ) (power : Power) (finished : Bool) (after : Meaning) : Type 0 where
  pub answer : finished ≡ finishes before power
  pub keeps_new : Bool
  pub allowed : before.may_keep change power keeps_new ≡ true
  pub same : after ≡ after_write before change power keeps_new

-- Our own stores leave nothing open: a cut write keeps the new record exactly when the byte write
-- that is caught is the last one and the residue is odd.
abbrev pub last_lands : ℕ → Power → Bool
last_lands size power = power.budget + 1 == size && power.residue % 2 == 1

abbrev pub by_last_write : ℕ → Change ℕ → Power → Bool → Bool
by_last_write size change power true = last_lands size power
by_last_write size change power false = not (last_lands size power)
