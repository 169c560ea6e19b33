-- What follows from the definitions, in the words of the subject. Contracts name these, so they are proved.
use Rattle.std.specs.Prelude.{◌≡◌, ℕ, Bool, true, false, ◌⊎◌, List}
use Rattle.protocol.specs.declared.record.Record.{Record}
use Rattle.protocol.specs.Changes.{changed}
use Rattle.store.specs.Ring.{well_formed, ring, after_change}
use Rattle.store.specs.Slots.{ReadsBack}
use Rattle.store.specs.Stores.{Meaning, finishes, Written}
use Rattle.protocol.specs.declared.change.Change.{Change}
use Rattle.store.specs.declared.power.Power.{Power}

-- No write tears a record, in whatever store.
pub record NeverTorn : Type 0 where
  -- a finished write leaves the new record
  pub finished : (before after : Meaning) (change : Change ℕ) (power : Power) → Written before change power true after
      → after.content ≡ changed change before.content
  -- a cut one leaves the old record or the new one, whole
  pub cut : (before after : Meaning) (change : Change ℕ) (power : Power) → Written before change power false after
      → (after.content ≡ before.content) ⊎ (after.content ≡ changed change before.content)
  -- an unsound store stays as it was, and its writes are unfinished
  pub unsound : (before after : Meaning) (change : Change ℕ) (power : Power) (answer : Bool) → Written before change power answer after
      → before.sound ≡ false → (answer ≡ false) × (after ≡ before)
  -- the write size, the soundness and what a cut may keep never change
  pub lasting : (before after : Meaning) (change : Change ℕ) (power : Power) (answer : Bool) → Written before change power answer after
      → (after.size ≡ before.size) × (after.sound ≡ before.sound) × (after.may_keep ≡ before.may_keep)

-- a cut write to a ring, and the record that is read afterwards
pub record RingCut (bytes : List ℕ) (change : Change ℕ) (power : Power) (kept : Record ℕ) : Type 0 where
  pub unfinished : finishes (ring bytes) power ≡ false
  pub reads : (ring (after_change change power bytes)).content ≡ kept

-- Two worked cuts, of any ring and any change: all but the slot number is written. With residue 2 the old
-- record is read afterwards, with residue 3 the new one.
pub record WorkedCuts : Type 0 where
  pub even : (bytes : List ℕ) (change : Change ℕ) → well_formed bytes ≡ true → ReadsBack (changed change (ring bytes).content)
      → RingCut bytes change (record { budget = 20; residue = 2 }) (ring bytes).content
  pub odd : (bytes : List ℕ) (change : Change ℕ) → well_formed bytes ≡ true → ReadsBack (changed change (ring bytes).content)
      → RingCut bytes change (record { budget = 20; residue = 3 }) (changed change (ring bytes).content)
