-- A bank means the list of its stores. Stores are numbered from 0.
use Rattle.std.specs.Prelude.{◌≡◌, ℕ, ◌-◌, Bool, true, false, cond, ◌&&◌, List, [], ◌∷◌, length, Some, None, Option, nat_lt, slice_index_or, slice_set}
use Rattle.protocol.specs.declared.change.Change.{Change}
use Rattle.store.specs.declared.power.Power.{Power}
use Rattle.store.specs.Stores.{Meaning, zeros, finishes, after_write}

-- the number of stores that a bank can tell; one that has more tells this
abbrev pub most_counted : ℕ
most_counted = 4294967295

-- what stands in the definitions for a store that is not there
abbrev pub absent : Meaning
absent = record { content = zeros; size = 1; sound = false; may_keep = λ _ _ _. true }

-- the store with this number
abbrev pub store_at : List Meaning → ℕ → Meaning
store_at stores at = slice_index_or stores at absent

-- an answer of the store with this number; none says that there is no such store
abbrev pub asked : {X : Type 0} → (Meaning → X) → List Meaning → ℕ → Option X
asked answer stores at = cond (nat_lt at (length stores)) (Some (answer (store_at stores at))) None

-- whether every store is sound
abbrev pub all_sound : List Meaning → Bool
all_sound [] = true
all_sound (store ∷ stores) = store.sound && all_sound stores

-- A write to the store with this number: it does there what a write does, gives that store's answer,
-- and leaves every other store as it was. Where there is no such store nothing changes.
pub record BankWritten (before : List Meaning) (at : ℕ) (change : Change ℕ) (power : Power) (finished : Option Bool) (after : List Meaning) : Type 0 where
  pub answer : finished ≡ asked (λ store. finishes store power) before at
  pub keeps_new : Bool
  pub allowed : (store_at before at).may_keep change power keeps_new ≡ true
  pub same : after ≡ slice_set before at (after_write (store_at before at) change power keeps_new)

-- The number in the right bank of the store `at` of a pair, whose left bank has `left` stores: those
-- come first, and none says that it is one of them.
abbrev pub number_on_right : (left at : ℕ) → Option ℕ
number_on_right left at = cond (nat_lt at left) None (Some (at - left))
