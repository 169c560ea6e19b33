-- What code over any bank knows: an equation, once the record that a cut keeps is given.
use Rattle.std.specs.Prelude.{◌≡◌, ℕ, Bool, true, List, Option}
use Rattle.protocol.specs.declared.record.Record.{Record}
use Rattle.store.specs.Banks.{asked, store_at}
use Rattle.store.specs.Stores.{Meaning, after_write}
use Rattle.protocol.specs.declared.change.Change.{Change}
use Rattle.store.specs.declared.power.Power.{Power}

-- the record that is read after a write: what a finished write leaves, or a cut one as the store allows
pub record ReadAfter (before : List Meaning) (at : ℕ) (change : Change ℕ) (power : Power) (answer : Option (Record ℕ)) : Type 0 where
  pub keeps_new : Bool
  pub allowed : (store_at before at).may_keep change power keeps_new ≡ true
  pub reads : answer ≡ asked (λ store. (after_write store change power keeps_new).content) before at
