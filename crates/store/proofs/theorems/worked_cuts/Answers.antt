use Rattle.std.proofs.Common.{◌≡◌, ℕ, true, List}
use Rattle.protocol.specs.Changes.{changed}
use Rattle.store.specs.Ring.{well_formed, ring, after_change}
use Rattle.store.specs.Slots.{ReadsBack}
use Rattle.store.specs.Stores.{after_write}
use Rattle.store.specs.Theorems.{RingCut}
use Rattle.protocol.specs.declared.change.Change.{Change}
use Rattle.store.proofs.NeverTorn.{sound_after}
use Rattle.store.proofs.theorems.worked_cuts.Goals as goal

module _ (bytes : List ℕ) (change : Change ℕ) (form : well_formed bytes ≡ true) (back : ReadsBack (changed change (ring bytes).content)) where
  even : RingCut bytes change (record { budget = 20; residue = 2 }) (ring bytes).content
  even =
      let after : ring (after_change change (record { budget = 20; residue = 2 }) bytes) ≡ after_write (ring bytes) change (record { budget = 20; residue = 2 }) _ = sound_after bytes change (record { budget = 20; residue = 2 }) form back in
      record { unfinished = cc; reads = cc }

  odd : RingCut bytes change (record { budget = 20; residue = 3 }) (changed change (ring bytes).content)
  odd =
      let after : ring (after_change change (record { budget = 20; residue = 3 }) bytes) ≡ after_write (ring bytes) change (record { budget = 20; residue = 3 }) _ = sound_after bytes change (record { budget = 20; residue = 3 }) form back in
      record { unfinished = cc; reads = cc }

pub returns : goal.returns
returns c = record { even = even; odd = odd }
