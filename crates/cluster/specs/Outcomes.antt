-- One step or one refusal: what a call may leave, in the words of the subject.
use Rattle.std.specs.Prelude.{◌≡◌, ℕ, ◌⊎◌, Err, ◌≢◌, slice_set}
use Rattle.protocol.specs.declared.change.Change.{Change}
use Rattle.protocol.specs.declared.refusal.Refusal.{Refusal}
use Rattle.protocol.specs.declared.refusal.Refusal.TheVariants.{WriteUnfinished}
use Rattle.protocol.specs.Changes.{changed}
use Rattle.protocol.specs.Decisions.{restarted}
use Rattle.store.specs.Banks.{store_at}
use Rattle.cluster.specs.declared.call.Call.{Call}
use Rattle.cluster.specs.States.{State}
use Rattle.cluster.specs.Calls.{Answer, node_called}

-- the write of node n was cut
pub record CutShort (before : State) (n : ℕ) (after : State) : Type 0 where
  -- its store holds the old record, or the new one whole
  pub change : Change ℕ
  pub kept : ((store_at after.stores n).content ≡ (store_at before.stores n).content)
      ⊎ ((store_at after.stores n).content ≡ changed change (store_at before.stores n).content)
  -- the node is restarted from that record
  pub restart : after.volatile ≡ slice_set before.volatile n (restarted (store_at after.stores n).content)
  -- every other store, the volatile values of every other node, and the log are as they were
  pub others : after.stores ≡ slice_set before.stores n (store_at after.stores n)
  pub log : after.log ≡ before.log
  pub shut : after.shut ≡ before.shut

pub record OneStepOrOneRefusal (before : State) (call : Call) (answer : Answer) (after : State) : Type 0 where
  -- a refusal leaves everything as it was, ..
  pub refused : (why : Refusal) → answer ≡ Err why → (why ≢ WriteUnfinished) → after ≡ before
  -- .. but for that of a write that was cut
  pub cut : answer ≡ Err WriteUnfinished → CutShort before (node_called call) after
