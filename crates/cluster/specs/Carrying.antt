-- An effect that is carried out, as the functions of the code do it one after the other. The calls are put together from
-- these.
use Rattle.std.specs.Prelude.{◌≡◌, ℕ, Bool, cond, Ok, Err, Result}
use Rattle.protocol.specs.declared.effect.Effect.{Effect}
use Rattle.protocol.specs.declared.refusal.Refusal.{Refusal}
use Rattle.protocol.specs.declared.refusal.Refusal.TheVariants.{WriteUnfinished}
use Rattle.protocol.specs.Decisions.{restarted}
use Rattle.store.specs.declared.power.Power.{Power}
use Rattle.store.specs.Banks.{store_at}
use Rattle.cluster.specs.States.{State}
use Rattle.cluster.specs.Calls.{Answer, moved, finished, stores_after, if_placed, place_for, change_if, Allowed, AllFit}

-- Node n has made the write of an effect, if one is due, and has its next volatile values; or the write was cut, and the node
-- is restarted from what its store kept.
pub record Settled (before : State) (n : ℕ) (effect : Effect ℕ) (power : Power) (answer : Result (Unit {0}) Refusal) (after : State) : Type 0 where
  pub keeps_new : Bool
  pub allowed : Allowed (store_at before.stores n) effect.change power keeps_new
  pub answered : answer ≡ cond (finished (store_at before.stores n) effect.change power) (Ok tt) (Err WriteUnfinished)
  pub same : after
      ≡ (let stores = stores_after before.stores n effect.change power keeps_new in
      moved before n stores
      (cond (finished (store_at before.stores n) effect.change power) effect.volatile (restarted (store_at stores n).content))
      before.log)

-- Node n has carried out an effect: its message was placed before its write, and added after it.
pub record Carried (before : State) (n : ℕ) (effect : Effect ℕ) (power : Power) (answer : Answer) (after : State) : Type 0 where
  pub keeps_new : Bool
  pub allowed : Allowed (store_at before.stores n) (change_if (place_for before.log effect.message) effect) power keeps_new
  pub fits : AllFit effect.message
  pub same : if_placed before n power keeps_new effect (place_for before.log effect.message) ≡ record { answer = answer; state = after }
