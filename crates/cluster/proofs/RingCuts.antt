-- A call whose write to a ring is cut at the slot number.
use Rattle.std.proofs.Common.{◌≡◌, ℕ, ◌<◌, ◌≤◌, Bool, true, false, cond, ◌&&◌, ◌||◌, List, length, Some, Ok, Err, Option, Result, sym, refl, ap, ◌∙◌, subst, ⊎_elim}
use Rattle.std.proofs.lemmas.List.{get_or-set_same, get_or_past}
use Rattle.std.proofs.lemmas.Bool.{cond-false, cases_lt, false≢true}
use Rattle.protocol.proofs.Log.{impossible}
use Rattle.protocol.specs.declared.change.Change.{Change}
use Rattle.protocol.specs.declared.effect.Effect.{Effect}
use Rattle.protocol.specs.declared.record.Record.{Record}
use Rattle.protocol.specs.declared.refusal.Refusal.{Refusal}
use Rattle.protocol.specs.Changes.{changed}
use Rattle.protocol.specs.Decisions.{Setup}
use Rattle.message_log.specs.declared.fault.Fault.{Fault}
use Rattle.store.specs.declared.power.Power.{Power}
use Rattle.store.specs.Banks.{store_at, absent}
use Rattle.store.specs.Ring.{ring}
use Rattle.store.specs.Stores.{Meaning, finishes, after_write}
use Rattle.cluster.specs.declared.call.Call.{Call}
use Rattle.cluster.specs.States.{State}
use Rattle.cluster.specs.Calls.{Answer, Outcome, Step, Allowed, node_called, power_of, decision, change_in, change_if, place_for, finished, stores_after, taken, cut, if_placed, carried_out}
use Rattle.cluster.specs.WorkedCases.{WritesToRing, WasCut, all_but_one}

-- A write that is due and does not finish is cut.
module _ (before : State) (n : ℕ) (power : Power) (keeps_new : Bool) (change : Change ℕ) where
  abbrev left : List Meaning
  left = stores_after before.stores n (Some change) power keeps_new

  module _ (unfinished : finishes (store_at before.stores n) power ≡ false) where
    cut-if_placed : (effect : Effect ℕ) (p : Result (Option ℕ) Fault) → change_if p effect ≡ Some change
        → if_placed before n power keeps_new effect p ≡ cut before n left
    cut-if_placed effect (Err fault) e = impossible cc
    cut-if_placed effect (Ok entry) e =
        ap (λ (c : Option (Change ℕ)). cond (finished (store_at before.stores n) c power)
        (taken before n (stores_after before.stores n c power keeps_new) effect entry)
        (cut before n (stores_after before.stores n c power keeps_new))) e
        ∙ cond-false (finishes (store_at before.stores n) power) (taken before n left effect entry) (cut before n left) unfinished

    cut_if_due : (d : Result (Effect ℕ) Refusal) → change_in before.log d ≡ Some change
        → carried_out before n power keeps_new d ≡ cut before n left
    cut_if_due (Err why) e = impossible cc
    cut_if_due (Ok effect) e = cut-if_placed effect (place_for before.log effect.message) e

module _ (setup : Setup ℕ) (before after : State) (call : Call) (answer : Answer) (bytes : List ℕ) (change : Change ℕ)
    (w : WritesToRing setup before call bytes change) (residue : ℕ) (powered : power_of call ≡ all_but_one residue) (s : Step setup before call answer after) where
  abbrev n : ℕ
  n = node_called call

  abbrev store : Meaning
  store = store_at before.stores n

  abbrev kept_by : Bool → Record ℕ
  kept_by b = cond b (changed change (ring bytes).content) (ring bytes).content

  -- such a store is there
  known : n < length before.stores
  known = ⊎_elim (λ l. l) outside (cases_lt n (length before.stores))
    where
      outside : length before.stores ≤ n → n < length before.stores
      outside l =
          absurd (false≢true (sym (ap (λ (m : Meaning). m.sound) (get_or_past before.stores n absent l)) ∙ ap (λ (m : Meaning). m.sound) w.held ∙ w.formed))

  unfinished : finishes store (power_of call) ≡ false
  unfinished =
      ap (λ (p : Power). finishes store p) powered
      ∙ ap (λ (m : Meaning). finishes m (all_but_one residue)) w.held
      ∙ ap (λ (b : Bool). b && false) w.formed

  -- the store may keep what a ring may keep
  pub ring_keeps : (ring bytes).may_keep change (all_but_one residue) s.keeps_new ≡ true
  ring_keeps =
      subst (λ (m : Meaning). Allowed m (Some change) (all_but_one residue) s.keeps_new) w.held
      (subst (λ (p : Power). Allowed store (Some change) p s.keeps_new) powered
      (subst (λ (c : Option (Change ℕ)). Allowed store c (power_of call) s.keeps_new) w.due s.allowed))

  was_cut : cut before n (stores_after before.stores n (Some change) (power_of call) s.keeps_new) ≡ record { answer = answer; state = after }
  was_cut =
      sym (cut_if_due before n (power_of call) s.keeps_new change unfinished (decision setup before call) w.due) ∙ s.same

  content_left : (after_write store change (power_of call) s.keeps_new).content ≡ kept_by s.keeps_new
  content_left =
      ap (λ (b : Bool). cond (b || (store.sound && s.keeps_new)) (changed change store.content) store.content) unfinished
      ∙ ap (λ (m : Meaning). cond (m.sound && s.keeps_new) (changed change m.content) m.content) w.held
      ∙ ap (λ (b : Bool). cond (b && s.keeps_new) (changed change (ring bytes).content) (ring bytes).content) w.formed

  pub ring_cut : (b : Bool) → s.keeps_new ≡ b → WasCut before call answer after (kept_by b)
  ring_cut b k = record {
    answered = sym (ap (λ (o : Outcome). o.answer) was_cut);
    holds = sym (ap (λ (o : Outcome). (store_at o.state.stores n).content) was_cut)
        ∙ ap (λ (m : Meaning). m.content) (get_or-set_same before.stores n (after_write store change (power_of call) s.keeps_new) absent known)
        ∙ content_left
        ∙ ap kept_by k;
    log = sym (ap (λ (o : Outcome). o.state.log) was_cut);
  }

-- with an even residue the ring keeps the old record, with an odd one the new
pub even : (setup : Setup ℕ) (before after : State) (call : Call) (answer : Answer) (bytes : List ℕ) (change : Change ℕ)
    → WritesToRing setup before call bytes change → power_of call ≡ all_but_one 2 → Step setup before call answer after
    → WasCut before call answer after (ring bytes).content
even setup before after call answer bytes change w powered s =
    ring_cut setup before after call answer bytes change w 2 powered s false
    (old s.keeps_new (ring_keeps setup before after call answer bytes change w 2 powered s))
  where
    old : (b : Bool) → (ring bytes).may_keep change (all_but_one 2) b ≡ true → b ≡ false
    old true e = absurd (false≢true e)
    old false e = refl

pub odd : (setup : Setup ℕ) (before after : State) (call : Call) (answer : Answer) (bytes : List ℕ) (change : Change ℕ)
    → WritesToRing setup before call bytes change → power_of call ≡ all_but_one 3 → Step setup before call answer after
    → WasCut before call answer after (changed change (ring bytes).content)
odd setup before after call answer bytes change w powered s =
    ring_cut setup before after call answer bytes change w 3 powered s true
    (new s.keeps_new (ring_keeps setup before after call answer bytes change w 3 powered s))
  where
    new : (b : Bool) → (ring bytes).may_keep change (all_but_one 3) b ≡ true → b ≡ true
    new true e = refl
    new false e = absurd (false≢true e)
