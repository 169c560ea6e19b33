-- A bank whose stores stand in a list: what one of them does, the bank does.
use Rattle.std.proofs.Common.{◌≡◌, ℕ, ◌<◌, Bool, ◌&&◌, List, [], ◌∷◌, map, length, get_or, set, Some, None, sym, refl, ap, ◌∙◌}
use Rattle.std.proofs.lemmas.List.{length-map, get_or-map, map-set}
use Rattle.std.proofs.lemmas.Bool.{lt-ltb, cond-true}
use Rattle.std.specs.List.{list_all}
use Rattle.store.specs.Banks.{absent, store_at, all_sound, BankWritten}
use Rattle.store.specs.Stores.{Meaning, finishes, after_write, Written}
use Rattle.protocol.specs.declared.change.Change.{Change}
use Rattle.store.specs.declared.power.Power.{Power}

module _ {S : Type 0} (meaning : S → Meaning) where
  -- all are sound where each is
  pub each_is_sound : (items : List S) → list_all (λ s. (meaning s).sound) items ≡ all_sound (map meaning items)
  each_is_sound [] = refl
  each_is_sound (s ∷ items) = ap (λ b. (meaning s).sound && b) (each_is_sound items)

  module _ (items : List S) (at : ℕ) (inside : at < length items) (s : S) (item : s ≡ get_or items at s) where
    its_store : store_at (map meaning items) at ≡ meaning s
    its_store = get_or-map meaning items at s absent inside ∙ ap meaning (sym item)

    pub written : (change : Change ℕ) (power : Power) (finished : Bool) (new : S) → Written (meaning s) change power finished (meaning new)
        → BankWritten (map meaning items) at change power (Some finished) (map meaning (set items at new))
    written change power finished new w = record {
      answer = ap Some (w.answer ∙ ap (λ m. finishes m power) (sym its_store)) ∙ sym (cond-true _ _ None (lt-ltb at _ (rw length-map inside)));
      keeps_new = w.keeps_new;
      allowed = ap (λ (m : Meaning). m.may_keep change power w.keeps_new) its_store ∙ w.allowed;
      same = map-set meaning items at new ∙ ap (set (map meaning items) at) (w.same ∙ ap (λ m. after_write m change power w.keeps_new) (sym its_store));
    }
