-- Runs with the model's set descendant beside them: it is descent, as read from the publications in the log.
use Rattle.std.specs.Prelude.{ℕ, List, [], Ok, Err, Option, Result}
use Rattle.protocol.specs.declared.message.Message.{Message}
use Rattle.protocol.specs.declared.message.Publication.{Publication}
use Rattle.protocol.specs.declared.refusal.Refusal.{Refusal}
use Rattle.protocol.specs.Decisions.{Setup}
use Rattle.protocol.specs.Calls.{World, Fate, Call, called}
use Rattle.protocol.specs.History.{Published, Descends}
use Rattle.protocol.specs.Runs.{Lawful, Opened}
use Rattle.protocol.specs.Model as model
use Rattle.protocol.specs.Model.{◌∈◌}
use Rattle.protocol.specs.Steps.{messages_of, descendant_after}

module _ {V : Type 0} (setup : Setup V) where
  -- descendant after a call: the model's if the call is taken, else as it was
  abbrev pub descendant_then : Result (Option ℕ) Refusal → World V → List model.Descendant → Call V → List model.Descendant
  descendant_then (Ok entry) world descendant call = descendant_after setup world (λ n. 0) descendant call
  descendant_then (Err why) world descendant call = descendant

  -- a world that calls lead to, and what descendant is then
  pub data Traced : World V → List model.Descendant → Type 0 where
    at_opening : {world : World V} → Opened setup world → Traced world []
    by_call : {world : World V} {descendant : List model.Descendant} → Traced world descendant → (call : Call V) (fate : Fate)
        → Traced (called setup world call fate).world (descendant_then (called setup world call fate).answer world descendant call)

-- an element of descendant
abbrev pub pair : (t v t' v' : ℕ) → model.Descendant
pair t v t' v' = record { prevT = t; prevV = v; nextT = t'; nextV = v' }

-- descendant has a pair exactly if a publication of its next term and version descends from its previous ones
pub record IsDescent {V : Type 0} (log : List (Message V)) (descendant : List model.Descendant) : Type 0 where
  pub only : (d : model.Descendant) → d ∈ descendant
      → (p : Publication V) × Published log p d.nextT d.nextV × Descends log p d.prevT d.prevV
  pub every : (p : Publication V) (t v : ℕ) → Published log p p.term p.version → Descends log p t v
      → pair t v p.term p.version ∈ descendant

abbrev pub DescendantIsDescent : Type 0 → Type 0
DescendantIsDescent V =
    (setup : Setup V) → Lawful setup → (world : World V) (descendant : List model.Descendant) → Traced setup world descendant
    → IsDescent (messages_of world.entries) descendant
