-- An entry that is delivered to a node.
use Rattle.std.specs.Prelude.{ℕ, cond, Ok, Err, Result}
use Rattle.protocol.specs.declared.message.Message.{Message}
use Rattle.protocol.specs.declared.refusal.Refusal.{Refusal}
use Rattle.protocol.specs.declared.refusal.Refusal.TheVariants.{OtherDestination}
use Rattle.protocol.specs.declared.effect.Effect.{Effect}
use Rattle.protocol.specs.declared.node_state.NodeState.{NodeState}
use Rattle.protocol.specs.Decisions.{Setup as Fixed, deliver_decided}
use Rattle.protocol.specs.Messages.{is_for}

-- what node n decides on an entry, as it was read: one that cannot be read refuses, and one that is for another node
abbrev pub on_entry : Fixed ℕ → NodeState ℕ → (n : ℕ) → Result (Message ℕ) Refusal → Result (Effect ℕ) Refusal
on_entry setup node n (Err why) = Err why
on_entry setup node n (Ok m) = cond (is_for n m) (deliver_decided setup node n m) (Err OtherDestination)
