-- The invariant of a state: that of its log, and that of every node.
use Rattle.std.proofs.Common.{◌≡◌, ℕ, ◌⊎◌, List, sym, subst, inl, inr}
use Rattle.std.proofs.lemmas.Bool.{cases_eq}
use Rattle.protocol.specs.declared.record.Record.{Record}
use Rattle.protocol.specs.declared.volatile.Volatile.{Volatile}
use Rattle.protocol.specs.declared.message.Message.{Message}
use Rattle.protocol.proofs.Setting.{Setting}
use Rattle.protocol.proofs.LogInvariant.{LogInvariant}
use Rattle.protocol.proofs.NodeInvariant.{NodeInvariant}
use Rattle.protocol.proofs.NodeGrowth.{Unconcerned, node_grows}
use Rattle.protocol.specs.Decisions.{NodeState}
use Rattle.protocol.proofs.Steps.{State, stored, memory, Moves}

-- both parts
pub record Invariant {V : Type 0} (S : Setting) (s : State V) : Type 0 where
  pub of_log : LogInvariant S s.log
  pub of_nodes : (n : ℕ) → NodeInvariant S s.log n (stored s n) (memory s n)

module _ {V : Type 0} (S : Setting) {before after : State V} {n : ℕ} {r : Record V} {w : Volatile}
    (moves : Moves before after n r w) where
  -- in one log, the nodes of a step have the invariant if the one that takes it and the others have it
  nodes_after : (log : List (Message V)) → NodeInvariant S log n r w
      → ((k : ℕ) → (k ≡ n → ⊥) → NodeInvariant S log k (stored before k) (memory before k))
      → (k : ℕ) → NodeInvariant S log k (stored after k) (memory after k)
  nodes_after log N rest k = go (cases_eq k n)
    where
      go : (k ≡ n) ⊎ (k ≡ n → ⊥) → NodeInvariant S log k (stored after k) (memory after k)
      go (inl e) =
          let here : NodeInvariant S log n (stored after n) (memory after n) =
          subst (λ (s : NodeState V). NodeInvariant S log n s.kept s.volatile) (sym moves.now) N in
          subst (λ (x : ℕ). NodeInvariant S log x (stored after x) (memory after x)) (sym e) here
      go (inr other) =
          subst (λ (s : NodeState V). NodeInvariant S log k s.kept s.volatile) (sym (moves.others k other))
          (rest k other)

  -- a step that sends nothing
  pub silent_step : Invariant S before → after.log ≡ before.log → NodeInvariant S before.log n r w → Invariant S after
  silent_step I same N =
      record {
        of_log = rw same I.of_log;
        of_nodes = λ k. rw same (nodes_after before.log N (λ x other. I.of_nodes x) k);
      }

  -- a step that sends a message which does not concern the other nodes
  pub sending_step : Invariant S before → LogInvariant S after.log → NodeInvariant S after.log n r w
      → ((k : ℕ) → (k ≡ n → ⊥) → Unconcerned before.log after.log k (stored before k) (memory before k)) → Invariant S after
  sending_step I log N others =
      record {
        of_log = log;
        of_nodes = nodes_after after.log N (λ k other. node_grows S (others k other) (I.of_nodes k));
      }
