-- What the model asserts of a node that is not bootstrapped holds in every run.
use Rattle.std.proofs.Common.{ℕ, eqb, ◌≢◌, List, length, sym, refl, ap, ◌∙◌}
use Rattle.std.proofs.lemmas.Bool.{eq-eqb, cond-true}
use Rattle.quorum.specs.declared.node_set.NodeSet.{NodeSet}
use Rattle.quorum.specs.Sets.{nobody}
use Rattle.protocol.specs.Decisions.{Setup}
use Rattle.protocol.specs.Calls.{World}
use Rattle.protocol.specs.Model as model
use Rattle.protocol.specs.Model.{State}
use Rattle.protocol.specs.Steps.{denoted}
use Rattle.protocol.proofs.Soundness.{legal_not_empty, bare_where_empty, Sound}

module _ {V : Type 0} (setup : Setup V) where
  pub asserted : (world : World V) (versions : ℕ → ℕ) (descendant : List model.Descendant) → Sound setup world → (σ' : State V) (n : ℕ)
      → model.SetInitialState (length world.nodes) setup.quorum (denoted setup versions descendant world) σ' n
      → model.SetInitialStateAsserts (length world.nodes) setup.quorum (denoted setup versions descendant world) σ' n
  asserted world versions descendant sound σ' n a =
      let b = bare_where_empty (sound.nodes n) a.c1 in
      record {
        c2 = b.term;
        c3 = b.committed;
        c4 = b.published;
        c5 = b.configuration;
        c6 = b.lost;
        c7 = b.joins;
        c8 = b.votes;
        c12 = b.term;
        c13 = λ e. initial (sym (ap (λ (f : ℕ → NodeSet). f n) a.c9 ∙ cond-true (eqb n n) _ _ (eq-eqb n n refl)) ∙ e);
        c14 = λ e. initial (sym (ap (λ (f : ℕ → NodeSet). f n) a.c11 ∙ cond-true (eqb n n) _ _ (eq-eqb n n refl)) ∙ e);
      }
    where
      initial : setup.initial_configuration ≢ nobody
      initial = legal_not_empty _ setup.initial_configuration sound.initial
