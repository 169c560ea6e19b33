-- A fresh start has the invariant: there are no messages, and no node has done anything.
use Rattle.std.proofs.Common.{◌≡◌, ℕ, [], Some, sym, ◌∙◌, subst, inl, arith}
use Rattle.std.specs.List.{slice_get}
use Rattle.quorum.specs.Sets.{nobody}
use Rattle.protocol.specs.declared.volatile.Volatile.{Volatile}
use Rattle.protocol.proofs.Setting.{Setting}
use Rattle.protocol.proofs.Log.{Has, impossible}
use Rattle.protocol.proofs.LogInvariant.{LogInvariant}
use Rattle.protocol.proofs.NodeInvariant.{NodeInvariant}
use Rattle.protocol.proofs.NodeInvariant.Accepted.{nothing_yet}
use Rattle.protocol.specs.Decisions.{NodeState}
use Rattle.protocol.proofs.Effects.{reset}
use Rattle.protocol.proofs.Steps.{State, FreshNode, Fresh}
use Rattle.protocol.proofs.Votes.{never, no_vote, no_bits}
use Rattle.protocol.proofs.Invariant.{Invariant}

-- the empty log has no entry
no_entry : {M A : Type 0} (e : ℕ) (m : M) → slice_get {X = M} [] e ≡ Some m → A
no_entry e m h = impossible cc

-- the empty log has no message
nothing : {M A : Type 0} {m : M} → Has [] m → A
nothing {m = m} h = no_entry h.entry m h.there

-- the empty log has the invariant
empty_log : {V : Type 0} (S : Setting) → LogInvariant {V = V} S []
empty_log S =
    record {
      distinct = λ i j m h k. no_entry i m h;
      one_join = λ j k h. nothing h;
      join_is_later = λ j h. nothing h;
      response-answers = λ m h. nothing h;
      join_tells = λ j m h. nothing h;
      one_publication = λ p q h. nothing h;
      sound = λ p h. nothing h;
      one_line_a_term = λ p q h. nothing h;
      commit_is_chosen = λ c h. nothing h;
      later_terms_descend = λ c q h. nothing h;
    }

-- a fresh node, its memory as after a restart
fresh_record : {V : Type 0} (S : Setting) (n : ℕ) (s : NodeState V) → FreshNode s
    → NodeInvariant S [] n s.kept (reset s.kept)
fresh_record S n s f =
    record {
      joins_are_past = λ j h. nothing h;
      publications_are_past = λ p h. nothing h;
      accepted_is_past = omega arith;
      responses_are_accepted = λ m h. nothing h;
      accepted = nothing_yet f.no_accepted_term (committed ∙ sym configuration) (inl configuration);
      votes_are_joins = λ k m. no_vote k m;
      leader_started_join = never;
      of_configuration = never;
      of_committed = never;
      leader_is_elected = never;
      publisher_leads = never;
      last_published = never;
      votes_lead = λ k m. no_vote k m;
      votes_are_responses = λ k m. no_vote k m;
    }
  where
    configuration : s.kept.last_accepted_configuration ≡ nobody
    configuration = no_bits s.kept.last_accepted_configuration f.no_configuration

    committed : s.kept.last_committed_configuration ≡ nobody
    committed = no_bits s.kept.last_committed_configuration f.no_committed_configuration

-- a fresh node
fresh_node : {V : Type 0} (S : Setting) (n : ℕ) (s : NodeState V) → FreshNode s
    → NodeInvariant S [] n s.kept s.volatile
fresh_node S n s f =
    subst (λ (w : Volatile). NodeInvariant S [] n s.kept w) (sym f.no_memory) (fresh_record S n s f)

-- a fresh start has the invariant
pub fresh_start_has_invariant : {V : Type 0} (S : Setting) {s : State V} → Fresh s → Invariant S s
fresh_start_has_invariant S {s} f =
    record {
      of_log = rw f.no_messages (empty_log S);
      of_nodes = λ n. rw f.no_messages (fresh_node S n (s.node n) (f.nodes n));
    }
