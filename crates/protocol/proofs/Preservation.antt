-- Every step keeps the invariant.
use Rattle.std.proofs.Common.{◌≡◌, ℕ, true, ◌⊎◌, sym, subst, inl, inr, arith}
use Rattle.quorum.specs.declared.node_set.NodeSet.{NodeSet}
use Rattle.quorum.specs.Sets.{with_node}
use Rattle.protocol.specs.declared.record.Record.{Record}
use Rattle.protocol.specs.declared.volatile.Volatile.{Volatile}
use Rattle.protocol.specs.declared.message.Message.{Message}
use Rattle.protocol.specs.declared.message.Message.TheVariants as message
use Rattle.protocol.specs.declared.message.Publication.{Publication}
use Rattle.protocol.specs.declared.message.Response.{Response}
use Rattle.protocol.proofs.Setting.{Setting}
use Rattle.protocol.proofs.Log.{Sent, Adds, sent_adds}
use Rattle.protocol.proofs.Points.{upto_itself}
use Rattle.protocol.proofs.Certificates.{Election, published_at}
use Rattle.protocol.proofs.NodeInvariant.{NodeInvariant}
use Rattle.protocol.proofs.NodeGrowth.{node_grows}
use Rattle.protocol.proofs.Election.{one_leader_a_term}
use Rattle.protocol.proofs.Ancestors.{later_terms_descend_from_chosen}
use Rattle.protocol.proofs.Fits.{Fits}
use Rattle.protocol.proofs.Adding.{fitting_message_keeps}
use Rattle.protocol.proofs.Effects.{
  reset,
  ready,
  in_term,
  accepting,
  counting_response,
  publishing,
  decides,
  join_message,
  publication_message,
  response_message,
  commit_message,
}
use Rattle.protocol.proofs.Steps.{
  State,
  stored,
  memory,
  Moves,
  MayStartJoin,
  MayPublish,
  MayAccept,
  MayCountResponse,
  Write,
  Step,
}
use Rattle.protocol.proofs.RecordSteps.{reset_keeps, start_join_keeps, bootstrap_keeps, mark_keeps}
use Rattle.protocol.proofs.CountJoin.{count_join_keeps}
use Rattle.protocol.proofs.Accept.{accept_keeps}
use Rattle.protocol.proofs.CountResponse.{count_response_keeps, decided_by_votes_is_chosen}
use Rattle.protocol.proofs.Publish.{made_fits, publish_keeps}
use Rattle.protocol.proofs.Concerns.{Allows, unconcerned}
use Rattle.protocol.proofs.Invariant.{Invariant, silent_step, sending_step}

module _ {V : Type 0} (S : Setting) {before after : State V} (I : Invariant S before) (n : ℕ) where
  -- A step that sends a message: the message fits, the node keeps its invariant in the log as it was, and the message concerns
  -- neither the node nor the others.
  sending : {r : Record V} {w : Volatile} (m : Message V) → Moves before after n r w → Sent before.log after.log m
      → Fits S before.log m → NodeInvariant S before.log n r w → Allows n r w m
      → ((k : ℕ) → (k ≡ n → ⊥) → Allows k (stored before k) (memory before k) m) → Invariant S after
  sending m moves sent fits kept own others =
      let adds = sent_adds sent in
      sending_step S moves I (fitting_message_keeps S I.of_log adds fits) (node_grows S (unconcerned kept adds own) kept)
      (λ k other. unconcerned (I.of_nodes k) adds (others k other))

  -- start join
  start_join_step : (d t : ℕ) → MayStartJoin (stored before n) t
      → Moves before after n (in_term t (stored before n)) (ready (stored before n))
      → Sent before.log after.log (message.Join (join_message n d t (stored before n))) → Invariant S after
  start_join_step d t may moves sent =
      sending (message.Join (join_message n d t (stored before n))) moves sent
      (record {
        later = omega (arith, (I.of_nodes n).accepted_is_past);
        first = λ k h e. omega (arith, (I.of_nodes n).joins_are_past k h e);
        tells = (I.of_nodes n).responses_are_accepted;
      })
      (start_join_keeps S I.of_log (I.of_nodes n) t may) (λ e. omega arith) (λ k other e. absurd (other (sym e)))

  -- a publication delivered
  accept_step : (m : Publication V) → MayAccept before.log (stored before n) m
      → Moves before after n (accepting m (stored before n)) (memory before n)
      → Sent before.log after.log (message.Response (response_message n m)) → Invariant S after
  accept_step m may moves sent =
      sending (message.Response (response_message n m)) moves sent
      (record {
        answers = record { publication = m; published = published_at before.log may.sent };
        current = λ j h e. omega (arith, (I.of_nodes n).joins_are_past j h e);
      })
      (accept_keeps S I.of_log (I.of_nodes n) m may) (λ e. upto_itself m.term m.version)
      (λ k other e. absurd (other (sym e)))

  -- a response delivered that decides
  decide_step : (m : Response) → MayCountResponse before.log n (stored before n) (memory before n) m
      → decides S.quorum (stored before n) (memory before n) (with_node m.source (memory before n).publish_votes) ≡ true
      → Moves before after n (stored before n) (counting_response m.source (memory before n))
      → Sent before.log after.log (message.Commit (commit_message n m)) → Invariant S after
  decide_step m may due moves sent =
      let chosen = decided_by_votes_is_chosen S I.of_log (I.of_nodes n) m may due in
      sending (message.Commit (commit_message n m)) moves sent
      (record { chosen = chosen; ancestor = λ q h lt. later_terms_descend_from_chosen S before.log I.of_log q chosen h lt })
      (count_response_keeps S I.of_log (I.of_nodes n) m may) tt (λ k other. tt)

  -- publish
  publish_step : (t v : ℕ) (x : V) (C : NodeSet) → MayPublish S (stored before n) (memory before n) t v C
      → Moves before after n (stored before n) (publishing v C (memory before n))
      → Sent before.log after.log (message.Publication (publication_message n t v x C (stored before n)))
      → Invariant S after
  publish_step t v x C may moves sent =
      sending_step S moves I (fitting_message_keeps S I.of_log adds (made_fits S I.of_log (I.of_nodes n) t v x C may))
      (publish_keeps S I.of_log (I.of_nodes n) t v x C may adds)
      (λ k other. unconcerned (I.of_nodes k) adds
      (record { source = λ e. other (sym e); term = λ won e. other (one_leader k won e) }))
    where
      adds : Adds before.log after.log
          (message.Publication (publication_message n (stored before n).current_term v x C (stored before n)))
      adds =
          sent_adds (subst (λ (u : ℕ). Sent before.log after.log
          (message.Publication (publication_message n u v x C (stored before n))))
          may.current sent)

      one_leader : (k : ℕ) → (memory before k).election_won ≡ true
          → (stored before n).current_term ≡ (stored before k).current_term → k ≡ n
      one_leader k won e =
          one_leader_a_term S before.log I.of_log ((I.of_nodes k).leader_is_elected won)
          (subst (λ (u : ℕ). Election S before.log u n) e ((I.of_nodes n).leader_is_elected may.won))

module _ {V : Type 0} (S : Setting) (value : V) {before : State V} (I : Invariant S before) (n : ℕ) where
  -- a write, with the node reset after it
  write_keeps : (r : Record V) → Write S value before.log (stored before n) (memory before n) r
      → NodeInvariant S before.log n r (reset r)
  write_keeps r (Write.bootstrap may e) =
      rw e (reset_keeps S I.of_log (bootstrap_keeps S I.of_log (I.of_nodes n) value may))
  write_keeps r (Write.start_join t may e) =
      rw e (reset_keeps S I.of_log (start_join_keeps S I.of_log (I.of_nodes n) t may))
  write_keeps r (Write.accept m may e) = rw e (reset_keeps S I.of_log (accept_keeps S I.of_log (I.of_nodes n) m may))
  write_keeps r (Write.mark m may e) = rw e (reset_keeps S I.of_log (mark_keeps S I.of_log (I.of_nodes n) m may))

  -- an unfinished write keeps the old record or the new one
  unfinished_keeps : (written kept : Record V) → Write S value before.log (stored before n) (memory before n) written
      → (kept ≡ stored before n) ⊎ (kept ≡ written) → NodeInvariant S before.log n kept (reset kept)
  unfinished_keeps written kept write (inl e) = rw e (reset_keeps S I.of_log (I.of_nodes n))
  unfinished_keeps written kept write (inr e) = rw e (write_keeps written write)

-- every step keeps the invariant
pub step_keeps_invariant : {V : Type 0} (S : Setting) (value : V) {before after : State V} → Invariant S before
    → Step S value before after → Invariant S after
step_keeps_invariant S value I (Step.bootstrap n may moves same) =
    silent_step S moves I same (bootstrap_keeps S I.of_log (I.of_nodes n) value may)
step_keeps_invariant S value I (Step.start_join n d t may moves sent) = start_join_step S I n d t may moves sent
step_keeps_invariant S value I (Step.deliver_join n m may moves same) =
    silent_step S moves I same (count_join_keeps S I.of_log (I.of_nodes n) m may)
step_keeps_invariant S value I (Step.publish n t v x C may moves sent) = publish_step S I n t v x C may moves sent
step_keeps_invariant S value I (Step.deliver_publication n m may moves sent) = accept_step S I n m may moves sent
step_keeps_invariant S value I (Step.deliver-response n m may undue moves same) =
    silent_step S moves I same (count_response_keeps S I.of_log (I.of_nodes n) m may)
step_keeps_invariant S value I (Step.deliver_deciding_response n m may due moves sent) = decide_step S I n m may due moves sent
step_keeps_invariant S value I (Step.deliver_commit n m may moves same) =
    silent_step S moves I same (mark_keeps S I.of_log (I.of_nodes n) m may)
step_keeps_invariant S value I (Step.restart n moves same) =
    silent_step S moves I same (reset_keeps S I.of_log (I.of_nodes n))
step_keeps_invariant S value I (Step.unfinished_write n written kept write which moves same) =
    silent_step S moves I same (unfinished_keeps S value I n written kept write which)
