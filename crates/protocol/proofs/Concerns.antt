-- Which messages do not concern a node: those of other nodes, and of its own those that its record allows.
use Rattle.std.proofs.Common.{◌≡◌, ℕ, ◌≤◌, true, ◌⊎◌, List, sym, subst, inl, inr, ⊎_elim}
use Rattle.protocol.specs.declared.record.Record.{Record}
use Rattle.protocol.specs.declared.volatile.Volatile.{Volatile}
use Rattle.protocol.specs.declared.message.Message.{Message}
use Rattle.protocol.specs.declared.message.Message.TheVariants as message
use Rattle.protocol.specs.declared.message.Publication.{Publication}
use Rattle.protocol.specs.History.{Published}
use Rattle.protocol.proofs.Setting.{Setting}
use Rattle.protocol.proofs.Log.{Has, Adds}
use Rattle.protocol.proofs.Points.{Upto}
use Rattle.protocol.proofs.Certificates.{published_has}
use Rattle.protocol.proofs.NodeInvariant.{NodeInvariant}
use Rattle.protocol.proofs.NodeGrowth.{Unconcerned}

-- the publication is another node's, and in its term node n does not lead
pub record NotOwn {V : Type 0} (n : ℕ) (r : Record V) (w : Volatile) (p : Publication V) : Type 0 where
  pub source : p.source ≡ n → ⊥
  pub term : w.election_won ≡ true → p.term ≡ r.current_term → ⊥

-- the message does not concern node n
abbrev pub Allows : {V : Type 0} (n : ℕ) (r : Record V) (w : Volatile) → Message V → Type 0
Allows n r w (message.Join j) = j.source ≡ n → j.term ≤ r.current_term
Allows n r w (message.Publication p) = NotOwn n r w p
Allows n r w (message.Response m) =
    m.source ≡ n → Upto m.term m.version r.last_accepted_term r.last_accepted_version
Allows n r w (message.Commit c) = Unit {0}

module _ {V : Type 0} {S : Setting} {log log' : List (Message V)} {m : Message V} {n : ℕ} {r : Record V} {w : Volatile}
    (N : NodeInvariant S log n r w) (a : Adds log log' m) (allows : Allows n r w m) where
  -- a message of the longer log is old or does not concern the node
  either : (x : Message V) → Has log' x → Has log x ⊎ Allows n r w x
  either x h = ⊎_elim inl (λ e. inr (subst (λ (y : Message V). Allows n r w y) (sym e) allows)) (a.new x h)

  -- a publication at a point, in the log as it was
  old_point : {p : Publication V} {t v : ℕ} → Has log (message.Publication p) → Published log' p t v → Published log p t v
  old_point k h = record { entry = k.entry; there = k.there; of_term = h.of_term; of_version = h.of_version }

  -- the longer log does not concern the node
  pub unconcerned : Unconcerned log log' n r w
  unconcerned =
      record {
        grown = a.keeps;
        joins_are_past = λ j h e. ⊎_elim (λ old. N.joins_are_past j old e) (λ ok. ok e) (either (message.Join j) h);
        responses_are_accepted = λ k h e.
            ⊎_elim (λ old. N.responses_are_accepted k old e) (λ ok. ok e) (either (message.Response k) h);
        own_publications = λ p h e. ⊎_elim (λ old. old) (λ ok. absurd (ok.source e)) (either (message.Publication p) h);
        last_publication = λ won p h.
            ⊎_elim (λ old. old_point old h) (λ ok. absurd (ok.term won h.of_term))
            (either (message.Publication p) (published_has log' h));
      }
