-- Every publication of a later term descends from a chosen point.
use Rattle.std.proofs.Common.{◌≡◌, ℕ, zero, suc, ◌<◌, ◌≤◌, ◌⊎◌, List, sym, ◌∙◌, inl, inr, ⊎_elim, arith}
use Rattle.std.proofs.lemmas.Bool.{cases_lt}
use Rattle.quorum.specs.declared.node_set.NodeSet.{NodeSet}
use Rattle.protocol.specs.declared.message.Message.{Message}
use Rattle.protocol.specs.declared.message.Message.TheVariants as message
use Rattle.protocol.specs.declared.message.Publication.{Publication}
use Rattle.protocol.specs.History.{Published, Descends}
use Rattle.protocol.specs.History.Descends.{from_base, by_base}
use Rattle.protocol.proofs.Setting.{Setting}
use Rattle.protocol.proofs.Log.{Has}
use Rattle.protocol.proofs.Points.{Before, cases_upto}
use Rattle.protocol.proofs.Certificates.{Stands, Chosen, published_has}
use Rattle.protocol.proofs.Certificates.Stands.{root, published}
use Rattle.protocol.proofs.LogInvariant.{LogInvariant}
use Rattle.protocol.proofs.Descent.{descends_at, publication_has_a_term}
use Rattle.protocol.proofs.Election.{an_election_sees_every_chosen_point}

module _ {V : Type 0} (S : Setting) (log : List (Message V)) (I : LogInvariant S log) where
  -- by induction: publications below a version descend from a chosen point of an earlier term
  descends_below : (k : ℕ) {t v : ℕ} (q : Publication V) → q.version < k → Chosen S log t v → Has log (message.Publication q)
      → t < q.term → Descends log q t v
  descends_below zero q less c h later = absurd (omega arith)
  descends_below (suc k) {t} {v} q less c h later =
      go (λ b m g l. descends_below k b m c g l) (cases_lt q.base_term q.term) (I.sound q h).follows.stands
    where
      Rest : Type 0
      Rest = (b : Publication V) → b.version < k → Has log (message.Publication b) → t < b.term → Descends log b t v

      -- by a base of a later term than the chosen point
      by_later_base : Rest → (b : Publication V) → Published log b q.base_term q.base_version → t < q.base_term
          → Descends log q t v
      by_later_base rest b g l =
          let s = I.sound q h in
          by_base g (rest b (omega arith) (published_has log g) (omega arith))

      -- by a base that is not before the chosen point
      by_base-after : Rest → {K C : NodeSet} → Stands S log q.base_term q.base_version K C
          → Before t v q.base_term q.base_version
          → Descends log q t v
      by_base-after rest (root z a b) l =
          absurd (omega (arith, publication_has_a_term S log I c.published))
      by_base-after rest (published b g k d) l =
          ⊎_elim (λ lt. by_later_base rest b g lt)
          (λ le.
          let e : t ≡ q.base_term = omega arith in
          let w = c.published in
          by_base g
          (descends_at log w.of_term w.of_version
          (I.one_line_a_term c.publication b (published_has log w) (published_has log g) (w.of_term ∙ e ∙ sym g.of_term)
          (omega (arith, l.versions e)))))
          (cases_lt t q.base_term)

      go : Rest → (q.base_term < q.term) ⊎ (q.term ≤ q.base_term) → {K C : NodeSet}
          → Stands S log q.base_term q.base_version K C → Descends log q t v
      go rest (inl lt) st =
          let u = an_election_sees_every_chosen_point S log I ((I.sound q h).elects lt).elected c later in
          ⊎_elim (λ e. from_base (sym e.0) (sym e.1)) (λ l. by_base-after rest st l) (cases_upto u)
      go rest (inr ge) (root z a b) = absurd (omega arith)
      go rest (inr ge) (published b g k d) = by_later_base rest b g (omega arith)

  -- every publication of a later term descends from a chosen point
  pub later_terms_descend_from_chosen : {t v : ℕ} (q : Publication V) → Chosen S log t v → Has log (message.Publication q)
      → t < q.term → Descends log q t v
  later_terms_descend_from_chosen q c h later = descends_below (suc q.version) q (omega arith) c h later
