-- Descent: it raises versions, and every committed point below a publication is one that it descends from.
use Rattle.std.proofs.Common.{◌≡◌, ℕ, ◌<◌, ◌≤◌, ◌⊎◌, List, sym, ◌∙◌, inl, inr, arith}
use Rattle.std.proofs.lemmas.Bool.{cases_order}
use Rattle.quorum.specs.declared.node_set.NodeSet.{NodeSet}
use Rattle.protocol.specs.declared.message.Message.{Message}
use Rattle.protocol.specs.declared.message.Message.TheVariants as message
use Rattle.protocol.specs.declared.message.Publication.{Publication}
use Rattle.protocol.specs.History.{Published, Descends}
use Rattle.protocol.specs.History.Descends.{from_base, by_base}
use Rattle.protocol.proofs.Setting.{Setting}
use Rattle.protocol.proofs.Log.{Has}
use Rattle.protocol.proofs.Points.{Upto, Before, cases_upto}
use Rattle.protocol.proofs.Certificates.{Decided, Stands, Chosen, published_has}
use Rattle.protocol.proofs.Certificates.Stands.{root, published}
use Rattle.protocol.proofs.LogInvariant.{LogInvariant}

module _ {V : Type 0} (log : List (Message V)) where
  -- what descends from a point of these numbers descends from the point
  pub descends_at : {p : Publication V} {a b t v : ℕ} → a ≡ t → b ≡ v → Descends log p a b → Descends log p t v
  descends_at {p} e f (from_base g h) = from_base (g ∙ e) (h ∙ f)
  descends_at {p} e f (by_base h d) = by_base h (descends_at e f d)

module _ {V : Type 0} (S : Setting) (log : List (Message V)) (I : LogInvariant S log) where
  -- no publication has term 0
  pub publication_has_a_term : {p : Publication V} {t v : ℕ} → Published log p t v → 0 < t
  publication_has_a_term {p} h =
      let low = (I.sound p (published_has log h)).election.elected.earlier in omega arith

  -- what a commit decides is chosen
  pub decided_is_chosen : {t v : ℕ} → Decided log t v → Chosen S log t v
  decided_is_chosen {t} {v} d =
      let c = I.commit_is_chosen d.commit d.has in rw (d.of_term, d.of_version) at c

  -- two publications of one point are equal
  pub same_publication : {p q : Publication V} {t v : ℕ} → Published log p t v → Published log q t v → p ≡ q
  same_publication {p} {q} h k =
      I.one_publication p q (published_has log h) (published_has log k) (h.of_term ∙ sym k.of_term)
      (h.of_version ∙ sym k.of_version)

  -- descent rises: what a publication descends from is of no later term and of a lower version
  pub descent_rises : {p : Publication V} {t v : ℕ} → Has log (message.Publication p) → Descends log p t v
      → (t ≤ p.term) × (v < p.version)
  descent_rises {p} h (from_base e f) = let s = I.sound p h in (omega arith, omega arith)
  descent_rises {p} h (by_base {q = q} k d) =
      let s = I.sound p h in
      let rest = descent_rises (published_has log k) d in
      (omega arith, omega arith)

  -- what a publication descends from is its base or before its base
  pub ancestor_is_upto_base : {p : Publication V} {t v : ℕ} → Descends log p t v → Upto t v p.base_term p.base_version
  ancestor_is_upto_base {p} (from_base e f) = record { terms = omega arith; versions = λ q. omega arith }
  ancestor_is_upto_base {p} (by_base {q = q} k d) =
      let rest = descent_rises (published_has log k) d in
      record { terms = omega arith; versions = λ e. omega arith }

  -- a committed point below is an ancestor
  pub committed_below_is_ancestor : {t v : ℕ} {p : Publication V} → Decided log t v → Has log (message.Publication p)
      → Before t v p.term p.version → Descends log p t v
  committed_below_is_ancestor {t} {v} {p} d h b = go (cases_order t p.term)
    where
      chosen : Chosen S log t v
      chosen = decided_is_chosen d

      go : (t ≡ p.term) ⊎ ((t < p.term) ⊎ (p.term < t)) → Descends log p t v
      go (inl e) =
          let k = chosen.published in
          descends_at log k.of_term k.of_version
          (I.one_line_a_term chosen.publication p (published_has log k) h (k.of_term ∙ e)
          (omega (arith, b.versions e)))
      go (inr (inl lt)) =
          descends_at log d.of_term d.of_version
          (I.later_terms_descend d.commit p d.has h (omega arith))
      go (inr (inr gt)) = absurd (omega arith)

  -- A publication whose base stands descends from every committed point that is not after the base.
  -- The publication itself need not be in the log.
  pub committed_upto_base_is_ancestor : {t v : ℕ} {p : Publication V} {K C : NodeSet} → Decided log t v
      → Stands S log p.base_term p.base_version K C → Upto t v p.base_term p.base_version → Descends log p t v
  committed_upto_base_is_ancestor {t} {v} {p} d st u = go (cases_upto u) st
    where
      go : ((t ≡ p.base_term) × (v ≡ p.base_version)) ⊎ Before t v p.base_term p.base_version
          → {K C : NodeSet} → Stands S log p.base_term p.base_version K C → Descends log p t v
      go (inl e) s = from_base (sym e.0) (sym e.1)
      go (inr b) (root e k c) =
          absurd (omega (arith, publication_has_a_term (decided_is_chosen d).published))
      go (inr b) (published q h k c) =
          by_base h (committed_below_is_ancestor d (published_has log h) (rw (h.of_term, h.of_version) b))
