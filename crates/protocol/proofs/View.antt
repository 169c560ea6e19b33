-- The view keeps the last committed configuration: whatever may follow a point has it for one of its two configurations.
use Rattle.std.proofs.Common.{◌≡◌, ℕ, zero, suc, ◌<◌, ◌⊎◌, List, sym, ap, ◌∙◌, inl, inr, ⊎_elim, arith}
use Rattle.quorum.specs.declared.node_set.NodeSet.{NodeSet}
use Rattle.protocol.specs.declared.message.Message.{Message}
use Rattle.protocol.specs.declared.message.Message.TheVariants as message
use Rattle.protocol.specs.declared.message.Publication.{Publication}
use Rattle.protocol.specs.History.{Published}
use Rattle.protocol.proofs.Setting.{Setting}
use Rattle.protocol.proofs.Log.{Has}
use Rattle.protocol.proofs.Points.{Upto, Before, upto_itself, upto_trans, before_is_upto, upto_both_ways, cases_upto}
use Rattle.protocol.proofs.Certificates.{Decided, Stands, Follows, published_has}
use Rattle.protocol.proofs.Certificates.Stands.{root, published}
use Rattle.protocol.proofs.LogInvariant.{LogInvariant}
use Rattle.protocol.proofs.Descent.{
  publication_has_a_term,
  decided_is_chosen,
  same_publication,
  committed_below_is_ancestor,
  ancestor_is_upto_base,
}
use Rattle.protocol.proofs.Latest.{Latest}
use Rattle.protocol.proofs.Latest.Latest.{none, last}

module _ {V : Type 0} (S : Setting) (log : List (Message V)) (I : LogInvariant S log) where
  -- at a committed point the latest configuration is that point's own
  latest_at_committed : {t v : ℕ} {K C X : NodeSet} → Decided log t v → Stands S log t v K C → Latest S log t v X → X ≡ C
  latest_at_committed {t} {v} d st (none h e) = absurd (h t v d (upto_itself t v))
  latest_at_committed {t} {v} d (root e k c) (last a b l u top p h x) =
      absurd (omega (arith, publication_has_a_term S log I (decided_is_chosen S log I d).published))
  latest_at_committed {t} {v} d (published q g k c) (last a b l u top p h x) =
      let same = upto_both_ways u (top t v d (upto_itself t v)) in
      let here : Published log p t v = rw (same.0, same.1) at h in
      x ∙ ap (λ (y : Publication V). y.configuration) (same_publication S log I here g) ∙ sym c

  -- at a root the latest configuration is the initial one
  latest_at_root : {t v : ℕ} {X : NodeSet} → t ≡ 0 → Latest S log t v X → X ≡ S.initial
  latest_at_root z (none h e) = e
  latest_at_root {t} {v} z (last a b d u top p h x) = absurd (omega (arith, publication_has_a_term S log I h))

  -- a base is before its publication
  pub base_is_before : {p : Publication V} → Has log (message.Publication p)
      → Before p.base_term p.base_version p.term p.version
  base_is_before {p} h = let s = I.sound p h in record { terms = s.base_terms; versions = λ e. s.base_versions }

  -- a commit before a publication is not after its base
  pub committed_below_is_upto_base : {p : Publication V} {t v : ℕ} → Has log (message.Publication p) → Decided log t v
      → Before t v p.term p.version → Upto t v p.base_term p.base_version
  committed_below_is_upto_base h d b = ancestor_is_upto_base S log I (committed_below_is_ancestor S log I d h b)

  -- what is latest at a publication that is no commit is latest at its base
  latest_at_base : {p : Publication V} {X : NodeSet} → Has log (message.Publication p) → Latest S log p.term p.version X
      → (X ≡ p.configuration) ⊎ Latest S log p.base_term p.base_version X
  latest_at_base {p} {X} h (none k e) =
      inr (none (λ t v d u. k t v d (upto_trans u (before_is_upto (base_is_before h)))) e)
  latest_at_base {p} {X} h (last t v d u top q g x) = go (cases_upto u)
    where
      go : ((t ≡ p.term) × (v ≡ p.version)) ⊎ Before t v p.term p.version
          → (X ≡ p.configuration) ⊎ Latest S log p.base_term p.base_version X
      go (inl e) =
          let same = I.one_publication q p (published_has log g) h (g.of_term ∙ e.0) (g.of_version ∙ e.1) in
          inl (x ∙ ap (λ (y : Publication V). y.configuration) same)
      go (inr b) =
          inr (last t v d (committed_below_is_upto_base h d b)
          (λ a c l w. top a c l (upto_trans w (before_is_upto (base_is_before h)))) q g x)

  -- how the two configurations that follow a point go with those of the point
  of_the_base : {t v : ℕ} {K C X : NodeSet} (f : Follows S log t v K C) → K ≡ f.base_committed
      → (X ≡ f.base_committed) ⊎ (X ≡ f.base_configuration) → (X ≡ K) ⊎ (X ≡ C)
  of_the_base f e (inl x) = inl (x ∙ sym e)
  of_the_base f e (inr x) = ⊎_elim (λ c. inr (x ∙ sym c)) (λ k. inl (x ∙ sym k)) f.moves

  -- by induction: the view keeps the last committed configuration at points below a version
  view_below : (k : ℕ) {t v : ℕ} {K C X : NodeSet} → v < k → Follows S log t v K C → Latest S log t v X → (X ≡ K) ⊎ (X ≡ C)
  view_below zero less f l = absurd (omega arith)
  view_below (suc k) {t} {v} {K} {C} {X} less f l = go (λ p m g n. view_below k m g n) f.keeps f.stands
    where
      Rest : Publication V → Type 0
      Rest p =
          p.base_version < k → Follows S log p.base_term p.base_version p.committed_configuration
          p.configuration
          → Latest S log p.base_term p.base_version X → (X ≡ p.committed_configuration) ⊎ (X ≡ p.configuration)

      at_publication : (p : Publication V) → Rest p → Published log p t v
          → (X ≡ p.committed_configuration) ⊎ (X ≡ p.configuration)
      at_publication p rest h =
          let has = published_has log h in
          let here : Latest S log p.term p.version X = rw (h.of_term, h.of_version) l in
          let s = I.sound p has in
          ⊎_elim inr (λ m. rest (omega arith) s.follows m) (latest_at_base has here)

      go : ((p : Publication V) → Rest p) → (K ≡ f.base_committed) ⊎ ((K ≡ f.base_configuration) × Decided log t v)
          → Stands S log t v f.base_committed f.base_configuration → (X ≡ K) ⊎ (X ≡ C)
      go rest (inr d) st = inl (latest_at_committed d.1 st l ∙ sym d.0)
      go rest (inl e) (root z a b) = inl (latest_at_root z l ∙ sym a ∙ sym e)
      go rest (inl e) (published p h a b) =
          of_the_base f e (⊎_elim (λ x. inl (x ∙ sym a)) (λ x. inr (x ∙ sym b)) (at_publication p (rest p) h))

  -- the view keeps the last committed configuration
  pub view_keeps_latest : {t v : ℕ} {K C X : NodeSet} → Follows S log t v K C → Latest S log t v X → (X ≡ K) ⊎ (X ≡ C)
  view_keeps_latest {t} {v} f l = view_below (suc v) (omega arith) f l
