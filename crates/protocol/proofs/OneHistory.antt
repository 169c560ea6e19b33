-- The invariant of the log gives one history.
use Rattle.std.proofs.Common.{◌≡◌, ◌<◌, ◌⊎◌, List, Some, sym, refl, ap, ◌∙◌, inl, inr, arith}
use Rattle.std.proofs.lemmas.Bool.{cases_order}
use Rattle.protocol.specs.declared.message.Message.{Message}
use Rattle.protocol.specs.declared.message.Message.TheVariants as message
use Rattle.protocol.specs.declared.message.Publication.{Publication}
use Rattle.protocol.specs.declared.message.Commit.{Commit}
use Rattle.protocol.specs.History.{Published, Committed, Descends, ExactlyOne, OneHistory}
use Rattle.protocol.proofs.Setting.{Setting}
use Rattle.protocol.proofs.Points.{Before, before_here}
use Rattle.protocol.proofs.Certificates.{Decided, Chosen, published_has}
use Rattle.protocol.proofs.LogInvariant.{LogInvariant}
use Rattle.protocol.proofs.Descent.{same_publication, descent_rises, committed_below_is_ancestor}

module _ {V : Type 0} (S : Setting) (log : List (Message V)) (I : LogInvariant S log) where
  -- the publication of a commit
  chosen : (c : Commit) → Committed log c → Chosen S log c.term c.version
  chosen c h = I.commit_is_chosen c (record { entry = h.entry; there = h.there })

  -- what a commit decides
  decided : (c : Commit) → Committed log c → Decided log c.term c.version
  decided c h = record { commit = c; has = record { entry = h.entry; there = h.there }; of_term = refl; of_version = refl }

  -- a commit has exactly one publication
  exactly_one : (c : Commit) → Committed log c → ExactlyOne log c.term c.version
  exactly_one c h =
      let x = chosen c h in
      record {
        publication = x.publication;
        published = x.published;
        only = λ q there.
            let same = same_publication S log I there x.published in
            I.distinct there.entry x.published.entry (message.Publication x.publication)
            (there.there ∙ ap (λ (y : Publication V). Some (message.Publication y)) same) x.published.there;
      }

  -- a commit of a later term is of a higher version
  later_term_is_higher : (c d : Commit) → Committed log c → Committed log d → c.term < d.term → c.version < d.version
  later_term_is_higher c d hc hd lt =
      let x = chosen d hd in
      let has = published_has log x.published in
      let down = I.later_terms_descend c x.publication (record { entry = hc.entry; there = hc.there }) has
      (omega arith) in
      omega (arith, (descent_rises S log I has down).1)

  -- commits of one version are of one term
  one_term : (c d : Commit) → Committed log c → Committed log d → c.version ≡ d.version → c.term ≡ d.term
  one_term c d hc hd e = go (cases_order c.term d.term)
    where
      go : (c.term ≡ d.term) ⊎ ((c.term < d.term) ⊎ (d.term < c.term)) → c.term ≡ d.term
      go (inl t) = t
      go (inr (inl lt)) = absurd (omega (arith, later_term_is_higher c d hc hd lt))
      go (inr (inr gt)) = absurd (omega (arith, later_term_is_higher d c hd hc gt))

  -- commits of one version have one publication
  one_publication : (c d : Commit) → Committed log c → Committed log d → c.version ≡ d.version → (p q : Publication V)
      → Published log p c.term c.version → Published log q d.term d.version → p ≡ q
  one_publication c d hc hd e p q hp hq =
      I.one_publication p q (published_has log hp) (published_has log hq)
      (hp.of_term ∙ one_term c d hc hd e ∙ sym hq.of_term) (hp.of_version ∙ e ∙ sym hq.of_version)

  -- the publication of a commit descends from every commit of a lower version
  higher_descends : (c d : Commit) → Committed log c → Committed log d → d.version < c.version → (p : Publication V)
      → Published log p c.term c.version → Descends log p d.term d.version
  higher_descends c d hc hd lt p hp =
      committed_below_is_ancestor S log I (decided d hd) (published_has log hp)
      (before_here hp.of_term hp.of_version (before (cases_order d.term c.term)))
    where
      before : (d.term ≡ c.term) ⊎ ((d.term < c.term) ⊎ (c.term < d.term))
          → Before d.term d.version c.term c.version
      before (inl e) = record { terms = omega arith; versions = λ x. lt }
      before (inr (inl l)) = record { terms = omega arith; versions = λ x. lt }
      before (inr (inr g)) = absurd (omega (arith, later_term_is_higher c d hc hd g))

  -- both promises
  pub one_history : OneHistory log
  one_history =
      record {
        one_commit_per_version = record {
          one = exactly_one;
          same_term = one_term;
          same_value = λ c d hc hd e p q hp hq. ap (λ (x : Publication V). x.value) (one_publication c d hc hd e p q hp hq);
          same_configuration = λ c d hc hd e p q hp hq.
              ap (λ (x : Publication V). x.configuration) (one_publication c d hc hd e p q hp hq);
        };
        later_commits_descend = record { descends = higher_descends };
      }
