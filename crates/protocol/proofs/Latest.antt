-- The highest commit up to a point, found by a search through the log.
use Rattle.std.proofs.Common.{◌≡◌, ℕ, ◌⊎◌, List, [], ◌∷◌, sym, refl, inl, inr, ⊎_elim}
use Rattle.quorum.specs.declared.node_set.NodeSet.{NodeSet}
use Rattle.protocol.specs.declared.message.Message.{Message}
use Rattle.protocol.specs.declared.message.Message.TheVariants as message
use Rattle.protocol.specs.declared.message.Publication.{Publication}
use Rattle.protocol.specs.declared.message.Commit.{Commit}
use Rattle.protocol.specs.History.{Published}
use Rattle.protocol.proofs.Setting.{Setting}
use Rattle.protocol.proofs.Log.{Has, first_or_later, has_later, has_first, impossible}
use Rattle.protocol.proofs.Points.{Upto, Before, upto_itself, upto_trans, before_is_upto, upto_and_before, cases_points}
use Rattle.protocol.proofs.Certificates.{Decided}
use Rattle.protocol.proofs.LogInvariant.{LogInvariant}

module _ {V : Type 0} (log : List (Message V)) where
  -- the highest of the commits that are not after (bt, bv), or that there is none
  pub data Highest (bt bv : ℕ) : Type 0 where
    none : ((c : Commit) → Has log (message.Commit c) → Upto c.term c.version bt bv → ⊥) → Highest bt bv
    some : (c : Commit) → Has log (message.Commit c) → Upto c.term c.version bt bv
        → ((d : Commit) → Has log (message.Commit d) → Upto d.term d.version bt bv
        → Upto d.term d.version c.term c.version)
        → Highest bt bv

-- what is said of a commit is said of an equal one
at : {c d : Commit} {a b : ℕ} → c ≡ d → Upto c.term c.version a b → Upto d.term d.version a b
at e u = rw e at u

module _ {V : Type 0} (bt bv : ℕ) where
  -- a message that is no commit changes nothing
  past_another : (m : Message V) (rest : List (Message V)) → ((c : Commit) → m ≡ message.Commit c → ⊥)
      → Highest rest bt bv → Highest (m ∷ rest) bt bv
  past_another m rest other (none h) =
      none (λ c k u. ⊎_elim (λ e. other c e) (λ l. h c l u) (first_or_later m rest (message.Commit c) k))
  past_another m rest other (some c l u top) =
      some c (has_later l) u
      (λ d k w. ⊎_elim (λ e. absurd (other d e)) (λ later. top d later w) (first_or_later m rest (message.Commit d) k))

  -- a commit is compared with the highest so far
  past_commit : (c : Commit) (rest : List (Message V)) → Highest rest bt bv → Highest (message.Commit c ∷ rest) bt bv
  past_commit c rest high = go (cases_points c.term c.version bt bv) high
    where
      other : (d : Commit) → Has (message.Commit c ∷ rest) (message.Commit d) → (c ≡ d) ⊎ Has rest (message.Commit d)
      other d k = ⊎_elim (λ e. inl cc) inr (first_or_later (message.Commit c) rest (message.Commit d) k)

      go : Upto c.term c.version bt bv ⊎ Before bt bv c.term c.version → Highest rest bt bv
          → Highest (message.Commit c ∷ rest) bt bv
      go (inl u) (none h) =
          some c (has_first (message.Commit c) rest) u
          (λ d k w. ⊎_elim (λ e. at e (upto_itself c.term c.version)) (λ l. absurd (h d l w)) (other d k))
      go (inl u) (some a l w top) =
          ⊎_elim
          (λ le. some a (has_later l) w (λ d k x. ⊎_elim (λ e. at e le) (λ later. top d later x) (other d k)))
          (λ lt. some c (has_first (message.Commit c) rest) u
          (λ d k x. ⊎_elim (λ e. at e (upto_itself c.term c.version))
          (λ later. upto_trans (top d later x) (before_is_upto lt)) (other d k)))
          (cases_points c.term c.version a.term a.version)
      go (inr b) (none h) = none (λ d k w. ⊎_elim (λ e. upto_and_before (at (sym e) w) b) (λ l. h d l w) (other d k))
      go (inr b) (some a l w top) =
          some a (has_later l) w
          (λ d k x. ⊎_elim (λ e. absurd (upto_and_before (at (sym e) x) b)) (λ later. top d later x) (other d k))

  -- the search
  pub find_highest : (log : List (Message V)) → Highest log bt bv
  find_highest [] = none (λ c h u. impossible (cc h.there))
  find_highest (message.Join j ∷ rest) = past_another (message.Join j) rest (λ c e. impossible cc) (find_highest rest)
  find_highest (message.Publication p ∷ rest) =
      past_another (message.Publication p) rest (λ c e. impossible cc) (find_highest rest)
  find_highest (message.Response m ∷ rest) =
      past_another (message.Response m) rest (λ c e. impossible cc) (find_highest rest)
  find_highest (message.Commit c ∷ rest) = past_commit c rest (find_highest rest)

module _ {V : Type 0} (S : Setting) (log : List (Message V)) where
  -- X is the configuration of the highest commit that is not after (bt, bv), or the initial one if there is none
  pub data Latest (bt bv : ℕ) (X : NodeSet) : Type 0 where
    none : ((t v : ℕ) → Decided log t v → Upto t v bt bv → ⊥) → X ≡ S.initial → Latest bt bv X
    last : (t v : ℕ) → Decided log t v → Upto t v bt bv → ((a b : ℕ) → Decided log a b → Upto a b bt bv → Upto a b t v)
        → (p : Publication V) → Published log p t v → X ≡ p.configuration → Latest bt bv X

  -- some configuration, and that it is the latest
  pub record SomeLatest (bt bv : ℕ) : Type 0 where
    pub configuration : NodeSet
    pub latest : Latest bt bv configuration

-- what holds of a commit's own numbers holds of a point that it decides
at_point : {V : Type 0} {log : List (Message V)} {t v a b : ℕ} (d : Decided log t v)
    → Upto t v a b → Upto d.commit.term d.commit.version a b
at_point d u = rw (d.of_term, d.of_version) u

-- and back
from_point : {V : Type 0} {log : List (Message V)} {t v a b : ℕ} (d : Decided log t v)
    → Upto d.commit.term d.commit.version a b → Upto t v a b
from_point d u = rw (d.of_term, d.of_version) at u

-- the latest configuration up to a point can be found
pub find_latest : {V : Type 0} (S : Setting) (log : List (Message V)) → LogInvariant S log → (bt bv : ℕ)
    → SomeLatest S log bt bv
find_latest {V} S log I bt bv = go (find_highest bt bv log)
  where
    go : Highest log bt bv → SomeLatest S log bt bv
    go (none h) = record { configuration = S.initial; latest = none (λ t v d u. h d.commit d.has (at_point d u)) refl }
    go (some c h u top) =
        let chosen = I.commit_is_chosen c h in
        record {
          configuration = chosen.publication.configuration;
          latest = last c.term c.version (record { commit = c; has = h; of_term = refl; of_version = refl }) u
              (λ a b d w. from_point d (top d.commit d.has (at_point d w)))
              chosen.publication chosen.published refl;
        }
