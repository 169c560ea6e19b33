-- What a log certifies, a log that has all of its messages certifies too.
use Rattle.std.proofs.Common.{ℕ, List, inl, inr, ⊎_elim}
use Rattle.quorum.specs.declared.node_set.NodeSet.{NodeSet}
use Rattle.protocol.specs.declared.message.Message.{Message}
use Rattle.protocol.specs.declared.message.Message.TheVariants as message
use Rattle.protocol.specs.declared.message.Publication.{Publication}
use Rattle.protocol.specs.History.{Published, Descends}
use Rattle.protocol.specs.History.Descends.{from_base, by_base}
use Rattle.protocol.proofs.Setting.{Setting}
use Rattle.protocol.proofs.Log.{Grown}
use Rattle.protocol.proofs.Certificates.{
  Decided,
  PublicationAt,
  Voted,
  Joined,
  Responded,
  Stands,
  Follows,
  Elected,
  Election,
  Chosen,
}
use Rattle.protocol.proofs.Certificates.Stands.{root, published}

module _ {V : Type 0} {log log' : List (Message V)} (grown : Grown log log') where
  -- a publication stays published
  pub published_grows : {p : Publication V} {t v : ℕ} → Published log p t v → Published log' p t v
  published_grows {p} h =
      let k = grown (message.Publication p) (record { entry = h.entry; there = h.there }) in
      record { entry = k.entry; there = k.there; of_term = h.of_term; of_version = h.of_version }

  -- descent stays
  pub descends_grows : {p : Publication V} {t v : ℕ} → Descends log p t v → Descends log' p t v
  descends_grows (from_base e f) = from_base e f
  descends_grows (by_base h d) = by_base (published_grows h) (descends_grows d)

  -- a commit stays
  pub decided_grows : {t v : ℕ} → Decided log t v → Decided log' t v
  decided_grows h =
      record { commit = h.commit; has = grown _ h.has; of_term = h.of_term; of_version = h.of_version }

  -- a point that has a publication keeps it
  pub publication_grows : {t v : ℕ} → PublicationAt log t v → PublicationAt log' t v
  publication_grows h = record { publication = h.publication; published = published_grows h.published }

  -- a join stays
  pub voted_grows : {s n T : ℕ} → Voted log s n T → Voted log' s n T
  voted_grows h =
      record {
        join = h.join;
        has = grown _ h.has;
        of_source = h.of_source;
        of_destination = h.of_destination;
        of_term = h.of_term;
      }

  -- and its point
  pub joined_grows : {s n T bt bv : ℕ} → Joined log s n T bt bv → Joined log' s n T bt bv
  unfolding voted_grows
  joined_grows h = record { vote = voted_grows h.vote; upto = h.upto }

  -- a response stays
  pub responded_grows : {s t v : ℕ} → Responded log s t v → Responded log' s t v
  responded_grows h =
      record {
        response = h.response;
        has = grown _ h.has;
        of_source = h.of_source;
        of_term = h.of_term;
        of_version = h.of_version;
      }

  module _ (S : Setting) where
    -- a point stands on
    pub stands_grows : {t v : ℕ} {K C : NodeSet} → Stands S log t v K C → Stands S log' t v K C
    stands_grows (root e k c) = root e k c
    stands_grows (published p h k c) = published p (published_grows h) k c

    -- what may follow a point still may
    pub follows_grows : {t v : ℕ} {K C : NodeSet} → Follows S log t v K C → Follows S log' t v K C
    follows_grows h =
        record {
          base_committed = h.base_committed;
          base_configuration = h.base_configuration;
          stands = stands_grows h.stands;
          keeps = ⊎_elim inl (λ k. inr (k.0, decided_grows k.1)) h.keeps;
          moves = h.moves;
        }

    -- who is elected on a point stays so
    pub elected_grows : {T n bt bv : ℕ} {K C J : NodeSet} → Elected S log T n bt bv K C J → Elected S log' T n bt bv K C J
    elected_grows h =
        record {
          earlier = h.earlier;
          follows = follows_grows h.follows;
          joins = λ s m. joined_grows (h.joins s m);
          of_configuration = h.of_configuration;
          of_committed = h.of_committed;
        }

    -- who is elected stays so
    pub election_grows : {T n : ℕ} → Election S log T n → Election S log' T n
    election_grows h =
        record {
          base_term = h.base_term;
          base_version = h.base_version;
          committed = h.committed;
          configuration = h.configuration;
          voters = h.voters;
          elected = elected_grows h.elected;
        }

    -- what is chosen stays so
    pub chosen_grows : {t v : ℕ} → Chosen S log t v → Chosen S log' t v
    chosen_grows h =
        record {
          publication = h.publication;
          published = published_grows h.published;
          voters = h.voters;
          responses = λ s m. responded_grows (h.responses s m);
          of_configuration = h.of_configuration;
          of_committed = h.of_committed;
        }
