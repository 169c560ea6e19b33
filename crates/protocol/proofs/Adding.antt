-- The log invariant holds of a log with one message more, if the message fits.
use Rattle.std.proofs.Common.{◌≡◌, ◌<◌, ◌⊎◌, List, sym, ap, subst, inl, inr, ⊎_elim, arith}
use Rattle.protocol.specs.declared.message.Message.{Message}
use Rattle.protocol.specs.declared.message.Message.TheVariants as message
use Rattle.protocol.specs.declared.message.Join.{Join}
use Rattle.protocol.specs.declared.message.Publication.{Publication}
use Rattle.protocol.specs.declared.message.Response.{Response}
use Rattle.protocol.specs.declared.message.Commit.{Commit}
use Rattle.protocol.specs.History.{Descends}
use Rattle.protocol.proofs.Setting.{Setting}
use Rattle.protocol.proofs.Log.{Has, Grown, Adds, impossible}
use Rattle.protocol.proofs.Points.{Upto}
use Rattle.protocol.proofs.Certificates.{PublicationAt, Chosen}
use Rattle.protocol.proofs.LogInvariant.{LogInvariant, Sound}
use Rattle.protocol.proofs.Fits.{Fits}
use Rattle.protocol.proofs.Growth.{
  publication_grows,
  descends_grows,
  voted_grows,
  follows_grows,
  elected_grows,
  election_grows,
  chosen_grows,
}

-- a publication that is sound is so in a longer log
sound_grows : {V : Type 0} (S : Setting) {log log' : List (Message V)} → Grown log log' → (p : Publication V)
    → Sound S log p → Sound S log' p
sound_grows S grown p s =
    record {
      base_terms = s.base_terms;
      base_versions = s.base_versions;
      follows = follows_grows grown S s.follows;
      elects = λ lt. record { voters = (s.elects lt).voters; elected = elected_grows grown S (s.elects lt).elected };
      backed = record {
        voters = s.backed.voters;
        joins = λ k m. voted_grows grown (s.backed.joins k m);
        of_configuration = s.backed.of_configuration;
      };
      election = election_grows grown S s.election;
    }

module _ {V : Type 0} (S : Setting) {log log' : List (Message V)} {m : Message V} (I : LogInvariant S log) (a : Adds log log' m)
    (fits : Fits S log m) where
  -- a message of the longer log is old, or it is the new one and fits
  abbrev Either : Message V → Type 0
  Either x = Has log x ⊎ ((x ≡ m) × Fits S log x)

  either : (x : Message V) → Has log' x → Either x
  either x h = ⊎_elim inl (λ e. inr (e, subst (λ (y : Message V). Fits S log y) (sym e) fits)) (a.new x h)

  -- clause by clause, for the old messages and the new one: one destination for the joins of a source in a term
  one_join : (j k : Join) → Either (message.Join j) → Either (message.Join k) → j.source ≡ k.source → j.term ≡ k.term
      → j.destination ≡ k.destination
  one_join j k (inl hj) (inl hk) s t = I.one_join j k hj hk s t
  one_join j k (inl hj) (inr n) s t = absurd (omega (arith, n.1.first j hj s, t))
  one_join j k (inr n) (inl hk) s t = absurd (omega (arith, n.1.first k hk (sym s), t))
  one_join j k (inr n) (inr o) s t = let e : j ≡ k = cc (n.0, o.0) in ap (λ (x : Join). x.destination) e

  -- a join is of a later term than its point
  join_is_later : (j : Join) → Either (message.Join j) → j.base_term < j.term
  join_is_later j (inl h) = I.join_is_later j h
  join_is_later j (inr n) = n.1.later

  -- a response answers a publication
  response-answers : (r : Response) → Either (message.Response r) → PublicationAt log r.term r.version
  response-answers r (inl h) = I.response-answers r h
  response-answers r (inr n) = n.1.answers

  -- a join tells of what its source has accepted
  join_tells : (j : Join) (r : Response) → Either (message.Join j) → Either (message.Response r) → j.source ≡ r.source
      → r.term < j.term → Upto r.term r.version j.base_term j.base_version
  join_tells j r (inl hj) (inl hr) s lt = I.join_tells j r hj hr s lt
  join_tells j r (inl hj) (inr n) s lt = absurd (omega (arith, n.1.current j hj s))
  join_tells j r (inr n) (inl hr) s lt = n.1.tells r hr (sym s)
  join_tells j r (inr n) (inr o) s lt = impossible (cc (n.0, o.0))

  -- one publication at a point
  one_publication : (p q : Publication V) → Either (message.Publication p) → Either (message.Publication q) → p.term ≡ q.term
      → p.version ≡ q.version → p ≡ q
  one_publication p q (inl hp) (inl hq) t v = I.one_publication p q hp hq t v
  one_publication p q (inl hp) (inr n) t v = absurd (omega (arith, n.1.newest p hp t, v))
  one_publication p q (inr n) (inl hq) t v = absurd (omega (arith, n.1.newest q hq (sym t), v))
  one_publication p q (inr n) (inr o) t v = cc (n.0, o.0)

  -- publications are sound
  sound : (p : Publication V) → Either (message.Publication p) → Sound S log p
  sound p (inl h) = I.sound p h
  sound p (inr n) = n.1.sound

  -- the publications of a term descend from one another
  one_line_a_term : (p q : Publication V) → Either (message.Publication p) → Either (message.Publication q) → p.term ≡ q.term
      → p.version < q.version → Descends log q p.term p.version
  one_line_a_term p q (inl hp) (inl hq) t lt = I.one_line_a_term p q hp hq t lt
  one_line_a_term p q (inl hp) (inr n) t lt = n.1.descends p hp t
  one_line_a_term p q (inr n) (inl hq) t lt = absurd (omega (arith, n.1.newest q hq (sym t)))
  one_line_a_term p q (inr n) (inr o) t lt =
      let e : p ≡ q = cc (n.0, o.0) in absurd (omega (arith, ap (λ (x : Publication V). x.version) e))

  -- commits are chosen
  commit_is_chosen : (c : Commit) → Either (message.Commit c) → Chosen S log c.term c.version
  commit_is_chosen c (inl h) = I.commit_is_chosen c h
  commit_is_chosen c (inr n) = n.1.chosen

  -- later terms descend from commits
  later_terms_descend : (c : Commit) (q : Publication V) → Either (message.Commit c) → Either (message.Publication q)
      → c.term < q.term
      → Descends log q c.term c.version
  later_terms_descend c q (inl hc) (inl hq) lt = I.later_terms_descend c q hc hq lt
  later_terms_descend c q (inl hc) (inr n) lt = n.1.descends_from_commits c hc lt
  later_terms_descend c q (inr n) (inl hq) lt = n.1.ancestor q hq lt
  later_terms_descend c q (inr n) (inr o) lt = impossible (cc (n.0, o.0))

  -- a message that fits keeps the invariant
  pub fitting_message_keeps : LogInvariant S log'
  fitting_message_keeps =
      record {
        distinct = a.distinct I.distinct;
        one_join = λ j k hj hk. one_join j k (either _ hj) (either _ hk);
        join_is_later = λ j h. join_is_later j (either _ h);
        response-answers = λ r h. publication_grows a.keeps (response-answers r (either _ h));
        join_tells = λ j r hj hr. join_tells j r (either _ hj) (either _ hr);
        one_publication = λ p q hp hq. one_publication p q (either _ hp) (either _ hq);
        sound = λ p h. sound_grows S a.keeps p (sound p (either _ h));
        one_line_a_term = λ p q hp hq t lt. descends_grows a.keeps (one_line_a_term p q (either _ hp) (either _ hq) t lt);
        commit_is_chosen = λ c h. chosen_grows a.keeps S (commit_is_chosen c (either _ h));
        later_terms_descend = λ c q hc hq lt. descends_grows a.keeps (later_terms_descend c q (either _ hc) (either _ hq) lt);
      }
