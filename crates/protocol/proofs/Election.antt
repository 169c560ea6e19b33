-- An election sees every chosen point, and a term has one leader.
use Rattle.std.proofs.Common.{◌≡◌, ℕ, zero, suc, ◌<◌, true, ◌⊎◌, List, sym, ◌∙◌, inl, inr, ⊎_elim, arith}
use Rattle.quorum.specs.declared.node_set.NodeSet.{NodeSet}
use Rattle.protocol.specs.declared.message.Message.{Message}
use Rattle.protocol.specs.declared.message.Message.TheVariants as message
use Rattle.protocol.specs.declared.message.Publication.{Publication}
use Rattle.protocol.specs.History.{Published}
use Rattle.protocol.proofs.Setting.{Setting}
use Rattle.protocol.proofs.Log.{Has}
use Rattle.protocol.proofs.Points.{Upto, Before, upto_trans, before_is_upto, upto_then_before, before_here, cases_points}
use Rattle.protocol.proofs.Certificates.{Decided, Voted, Joined, Responded, Elected, Election, Chosen, published_has}
use Rattle.protocol.proofs.LogInvariant.{LogInvariant}
use Rattle.protocol.proofs.Descent.{decided_is_chosen, committed_below_is_ancestor, descent_rises}
use Rattle.protocol.proofs.Latest.{Latest, find_latest}
use Rattle.protocol.proofs.Latest.Latest.{none, last}
use Rattle.protocol.proofs.View.{view_keeps_latest, base_is_before, committed_below_is_upto_base}

module _ {V : Type 0} (S : Setting) (log : List (Message V)) (I : LogInvariant S log) where
  -- a quorum of both configurations is a quorum of the latest, which is one of them
  quorum_of_latest : {K C X J : NodeSet} → S.quorum J K ≡ true → S.quorum J C ≡ true → (X ≡ K) ⊎ (X ≡ C) → S.quorum J X ≡ true
  quorum_of_latest k c (inl e) = rw e k
  quorum_of_latest k c (inr e) = rw e c

  -- an election's voters are a quorum of the latest configuration at its base
  elected_by_latest : {T n bt bv : ℕ} {K C J X : NodeSet} → Elected S log T n bt bv K C J → Latest S log bt bv X
      → S.quorum J X ≡ true
  elected_by_latest e l = quorum_of_latest e.of_committed e.of_configuration (view_keeps_latest S log I e.follows l)

  -- a chosen publication's voters are a quorum of the latest configuration at the publication's base
  chosen_by_latest : {t v : ℕ} {X : NodeSet} (c : Chosen S log t v)
      → Latest S log c.publication.base_term c.publication.base_version X → S.quorum c.voters X ≡ true
  chosen_by_latest c l =
      let s = I.sound c.publication (published_has log c.published) in
      quorum_of_latest c.of_committed c.of_configuration (view_keeps_latest S log I s.follows l)

  -- a node that both accepted a point and joined a later term tells of the point
  voter_tells : {s n T bt bv t v : ℕ} → Responded log s t v → Joined log s n T bt bv → t < T → Upto t v bt bv
  voter_tells {s} {n} {T} {bt} {bv} {t} {v} r j less =
      let told : Upto r.response.term r.response.version j.vote.join.base_term j.vote.join.base_version =
      I.join_tells j.vote.join r.response j.vote.has r.has (j.vote.of_source ∙ sym r.of_source)
      (omega arith) in
      let here : Upto t v j.vote.join.base_term j.vote.join.base_version = rw (r.of_term, r.of_version) at told in
      upto_trans here j.upto

  -- by induction: an election sees the chosen points that are below a version
  sees_below : (k : ℕ) {T n bt bv t v : ℕ} {K C J : NodeSet} → v < k → Elected S log T n bt bv K C J → Chosen S log t v → t < T
      → Upto t v bt bv
  sees_below zero less e c earlier = absurd (omega arith)
  sees_below (suc k) {T} {n} {bt} {bv} {t} {v} {K} {C} {J} less e c earlier =
      go (λ a b m d. sees_below k m e (decided_is_chosen S log I d)) (cases_points t v bt bv)
    where
      p : Publication V
      p = c.publication

      has : Has log (message.Publication p)
      has = published_has log c.published

      Rest : Type 0
      Rest = (a b : ℕ) → b < k → Decided log a b → a < T → Upto a b bt bv

      at_p : {a b : ℕ} → Before a b t v → Before a b p.term p.version
      at_p b = before_here c.published.of_term c.published.of_version b

      latest_at_election : {X : NodeSet} → Rest → Before bt bv t v → Latest S log p.base_term p.base_version X
          → Latest S log bt bv X
      latest_at_election rest b (none h x) =
          none (λ a d l u. h a d l (committed_below_is_upto_base S log I has l (at_p (upto_then_before u b)))) x
      latest_at_election rest b (last a d l u top q g x) =
          let before : Before a d p.term p.version = upto_then_before u (base_is_before S log I has) in
          let rises = descent_rises S log I has (committed_below_is_ancestor S log I l has before) in
          last a d l
          (rest a d (omega arith) l (omega arith))
          (λ a' d' l' u'. top a' d' l' (committed_below_is_upto_base S log I has l' (at_p (upto_then_before u' b))))
          q g x

      go : Rest → Upto t v bt bv ⊎ Before bt bv t v → Upto t v bt bv
      go rest (inl u) = u
      go rest (inr b) =
          let l = find_latest S log I p.base_term p.base_version in
          let both = S.shared c.voters J l.configuration (chosen_by_latest c l.latest)
          (elected_by_latest e (latest_at_election rest b l.latest)) in
          voter_tells (c.responses both.0 both.1) (e.joins both.0 both.2) earlier

  -- an election sees every chosen point of an earlier term
  pub an_election_sees_every_chosen_point : {T n bt bv t v : ℕ} {K C J : NodeSet} → Elected S log T n bt bv K C J
      → Chosen S log t v → t < T → Upto t v bt bv
  an_election_sees_every_chosen_point {v = v} e c earlier = sees_below (suc v) (omega arith) e c earlier

  -- a node votes for one leader a term
  pub one_vote : {s n m T : ℕ} → Voted log s n T → Voted log s m T → n ≡ m
  one_vote a b =
      sym a.of_destination
      ∙ I.one_join a.join b.join a.has b.has (a.of_source ∙ sym b.of_source) (a.of_term ∙ sym b.of_term)
      ∙ b.of_destination

  -- one leader a term, where the first base is not after the second
  one_leader_in_order : {T n m at av bt bv : ℕ} {K C J L D M : NodeSet} → Elected S log T n at av K C J
      → Elected S log T m bt bv L D M → Upto at av bt bv → n ≡ m
  one_leader_in_order {T} {n} {m} {at} {av} {bt} {bv} {J = J} {M = M} e f u =
      let l = find_latest S log I bt bv in
      let both = S.shared J M l.configuration (elected_by_latest e (latest_at_first l.latest))
      (elected_by_latest f l.latest) in
      one_vote (e.joins both.0 both.1).vote (f.joins both.0 both.2).vote
    where
      latest_at_first : {X : NodeSet} → Latest S log bt bv X → Latest S log at av X
      latest_at_first (none h x) = none (λ a b d w. h a b d (upto_trans w u)) x
      latest_at_first (last a b d w top q g x) =
          last a b d (an_election_sees_every_chosen_point e (decided_is_chosen S log I d) (omega arith))
          (λ a' b' d' w'. top a' b' d' (upto_trans w' u)) q g x

  -- one leader a term
  pub one_leader_a_term : {T n m : ℕ} → Election S log T n → Election S log T m → n ≡ m
  one_leader_a_term e f =
      ⊎_elim (λ u. one_leader_in_order e.elected f.elected u)
      (λ b. sym (one_leader_in_order f.elected e.elected (before_is_upto b)))
      (cases_points e.base_term e.base_version f.base_term f.base_version)

  -- who publishes in a term is the leader of that term
  pub publisher_is_leader : {T v n : ℕ} {p : Publication V} → Election S log T n → Published log p T v → p.source ≡ n
  publisher_is_leader {T} {v} {n} {p} e h =
      let election : Election S log T p.source = rw h.of_term at (I.sound p (published_has log h)).election in
      one_leader_a_term election e
