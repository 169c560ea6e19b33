-- The invariant of the log.
use Rattle.std.proofs.Common.{◌≡◌, ℕ, ◌<◌, ◌≤◌, true, List}
use Rattle.quorum.specs.declared.node_set.NodeSet.{NodeSet}
use Rattle.quorum.specs.Sets.{member}
use Rattle.protocol.specs.declared.message.Message.{Message}
use Rattle.protocol.specs.declared.message.Message.TheVariants as message
use Rattle.protocol.specs.declared.message.Join.{Join}
use Rattle.protocol.specs.declared.message.Publication.{Publication}
use Rattle.protocol.specs.declared.message.Response.{Response}
use Rattle.protocol.specs.declared.message.Commit.{Commit}
use Rattle.protocol.specs.History.{Descends}
use Rattle.protocol.proofs.Setting.{Setting}
use Rattle.protocol.proofs.Log.{Has, Distinct}
use Rattle.protocol.proofs.Points.{Upto}
use Rattle.protocol.proofs.Certificates.{PublicationAt, Voted, Follows, Elected, Election, Chosen}

module _ {V : Type 0} (S : Setting) (log : List (Message V)) where
  -- nodes that have joined n in term T and are a quorum of C
  pub record Backed (T n : ℕ) (C : NodeSet) : Type 0 where
    pub voters : NodeSet
    pub joins : (s : ℕ) → member s voters ≡ true → Voted log s n T
    pub of_configuration : S.quorum voters C ≡ true

  -- Who joined its source, if its base is of an earlier term: they elected it on top of that base.
  pub record Elects (p : Publication V) : Type 0 where
    pub voters : NodeSet
    pub elected : Elected S log p.term p.source p.base_term p.base_version p.committed_configuration
        p.configuration voters

  -- what holds of each publication
  pub record Sound (p : Publication V) : Type 0 where
    -- the base is not of a later term
    pub base_terms : p.base_term ≤ p.term
    -- the base is of a lower version
    pub base_versions : p.base_version < p.version
    -- the base stands, and the configurations may follow it
    pub follows : Follows S log p.base_term p.base_version p.committed_configuration p.configuration
    -- a base of an earlier term is what the source was elected on
    pub elects : p.base_term < p.term → Elects p
    -- a quorum of its configuration has joined its source in its term
    pub backed : Backed p.term p.source p.configuration
    -- its source was elected in its term
    pub election : Election S log p.term p.source

  -- what holds of the log
  pub record LogInvariant : Type 0 where
    -- no two entries are equal messages
    pub distinct : Distinct log
    -- two joins of one source in one term have one destination
    pub one_join : (j k : Join) → Has log (message.Join j) → Has log (message.Join k)
        → j.source ≡ k.source → j.term ≡ k.term → j.destination ≡ k.destination
    -- what the source of a join had accepted is of an earlier term
    pub join_is_later : (j : Join) → Has log (message.Join j) → j.base_term < j.term
    -- a response has a publication of its term and version
    pub response-answers : (m : Response) → Has log (message.Response m) → PublicationAt log m.term m.version
    -- a join has a point not before what its source had accepted in earlier terms
    pub join_tells : (j : Join) (m : Response) → Has log (message.Join j) → Has log (message.Response m)
        → j.source ≡ m.source → m.term < j.term → Upto m.term m.version j.base_term j.base_version
    -- two publications of one point are equal
    pub one_publication : (p q : Publication V) → Has log (message.Publication p) → Has log (message.Publication q)
        → p.term ≡ q.term → p.version ≡ q.version → p ≡ q
    -- each publication is sound
    pub sound : (p : Publication V) → Has log (message.Publication p) → Sound p
    -- of two publications of one term the later descends from the earlier
    pub one_line_a_term : (p q : Publication V) → Has log (message.Publication p) → Has log (message.Publication q)
        → p.term ≡ q.term → p.version < q.version → Descends log q p.term p.version
    -- each commit's point is chosen
    pub commit_is_chosen : (c : Commit) → Has log (message.Commit c) → Chosen S log c.term c.version
    -- a publication descends from every commit of an earlier term
    pub later_terms_descend : (c : Commit) (q : Publication V) → Has log (message.Commit c) → Has log (message.Publication q)
        → c.term < q.term → Descends log q c.term c.version
