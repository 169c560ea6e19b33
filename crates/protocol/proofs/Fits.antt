-- What the log invariant asks of a message that is sent.
use Rattle.std.proofs.Common.{◌≡◌, ◌<◌, ◌≤◌, List}
use Rattle.protocol.specs.declared.message.Message.{Message}
use Rattle.protocol.specs.declared.message.Message.TheVariants as message
use Rattle.protocol.specs.declared.message.Join.{Join}
use Rattle.protocol.specs.declared.message.Publication.{Publication}
use Rattle.protocol.specs.declared.message.Response.{Response}
use Rattle.protocol.specs.declared.message.Commit.{Commit}
use Rattle.protocol.specs.History.{Descends}
use Rattle.protocol.proofs.Setting.{Setting}
use Rattle.protocol.proofs.Log.{Has}
use Rattle.protocol.proofs.Points.{Upto}
use Rattle.protocol.proofs.Certificates.{PublicationAt, Chosen}
use Rattle.protocol.proofs.LogInvariant.{Sound}

module _ {V : Type 0} (S : Setting) (log : List (Message V)) where
  -- a join
  pub record FitsJoin (j : Join) : Type 0 where
    -- what its source has accepted is of an earlier term
    pub later : j.base_term < j.term
    -- its source has not joined in this term or a later one
    pub first : (k : Join) → Has log (message.Join k) → k.source ≡ j.source → k.term < j.term
    -- it tells of all that its source has responded to
    pub tells : (m : Response) → Has log (message.Response m) → m.source ≡ j.source
        → Upto m.term m.version j.base_term j.base_version

  -- a publication
  pub record FitsPublication (p : Publication V) : Type 0 where
    pub sound : Sound S log p
    -- it is newer than the other publications of its term
    pub newest : (q : Publication V) → Has log (message.Publication q) → q.term ≡ p.term → q.version < p.version
    -- it descends from them
    pub descends : (q : Publication V) → Has log (message.Publication q) → q.term ≡ p.term
        → Descends log p q.term q.version
    -- it descends from the commits of earlier terms
    pub descends_from_commits : (c : Commit) → Has log (message.Commit c) → c.term < p.term
        → Descends log p c.term c.version

  -- a response
  pub record FitsResponse (m : Response) : Type 0 where
    -- there is what it answers
    pub answers : PublicationAt log m.term m.version
    -- its source has not joined in a later term
    pub current : (j : Join) → Has log (message.Join j) → j.source ≡ m.source → j.term ≤ m.term

  -- a commit
  pub record FitsCommit (c : Commit) : Type 0 where
    pub chosen : Chosen S log c.term c.version
    -- the publications of later terms descend from it
    pub ancestor : (q : Publication V) → Has log (message.Publication q) → c.term < q.term
        → Descends log q c.term c.version

  -- a message of any kind
  abbrev pub Fits : Message V → Type 0
  Fits (message.Join j) = FitsJoin j
  Fits (message.Publication p) = FitsPublication p
  Fits (message.Response m) = FitsResponse m
  Fits (message.Commit c) = FitsCommit c
