-- One history: what is promised of the messages in a log.
use Rattle.std.specs.Prelude.{◌≡◌, ℕ, ◌<◌, List, Some}
use Rattle.std.specs.List.{slice_get}
use Rattle.protocol.specs.declared.message.Message.{Message}
use Rattle.protocol.specs.declared.message.Message.TheVariants as message
use Rattle.protocol.specs.declared.message.Publication.{Publication}
use Rattle.protocol.specs.declared.message.Commit.{Commit}

module _ {V : Type 0} (log : List (Message V)) where
  -- entry e of the log is this message
  abbrev pub Entry : ℕ → Message V → Type 0
  Entry e m = slice_get log e ≡ Some m

  -- the log has this publication, and it is of term t and version v
  pub record Published (p : Publication V) (t v : ℕ) : Type 0 where
    pub entry : ℕ
    pub there : Entry entry (message.Publication p)
    pub of_term : p.term ≡ t
    pub of_version : p.version ≡ v

  -- the log has this commit
  pub record Committed (c : Commit) : Type 0 where
    pub entry : ℕ
    pub there : Entry entry (message.Commit c)

  -- A publication descends from a term and version if they are its base, or if a publication that has its base as term
  -- and version descends from them.
  pub data Descends : Publication V → ℕ → ℕ → Type 0 where
    from_base : {p : Publication V} {t v : ℕ} → p.base_term ≡ t → p.base_version ≡ v → Descends p t v
    by_base : {p q : Publication V} {t v : ℕ} → Published q p.base_term p.base_version → Descends q t v → Descends p t v

  -- exactly one entry of the log is a publication of term t and version v
  pub record ExactlyOne (t v : ℕ) : Type 0 where
    pub publication : Publication V
    pub published : Published publication t v
    pub only : (q : Publication V) (there : Published q t v) → there.entry ≡ published.entry

  -- One commit per version: each commit has exactly one publication of its term and version, which gives its value and
  -- configuration, and two commits of one version agree in term, value and configuration.
  pub record OneCommitPerVersion : Type 0 where
    pub one : (c : Commit) → Committed c → ExactlyOne c.term c.version
    pub same_term : (c d : Commit) → Committed c → Committed d → c.version ≡ d.version → c.term ≡ d.term
    pub same_value : (c d : Commit) → Committed c → Committed d → c.version ≡ d.version → (p q : Publication V)
        → Published p c.term c.version → Published q d.term d.version → p.value ≡ q.value
    pub same_configuration : (c d : Commit) → Committed c → Committed d → c.version ≡ d.version → (p q : Publication V)
        → Published p c.term c.version → Published q d.term d.version → p.configuration ≡ q.configuration

  -- Later commits descend from earlier ones: of two commits of different versions the publication of the higher one
  -- descends from the term and version of the lower.
  pub record LaterCommitsDescend : Type 0 where
    pub descends : (c d : Commit) → Committed c → Committed d → d.version < c.version → (p : Publication V)
        → Published p c.term c.version → Descends p d.term d.version

  -- both promises
  pub record OneHistory : Type 0 where
    pub one_commit_per_version : OneCommitPerVersion
    pub later_commits_descend : LaterCommitsDescend
