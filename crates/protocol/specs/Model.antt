-- The public model, module ZenWithTerms, under its own names and in its own order. An action is a record over two states,
-- one field for each conjunct; UNCHANGED is one field. What is asserted and not asked is a record of its own.
use Rattle.std.specs.Prelude.{◌≡◌, ℕ, zero, suc, ◌<◌, ◌≤◌, Bool, true, false, cond, not, ◌&&◌, ◌≢◌, ◌⊎◌, List, [], ◌∷◌, ◌++◌, map, ◌==◌}
use Rattle.quorum.specs.declared.node_set.NodeSet.{NodeSet}
use Rattle.quorum.specs.Sets.{Configuration, nobody, with_node}

infix 20 ◌∈◌
infix 20 ◌≈◌
infixl 30 ◌∪◌
infix 40 ◌EXCEPT![◌]=◌
infix 10 IF◌THEN◌ELSE◌
-- A set of records is a list: what is in it, and when two are the same set.
abbrev pub ◌∈◌ : {X : Type 0} → X → List X → Type 0
x ∈ [] = ⊥
x ∈ (y ∷ ys) = (x ≡ y) ⊎ (x ∈ ys)

abbrev pub ◌≈◌ : {X : Type 0} → List X → List X → Type 0
◌≈◌ {X} a b = (x : X) → (x ∈ a → x ∈ b) × (x ∈ b → x ∈ a)

abbrev pub ◌∪◌ : {X : Type 0} → List X → List X → List X
a ∪ b = a ++ b

abbrev pub ❴◌❵ : {X : Type 0} → X → List X
❴ x ❵ = x ∷ []

-- { e ∈ es : test e }
abbrev pub such_that : {X : Type 0} → (X → Bool) → List X → List X
such_that test [] = []
such_that test (e ∷ es) = cond (test e) (e ∷ such_that test es) (such_that test es)

-- A variable is a function of the node: [ f EXCEPT ![ n ] = x ].
abbrev pub ◌EXCEPT![◌]=◌ : {X : Type 0} → (ℕ → X) → ℕ → X → ℕ → X
◌EXCEPT![◌]=◌ f n x = λ k. cond (k == n) x (f k)

abbrev pub IF◌THEN◌ELSE◌ : Bool → Type 0 → Type 0 → Type 0
IF◌THEN◌ELSE◌ true P Q = P
IF◌THEN◌ELSE◌ false P Q = Q

-- Nodes, as a set: the numbers below N
abbrev pub Nodes : ℕ → List ℕ
Nodes zero = []
Nodes (suc N) = N ∷ Nodes N

-- The records with method Join, PublishRequest, PublishResponse and Commit
pub record JoinMessage : Type 0 where
  pub source : ℕ
  pub dest : ℕ
  pub term : ℕ
  pub laTerm : ℕ
  pub laVersion : ℕ

pub record PublishRequestMessage (V : Type 0) : Type 0 where
  pub source : ℕ
  pub dest : ℕ
  pub term : ℕ
  pub version : ℕ
  pub value : V
  pub config : NodeSet
  pub commConf : NodeSet

pub record PublishResponseMessage : Type 0 where
  pub source : ℕ
  pub dest : ℕ
  pub term : ℕ
  pub version : ℕ

pub record CommitMessage : Type 0 where
  pub source : ℕ
  pub dest : ℕ
  pub term : ℕ
  pub version : ℕ

-- CONSTANTS Join, PublishRequest, PublishResponse, Commit: m.method = Join says that m is Join of some such record.
pub data Message (V : Type 0) : Type 0 where
  Join : JoinMessage → Message V
  PublishRequest : PublishRequestMessage V → Message V
  PublishResponse : PublishResponseMessage → Message V
  Commit : CommitMessage → Message V

-- m.dest
abbrev pub dest_of : {V : Type 0} → Message V → ℕ
dest_of (Join m) = m.dest
dest_of (PublishRequest m) = m.dest
dest_of (PublishResponse m) = m.dest
dest_of (Commit m) = m.dest

-- the elements of descendant
pub record Descendant : Type 0 where
  pub prevT : ℕ
  pub prevV : ℕ
  pub nextT : ℕ
  pub nextV : ℕ

-- VARIABLES; V is Values.
pub record State (V : Type 0) : Type 0 where
  pub messages : List (Message V)
  pub descendant : List Descendant
  pub initialConfiguration : NodeSet
  pub initialValue : V
  pub initialAcceptedVersion : ℕ → ℕ
  pub currentTerm : ℕ → ℕ
  pub lastCommittedConfiguration : ℕ → NodeSet
  pub lastAcceptedTerm : ℕ → ℕ
  pub lastAcceptedVersion : ℕ → ℕ
  pub lastAcceptedValue : ℕ → V
  pub lastAcceptedConfiguration : ℕ → NodeSet
  pub joinVotes : ℕ → NodeSet
  pub startedJoinSinceLastReboot : ℕ → Bool
  pub electionWon : ℕ → Bool
  pub lastPublishedVersion : ℕ → ℕ
  pub lastPublishedConfiguration : ℕ → NodeSet
  pub publishVotes : ℕ → NodeSet

-- Terms, Versions and InitialVersions are ℕ. ValidConfigs: some node is in the set, and none but nodes.
abbrev pub ValidConfigs : ℕ → NodeSet → Type 0
ValidConfigs N config = Configuration N config

module _ {V : Type 0} (N : ℕ) (IsQuorum : NodeSet → NodeSet → Bool) (σ : State V) where
  open σ use {
    messages,
    descendant,
    initialConfiguration,
    initialValue,
    initialAcceptedVersion,
    currentTerm,
    lastCommittedConfiguration,
    lastAcceptedTerm,
    lastAcceptedVersion,
    lastAcceptedValue,
    lastAcceptedConfiguration,
    joinVotes,
    startedJoinSinceLastReboot,
    electionWon,
    lastPublishedVersion,
    lastPublishedConfiguration,
    publishVotes,
  }

  abbrev pub IsElectionQuorum : (n : ℕ) (votes : NodeSet) → Bool
  IsElectionQuorum n votes =
      IsQuorum votes (lastCommittedConfiguration n)
      && IsQuorum votes (lastAcceptedConfiguration n)

  abbrev pub IsPublishQuorum : (n : ℕ) (votes : NodeSet) → Bool
  IsPublishQuorum n votes =
      IsQuorum votes (lastCommittedConfiguration n)
      && IsQuorum votes (lastPublishedConfiguration n)

  -- initialValue ∈ Values and initialAcceptedVersion ∈ [Nodes → InitialVersions] hold by their types.
  pub record Init : Type 0 where
    pub c1 : messages ≈ []
    pub c2 : descendant ≈ []
    pub c3 : ValidConfigs N initialConfiguration
    pub c6 : currentTerm ≡ (λ n. 0)
    pub c7 : lastCommittedConfiguration ≡ (λ n. nobody)
    pub c8 : lastAcceptedTerm ≡ (λ n. 0)
    pub c9 : lastAcceptedVersion ≡ initialAcceptedVersion
    pub c10 : (v : V) × (lastAcceptedValue ≡ (λ n. v))
    pub c11 : lastAcceptedConfiguration ≡ (λ n. lastCommittedConfiguration n)
    pub c12 : joinVotes ≡ (λ n. nobody)
    pub c13 : startedJoinSinceLastReboot ≡ (λ n. false)
    pub c14 : electionWon ≡ (λ n. false)
    pub c15 : lastPublishedVersion ≡ (λ n. 0)
    pub c16 : lastPublishedConfiguration ≡ (λ n. lastCommittedConfiguration n)
    pub c17 : publishVotes ≡ (λ n. nobody)

  -- HandleStartJoin, LET
  abbrev pub joinRequest : (n nm t : ℕ) → Message V
  joinRequest n nm t = Join (record {
    source = n;
    dest = nm;
    term = t;
    laTerm = lastAcceptedTerm n;
    laVersion = lastAcceptedVersion n;
  })

  -- HandleClientValue, LET
  abbrev pub publishRequests : (n t v : ℕ) (val : V) (cfg : NodeSet) → List (Message V)
  publishRequests n t v val cfg = map (λ ns. PublishRequest (record {
    source = n;
    dest = ns;
    term = t;
    version = v;
    value = val;
    config = cfg;
    commConf = lastCommittedConfiguration n;
  })) (Nodes N)

  abbrev pub newEntry : (n t v : ℕ) → Descendant
  newEntry n t v = record {
    prevT = lastAcceptedTerm n;
    prevV = lastAcceptedVersion n;
    nextT = t;
    nextV = v;
  }

  abbrev pub matchingElems : (n t v : ℕ) → List Descendant
  matchingElems n t v = such_that (λ e.
      (e.nextT == (newEntry n t v).prevT)
      && e.nextV == (newEntry n t v).prevV) descendant

  abbrev pub newTransitiveElems : (n t v : ℕ) → List Descendant
  newTransitiveElems n t v = map (λ (e : Descendant). record {
    prevT = e.prevT;
    prevV = e.prevV;
    nextT = (newEntry n t v).nextT;
    nextV = (newEntry n t v).nextV;
  }) (matchingElems n t v)

  -- HandlePublishRequest, LET
  abbrev pub response : (n : ℕ) (m : PublishRequestMessage V) → Message V
  response n m = PublishResponse (record {
    source = n;
    dest = m.source;
    term = m.term;
    version = m.version;
  })

  -- HandlePublishResponse, LET
  abbrev pub commitRequests : (n : ℕ) → List (Message V)
  commitRequests n = map (λ ns. Commit (record {
    source = n;
    dest = ns;
    term = currentTerm n;
    version = lastPublishedVersion n;
  })) (Nodes N)

  module _ (σ' : State V) where
    open σ' use {
      messages as messages',
      descendant as descendant',
      initialConfiguration as initialConfiguration',
      initialValue as initialValue',
      initialAcceptedVersion as initialAcceptedVersion',
      currentTerm as currentTerm',
      lastCommittedConfiguration as lastCommittedConfiguration',
      lastAcceptedTerm as lastAcceptedTerm',
      lastAcceptedVersion as lastAcceptedVersion',
      lastAcceptedValue as lastAcceptedValue',
      lastAcceptedConfiguration as lastAcceptedConfiguration',
      joinVotes as joinVotes',
      startedJoinSinceLastReboot as startedJoinSinceLastReboot',
      electionWon as electionWon',
      lastPublishedVersion as lastPublishedVersion',
      lastPublishedConfiguration as lastPublishedConfiguration',
      publishVotes as publishVotes',
    }

    pub record SetInitialState (n : ℕ) : Type 0 where
      pub c1 : lastAcceptedConfiguration n ≡ nobody
      pub c9 : lastAcceptedConfiguration' ≡ (lastAcceptedConfiguration EXCEPT![ n ]= initialConfiguration)
      pub c10 : lastAcceptedValue' ≡ (lastAcceptedValue EXCEPT![ n ]= initialValue)
      pub c11 : lastCommittedConfiguration' ≡ (lastCommittedConfiguration EXCEPT![ n ]= initialConfiguration)
      pub unchanged : (descendant' ≈ descendant)
          × (initialConfiguration' ≡ initialConfiguration)
          × (initialValue' ≡ initialValue)
          × (messages' ≈ messages)
          × (lastAcceptedTerm' ≡ lastAcceptedTerm)
          × (lastAcceptedVersion' ≡ lastAcceptedVersion)
          × (lastPublishedVersion' ≡ lastPublishedVersion)
          × (lastPublishedConfiguration' ≡ lastPublishedConfiguration)
          × (electionWon' ≡ electionWon)
          × (joinVotes' ≡ joinVotes)
          × (publishVotes' ≡ publishVotes)
          × (startedJoinSinceLastReboot' ≡ startedJoinSinceLastReboot)
          × (currentTerm' ≡ currentTerm)
          × (initialAcceptedVersion' ≡ initialAcceptedVersion)

    -- its Asserts: c2 to c8 of the state before, c12 to c14 after the new values
    pub record SetInitialStateAsserts (n : ℕ) : Type 0 where
      pub c2 : lastAcceptedTerm n ≡ 0
      pub c3 : lastCommittedConfiguration n ≡ nobody
      pub c4 : lastPublishedVersion n ≡ 0
      pub c5 : lastPublishedConfiguration n ≡ nobody
      pub c6 : electionWon n ≡ false
      pub c7 : joinVotes n ≡ nobody
      pub c8 : publishVotes n ≡ nobody
      pub c12 : lastAcceptedTerm n ≡ 0
      pub c13 : lastAcceptedConfiguration' n ≢ nobody
      pub c14 : lastCommittedConfiguration' n ≢ nobody

    pub record HandleStartJoin (n nm t : ℕ) : Type 0 where
      pub c1 : currentTerm n < t
      pub c2 : currentTerm' ≡ (currentTerm EXCEPT![ n ]= t)
      pub c3 : lastPublishedVersion' ≡ (lastPublishedVersion EXCEPT![ n ]= 0)
      pub c4 : lastPublishedConfiguration' ≡ (lastPublishedConfiguration EXCEPT![ n ]= lastAcceptedConfiguration n)
      pub c5 : startedJoinSinceLastReboot' ≡ (startedJoinSinceLastReboot EXCEPT![ n ]= true)
      pub c6 : electionWon' ≡ (electionWon EXCEPT![ n ]= false)
      pub c7 : joinVotes' ≡ (joinVotes EXCEPT![ n ]= nobody)
      pub c8 : publishVotes' ≡ (publishVotes EXCEPT![ n ]= nobody)
      pub c9 : messages' ≈ messages ∪ ❴ joinRequest n nm t ❵
      pub unchanged : (lastCommittedConfiguration' ≡ lastCommittedConfiguration)
          × (lastAcceptedConfiguration' ≡ lastAcceptedConfiguration)
          × (lastAcceptedVersion' ≡ lastAcceptedVersion)
          × (lastAcceptedValue' ≡ lastAcceptedValue)
          × (lastAcceptedTerm' ≡ lastAcceptedTerm)
          × (descendant' ≈ descendant)
          × (initialConfiguration' ≡ initialConfiguration)
          × (initialValue' ≡ initialValue)
          × (initialAcceptedVersion' ≡ initialAcceptedVersion)

    -- Where an action takes a message, msg is it, and m the record that it is of its method.
    pub record HandleJoin (n : ℕ) (msg : Message V) : Type 0 where
      pub m : JoinMessage
      pub c1 : msg ≡ Join m
      pub c2 : m.term ≡ currentTerm n
      pub c3 : startedJoinSinceLastReboot n ≡ true
      pub c4 : (m.laTerm < lastAcceptedTerm n)
          ⊎ ((m.laTerm ≡ lastAcceptedTerm n) × (m.laVersion ≤ lastAcceptedVersion n))
      pub c5 : lastAcceptedConfiguration n ≢ nobody
      pub c6 : joinVotes' ≡ (joinVotes EXCEPT![ n ]= with_node m.source (joinVotes n))
      pub c7 : electionWon' ≡ (electionWon EXCEPT![ n ]= IsElectionQuorum n (joinVotes' n))
      pub c8 : IF not (electionWon n) && electionWon' n
          THEN lastPublishedVersion' ≡ (lastPublishedVersion EXCEPT![ n ]= lastAcceptedVersion n)
          ELSE (lastPublishedVersion' ≡ lastPublishedVersion)
      pub unchanged : (lastCommittedConfiguration' ≡ lastCommittedConfiguration)
          × (currentTerm' ≡ currentTerm)
          × (publishVotes' ≡ publishVotes)
          × (messages' ≈ messages)
          × (descendant' ≈ descendant)
          × (lastAcceptedVersion' ≡ lastAcceptedVersion)
          × (lastAcceptedValue' ≡ lastAcceptedValue)
          × (lastAcceptedConfiguration' ≡ lastAcceptedConfiguration)
          × (lastAcceptedTerm' ≡ lastAcceptedTerm)
          × (startedJoinSinceLastReboot' ≡ startedJoinSinceLastReboot)
          × (lastPublishedConfiguration' ≡ lastPublishedConfiguration)
          × (initialConfiguration' ≡ initialConfiguration)
          × (initialValue' ≡ initialValue)
          × (initialAcceptedVersion' ≡ initialAcceptedVersion)

    pub record HandleClientValue (n t v : ℕ) (val : V) (cfg : NodeSet) : Type 0 where
      pub c1 : electionWon n ≡ true
      pub c2 : lastPublishedVersion n ≡ lastAcceptedVersion n
      pub c3 : t ≡ currentTerm n
      pub c4 : lastPublishedVersion n < v
      pub c5 : cfg ≢ lastAcceptedConfiguration n → lastCommittedConfiguration n ≡ lastAcceptedConfiguration n
      pub c6 : IsQuorum (joinVotes n) cfg ≡ true
      pub c7 : descendant' ≈ descendant ∪ ❴ newEntry n t v ❵ ∪ newTransitiveElems n t v
      pub c8 : lastPublishedVersion' ≡ (lastPublishedVersion EXCEPT![ n ]= v)
      pub c9 : lastPublishedConfiguration' ≡ (lastPublishedConfiguration EXCEPT![ n ]= cfg)
      pub c10 : publishVotes' ≡ (publishVotes EXCEPT![ n ]= nobody)
      pub c11 : messages' ≈ messages ∪ publishRequests n t v val cfg
      pub unchanged : (startedJoinSinceLastReboot' ≡ startedJoinSinceLastReboot)
          × (lastCommittedConfiguration' ≡ lastCommittedConfiguration)
          × (currentTerm' ≡ currentTerm)
          × (electionWon' ≡ electionWon)
          × (lastAcceptedVersion' ≡ lastAcceptedVersion)
          × (lastAcceptedValue' ≡ lastAcceptedValue)
          × (lastAcceptedTerm' ≡ lastAcceptedTerm)
          × (lastAcceptedConfiguration' ≡ lastAcceptedConfiguration)
          × (joinVotes' ≡ joinVotes)
          × (initialConfiguration' ≡ initialConfiguration)
          × (initialValue' ≡ initialValue)
          × (initialAcceptedVersion' ≡ initialAcceptedVersion)

    pub record HandlePublishRequest (n : ℕ) (msg : Message V) : Type 0 where
      pub m : PublishRequestMessage V
      pub c1 : msg ≡ PublishRequest m
      pub c2 : m.term ≡ currentTerm n
      pub c3 : m.term ≡ lastAcceptedTerm n → lastAcceptedVersion n < m.version
      pub c4 : lastAcceptedTerm' ≡ (lastAcceptedTerm EXCEPT![ n ]= m.term)
      pub c5 : lastAcceptedVersion' ≡ (lastAcceptedVersion EXCEPT![ n ]= m.version)
      pub c6 : lastAcceptedValue' ≡ (lastAcceptedValue EXCEPT![ n ]= m.value)
      pub c7 : lastAcceptedConfiguration' ≡ (lastAcceptedConfiguration EXCEPT![ n ]= m.config)
      pub c8 : lastCommittedConfiguration' ≡ (lastCommittedConfiguration EXCEPT![ n ]= m.commConf)
      pub c9 : messages' ≈ messages ∪ ❴ response n m ❵
      pub unchanged : (startedJoinSinceLastReboot' ≡ startedJoinSinceLastReboot)
          × (currentTerm' ≡ currentTerm)
          × (descendant' ≈ descendant)
          × (lastPublishedConfiguration' ≡ lastPublishedConfiguration)
          × (electionWon' ≡ electionWon)
          × (lastPublishedVersion' ≡ lastPublishedVersion)
          × (joinVotes' ≡ joinVotes)
          × (publishVotes' ≡ publishVotes)
          × (initialConfiguration' ≡ initialConfiguration)
          × (initialValue' ≡ initialValue)
          × (initialAcceptedVersion' ≡ initialAcceptedVersion)

    pub record HandlePublishResponse (n : ℕ) (msg : Message V) : Type 0 where
      pub m : PublishResponseMessage
      pub c1 : msg ≡ PublishResponse m
      pub c2 : electionWon n ≡ true
      pub c3 : m.term ≡ currentTerm n
      pub c4 : m.version ≡ lastPublishedVersion n
      pub c5 : publishVotes' ≡ (publishVotes EXCEPT![ n ]= with_node m.source (publishVotes n))
      pub c6 : IF IsPublishQuorum n (publishVotes' n)
          THEN messages' ≈ messages ∪ commitRequests n
          ELSE (messages' ≈ messages)
      pub unchanged : (startedJoinSinceLastReboot' ≡ startedJoinSinceLastReboot)
          × (lastCommittedConfiguration' ≡ lastCommittedConfiguration)
          × (currentTerm' ≡ currentTerm)
          × (electionWon' ≡ electionWon)
          × (descendant' ≈ descendant)
          × (lastAcceptedVersion' ≡ lastAcceptedVersion)
          × (lastAcceptedValue' ≡ lastAcceptedValue)
          × (lastAcceptedTerm' ≡ lastAcceptedTerm)
          × (lastAcceptedConfiguration' ≡ lastAcceptedConfiguration)
          × (lastPublishedVersion' ≡ lastPublishedVersion)
          × (lastPublishedConfiguration' ≡ lastPublishedConfiguration)
          × (joinVotes' ≡ joinVotes)
          × (initialConfiguration' ≡ initialConfiguration)
          × (initialValue' ≡ initialValue)
          × (initialAcceptedVersion' ≡ initialAcceptedVersion)

    pub record HandleCommit (n : ℕ) (msg : Message V) : Type 0 where
      pub m : CommitMessage
      pub c1 : msg ≡ Commit m
      pub c2 : m.term ≡ currentTerm n
      pub c3 : m.term ≡ lastAcceptedTerm n
      pub c4 : m.version ≡ lastAcceptedVersion n
      pub c5 : electionWon n ≡ true → lastAcceptedVersion n ≡ lastPublishedVersion n
      pub c6 : lastCommittedConfiguration' ≡ (lastCommittedConfiguration EXCEPT![ n ]= lastAcceptedConfiguration n)
      -- descendant stands last: the module's text is cut off here
      pub unchanged : (currentTerm' ≡ currentTerm)
          × (joinVotes' ≡ joinVotes)
          × (messages' ≈ messages)
          × (lastAcceptedTerm' ≡ lastAcceptedTerm)
          × (lastAcceptedValue' ≡ lastAcceptedValue)
          × (startedJoinSinceLastReboot' ≡ startedJoinSinceLastReboot)
          × (electionWon' ≡ electionWon)
          × (lastAcceptedConfiguration' ≡ lastAcceptedConfiguration)
          × (lastAcceptedVersion' ≡ lastAcceptedVersion)
          × (lastPublishedVersion' ≡ lastPublishedVersion)
          × (publishVotes' ≡ publishVotes)
          × (lastPublishedConfiguration' ≡ lastPublishedConfiguration)
          × (initialConfiguration' ≡ initialConfiguration)
          × (initialValue' ≡ initialValue)
          × (initialAcceptedVersion' ≡ initialAcceptedVersion)
          × (descendant' ≈ descendant)

    pub record RestartNode (n : ℕ) : Type 0 where
      pub c1 : joinVotes' ≡ (joinVotes EXCEPT![ n ]= nobody)
      pub c2 : startedJoinSinceLastReboot' ≡ (startedJoinSinceLastReboot EXCEPT![ n ]= false)
      pub c3 : electionWon' ≡ (electionWon EXCEPT![ n ]= false)
      pub c4 : lastPublishedVersion' ≡ (lastPublishedVersion EXCEPT![ n ]= 0)
      pub c5 : lastPublishedConfiguration' ≡ (lastPublishedConfiguration EXCEPT![ n ]= lastAcceptedConfiguration n)
      pub c6 : publishVotes' ≡ (publishVotes EXCEPT![ n ]= nobody)
      pub unchanged : (messages' ≈ messages)
          × (lastAcceptedVersion' ≡ lastAcceptedVersion)
          × (currentTerm' ≡ currentTerm)
          × (lastCommittedConfiguration' ≡ lastCommittedConfiguration)
          × (descendant' ≈ descendant)
          × (lastAcceptedTerm' ≡ lastAcceptedTerm)
          × (lastAcceptedValue' ≡ lastAcceptedValue)
          × (lastAcceptedConfiguration' ≡ lastAcceptedConfiguration)
          × (initialConfiguration' ≡ initialConfiguration)
          × (initialValue' ≡ initialValue)
          × (initialAcceptedVersion' ≡ initialAcceptedVersion)

    -- one constructor for each disjunct; n ∈ Nodes is n < N
    pub data Next : Type 0 where
      d1 : (n : ℕ) → n < N → SetInitialState n → Next
      d2 : (n nm : ℕ) → n < N → nm < N → (t : ℕ) → HandleStartJoin n nm t → Next
      d3 : (m : Message V) → m ∈ messages → HandleJoin (dest_of m) m → Next
      d4 : (n : ℕ) → n < N → (t v : ℕ) (val : V) (vs : NodeSet) → ValidConfigs N vs → HandleClientValue n t v val vs → Next
      d5 : (m : Message V) → m ∈ messages → HandlePublishRequest (dest_of m) m → Next
      d6 : (m : Message V) → m ∈ messages → HandlePublishResponse (dest_of m) m → Next
      d7 : (m : Message V) → m ∈ messages → HandleCommit (dest_of m) m → Next
      d8 : (n : ℕ) → n < N → RestartNode n → Next
