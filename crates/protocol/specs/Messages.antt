-- Messages: their kinds, and which are legal in a cluster of n nodes.
use Rattle.std.specs.Prelude.{ℕ, Bool, true, ◌&&◌, ◌==◌, nat_lt}
use Rattle.quorum.specs.Sets.{legal_configuration}
use Rattle.protocol.specs.declared.kind.Kind.{Kind}
use Rattle.protocol.specs.declared.kind.Kind.TheVariants as kind
use Rattle.protocol.specs.declared.message.Message.{Message}
use Rattle.protocol.specs.declared.message.Message.TheVariants.{Join, Publication, Response, Commit}

abbrev pub kind_of : {V : Type 0} → Message V → Kind
kind_of (Join m) = kind.Join
kind_of (Publication m) = kind.Publication
kind_of (Response m) = kind.Response
kind_of (Commit m) = kind.Commit

-- the destination of a message that is for every node
abbrev pub everyone : ℕ
everyone = 255

-- whether a message is for node n: a publication and a commit are for every node
abbrev pub is_for : {V : Type 0} → (n : ℕ) → Message V → Bool
is_for n (Join m) = m.destination == n
is_for n (Publication m) = true
is_for n (Response m) = m.destination == n
is_for n (Commit m) = true

-- the source and a single destination are nodes, and the configurations of a publication are legal
abbrev pub legal_message : {V : Type 0} → ℕ → Message V → Bool
legal_message n (Join m) = nat_lt m.source n && nat_lt m.destination n
legal_message n (Publication m) =
    nat_lt m.source n && (legal_configuration n m.configuration && legal_configuration n m.committed_configuration)
legal_message n (Response m) = nat_lt m.source n && nat_lt m.destination n
legal_message n (Commit m) = nat_lt m.source n
