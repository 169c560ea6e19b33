-- Votes are sets of nodes: one more node in a set, and none in the empty set. And a flag that is not set.
use Rattle.std.proofs.Common.{◌≡◌, ℕ, true, false, ◌&&◌, eqb, ltb, ◌⊎◌, sym, refl, ap, ◌∙◌, inl, inr, ⊎_elim}
use Rattle.std.proofs.lemmas.Bool.{both_ways, and_parts, eqb-true, or_cases, or_left}
use Rattle.quorum.specs.declared.node_set.NodeSet.{NodeSet}
use Rattle.quorum.specs.Sets.{member, nobody, with_node}
use Rattle.quorum.specs.MembersLemmas.{none_in_nobody, member-with_node}

-- a flag that is false is not true
pub never : {A : Type 0} → false ≡ true → A
never e = absurd (both_ways false refl e)

-- the empty set has no vote
pub no_vote : {A : Type 0} (s : ℕ) → member s nobody ≡ true → A
no_vote s m = absurd (both_ways (member s nobody) (none_in_nobody s) m)

-- a vote stays while others are counted
pub vote_stays : (n : ℕ) (votes : NodeSet) (s : ℕ) → member s votes ≡ true → member s (with_node n votes) ≡ true
vote_stays n votes s m = member-with_node s n votes ∙ or_left (member s votes) (eqb s n && ltb n 16) m

-- a vote is an old one or the one just counted
pub vote_is_old_or_new : (n : ℕ) (votes : NodeSet) (s : ℕ) → member s (with_node n votes) ≡ true
    → (member s votes ≡ true) ⊎ (s ≡ n)
vote_is_old_or_new n votes s m =
    ⊎_elim inl (λ e. inr (eqb-true s n (and_parts (eqb s n) (ltb n 16) e).0))
    (or_cases (member s votes) (eqb s n && ltb n 16) (sym (member-with_node s n votes) ∙ m))

-- a set without bits is the empty set
pub no_bits : (s : NodeSet) → s.bits ≡ 0 → s ≡ nobody
no_bits s e = ap (λ (b : ℕ). record { bits = b }) e
