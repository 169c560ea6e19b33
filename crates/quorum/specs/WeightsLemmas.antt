-- The weight of a set: facts for any number of nodes and any weights.
use Rattle.std.specs.Prelude.{◌≡◌, ℕ, zero, suc, ◌+◌, ◌/◌, ◌%◌, ◌^◌, ◌<◌, ◌≤◌, true, cond, ◌&&◌, ◌⊎◌, ◌≢◌, refl}
use Rattle.std.proofs.Common.{inl, inr, ⊎_elim, sym, ap, ◌∙◌, mod-eq_of_lt, add-one, one-add, arith}
use Rattle.std.proofs.Math.Nat.{mod-one}
use Rattle.std.specs.Int.Count.{ones, ones_in}
use Rattle.std.proofs.lemmas.Nat.{mod-pow-add, mod_below, pow_pos, ones_cat, ones-le}
use Rattle.std.proofs.lemmas.Bool.{and_parts, cases_Bool, cases_eq}
use Rattle.std.proofs.lemmas.Bool.Decides.{nat_tests}
use Rattle.quorum.specs.declared.node_set.NodeSet.{NodeSet}
use Rattle.quorum.specs.Sets.{member, nobody, common}
use Rattle.quorum.specs.Rules.{weight_below, one_each}
use Rattle.quorum.specs.MembersLemmas.{member-common, none_in_nobody}

pub weight_of_one_more : (k : ℕ) (weight : ℕ → ℕ) (s : NodeSet)
    → weight_below (k + 1) weight s ≡ weight_below k weight s + cond (member k s) (weight k) 0
unfolding weight_below
weight_of_one_more k weight s = rw add-one

pub more_members_weigh_more : (k : ℕ) (weight : ℕ → ℕ) (a b : NodeSet)
    → ((n : ℕ) → member n a ≡ true → member n b ≡ true) → weight_below k weight a ≤ weight_below k weight b
unfolding weight_below
more_members_weigh_more zero weight a b h = omega arith
more_members_weigh_more (suc k) weight a b h =
    let rest = more_members_weigh_more k weight a b h in
    let here = h k in
    grind arith

pub nobody_weighs_nothing : (k : ℕ) (weight : ℕ → ℕ) → weight_below k weight nobody ≡ 0
unfolding weight_below
nobody_weighs_nothing zero weight = refl
nobody_weighs_nothing (suc k) weight = rw (nobody_weighs_nothing k weight, none_in_nobody k)

pub member_weighs : (k : ℕ) (weight : ℕ → ℕ) (s : NodeSet) (n : ℕ) → n < k → member n s ≡ true → weight n ≤ weight_below k weight s
unfolding weight_below
member_weighs zero weight s n h m = omega arith
member_weighs (suc k) weight s n h m = go (member_weighs k weight s n) (cases_eq n k)
  where
    go : (n < k → member n s ≡ true → weight n ≤ weight_below k weight s) → (n ≡ k) ⊎ (n ≢ k)
        → weight n ≤ weight_below k weight s + cond (member k s) (weight k) 0
    go rest (inl e) = let here : member k s ≡ true = rw e at m in rw (e, here) (omega arith)
    go rest (inr ne) = omega (arith, rest (omega arith) m)

-- two sets share a node, or their parts of a third weigh together no more than the third
pub shared_or_apart : (k : ℕ) (weight : ℕ → ℕ) (a b c : NodeSet)
    → ((n : ℕ) × (member n a ≡ true) × (member n b ≡ true))
    ⊎ (weight_below k weight (common a c) + weight_below k weight (common b c) ≤ weight_below k weight c)
unfolding weight_below
shared_or_apart zero weight a b c = inr (omega arith)
shared_or_apart (suc k) weight a b c =
    let ac = member-common k a c in
    let bc = member-common k b c in
    ⊎_elim inl
    (λ rest. ⊎_elim (λ both. let p = and_parts (member k a) (member k b) both in inl (k, p.0, p.1)) (λ apart. inr (grind arith))
    (cases_Bool (member k a && member k b)))
    (shared_or_apart k weight a b c)

digit_ones : (d : ℕ) → d < 2 → ones d ≡ d
unfolding ones ones_in
digit_ones zero h = refl
digit_ones (suc zero) h = refl
digit_ones (suc (suc d)) h = omega arith

ones_each : (k : ℕ) (s : NodeSet) → weight_below k one_each s ≡ ones (s.bits % 2 ^ k)
unfolding weight_below member
ones_each zero s = rw mod-one (sym (digit_ones 0 (omega arith)))
ones_each (suc k) s =
    let rest = ones_each k s in
    let count = digit_ones (s.bits / 2 ^ k % 2) (omega arith) in
    let split = rw one-add at (mod-pow-add s.bits 1 k) in
    let e = ap ones split ∙ ones_cat k (s.bits / 2 ^ k % 2) (s.bits % 2 ^ k) (mod_below s.bits (2 ^ k) (pow_pos k)) in
    grind (arith, nat_tests)

-- where every node counts for one, the weight is the number of bits that are set
pub count_bits : (k : ℕ) (s : NodeSet) → s.bits < 2 ^ k → ones s.bits ≡ weight_below k one_each s
count_bits k s h = rw (ones_each k s, mod-eq_of_lt h)

-- how many bits a set of 16 nodes has set is its weight where each node weighs one, ..
pub counted : (s : NodeSet) → s.bits < 2 ^ 16 → ones s.bits ≡ weight_below 16 one_each s
counted s small = count_bits 16 s small

-- .. and 16 at most
pub counted_at_most : (s : NodeSet) → s.bits < 2 ^ 16 → ones s.bits ≤ 16
counted_at_most s small = ones-le 16 s.bits small
