-- The laws of a voting rule, for every rule that compares weights.
use Rattle.std.specs.Prelude.{◌≡◌, ℕ, ◌<◌, true, List}
use Rattle.std.proofs.Common.{⊎_elim, arith}
use Rattle.quorum.specs.Sets.{member, nobody, common}
use Rattle.quorum.specs.Rules.{outweighs, one_each, by_table}
use Rattle.quorum.specs.Laws.{Shared, Grows, Whole, Void}
use Rattle.quorum.specs.MembersLemmas.{member-common}
use Rattle.quorum.specs.WeightsLemmas.{more_members_weigh_more, nobody_weighs_nothing, member_weighs, shared_or_apart}

pub shared : (weight : ℕ → ℕ) → Shared (outweighs weight)
shared weight a b c p q = ⊎_elim (λ s. s) (λ apart. absurd (grind arith)) (shared_or_apart 16 weight a b c)

pub grows : (weight : ℕ → ℕ) → Grows (outweighs weight)
grows weight a b c h p =
    let more : (n : ℕ) → member n (common a c) ≡ true → member n (common b c) ≡ true =
    λ n m. let ac = member-common n a c in let bc = member-common n b c in let ab = h n in grind arith in
    let le = more_members_weigh_more 16 weight (common a c) (common b c) more in
    grind arith

pub whole : (weight : ℕ → ℕ) → ((n : ℕ) → 0 < weight n) → Whole (outweighs weight)
whole weight positive s n lt m =
    let same : (k : ℕ) → member k s ≡ true → member k (common s s) ≡ true = λ k mem. let e = member-common k s s in grind arith in
    let le = more_members_weigh_more 16 weight s (common s s) same in
    let here = member_weighs 16 weight s n lt m in
    let pos = positive n in
    grind arith

pub void : (weight : ℕ → ℕ) → Void (outweighs weight)
void weight votes =
    let less : (n : ℕ) → member n (common votes nobody) ≡ true → member n nobody ≡ true =
    λ n m. let e = member-common n votes nobody in grind arith in
    let le = more_members_weigh_more 16 weight (common votes nobody) nobody less in
    let none = nobody_weighs_nothing 16 weight in
    grind arith

-- no node weighs nothing
pub one_each_positive : (n : ℕ) → 0 < one_each n
one_each_positive n = omega arith

pub by_table_positive : (weights : List ℕ) (n : ℕ) → 0 < by_table weights n
by_table_positive weights n = omega arith
