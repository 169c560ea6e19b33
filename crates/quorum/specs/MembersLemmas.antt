-- Which nodes the sets of specs/Sets.antt have, read off their bits.
use Rattle.std.specs.Prelude.{◌≡◌, ℕ, suc, ◌+◌, ◌-◌, ◌/◌, ◌%◌, ◌^◌, ◌<◌, ◌≤◌, min, max, true, false, ◌&&◌, ◌||◌, ◌⊎◌, Decides, ◌==◌, bit_and, bit_or, nat_lt}
use Rattle.std.proofs.Common.{inl, inr, ⊎_elim, div-lt_iff_lt-mul, one-mul, pow-suc, arith, pow_mono}
use Rattle.std.proofs.Math.Nat.{div-eq_of_lt, div-eq_of_lt-le}
use Rattle.std.specs.Int.Bits.{and_step, or_step}
use Rattle.std.proofs.lemmas.Nat.{and_shr, or_shr, pow_pos, pow-add, pow_below, shl-shr, leading_top}
use Rattle.std.proofs.lemmas.Bool.{cases_order, cases_lt, and_parts, both_ways, ltb-true}
use Rattle.std.proofs.lemmas.Bool.Decides.{nat_tests}
use Rattle.quorum.specs.declared.node_set.NodeSet.{NodeSet}
use Rattle.quorum.specs.Sets.{member, nobody, with_node, common, legal_configuration, Configuration}

and_odd : (x y : ℕ) → bit_and x y % 2 ≡ min (x % 2) (y % 2)
and_odd x y = omega (arith, and_step x y)

or_odd : (x y : ℕ) → bit_or x y % 2 ≡ max (x % 2) (y % 2)
or_odd x y = omega (arith, or_step x y)

pub member-common : (k : ℕ) (a b : NodeSet) → member k (common a b) ≡ (member k a && member k b)
unfolding member
member-common k a b =
    let d : bit_and a.bits b.bits / 2 ^ k % 2 ≡ min (a.bits / 2 ^ k % 2) (b.bits / 2 ^ k % 2) = rw (and_shr, and_odd) in
    grind (arith, nat_tests)

-- for the proof of `intersection`
pub ruleset common_members = (member-common)

-- a set below 2 ^ n has no member from n on
pub none_from : (n k : ℕ) (s : NodeSet) → s.bits < 2 ^ n → n ≤ k → member k s ≡ false
unfolding member
none_from n k s h le =
    let b : s.bits < 2 ^ k = omega (arith, pow_mono le) in
    rw (div-eq_of_lt b)

pub none_in_nobody : (k : ℕ) → member k nobody ≡ false
none_in_nobody k = none_from 0 k nobody (omega arith) (omega arith)

-- 2 ^ n has the one bit n
bit_of_power : (n k : ℕ) → (2 ^ n / 2 ^ k % 2 == 1) ≡ (k == n)
bit_of_power n k = go (cases_order k n)
  where
    self : 2 ^ n / 2 ^ n ≡ 1
    self = rw one-mul at (shl-shr 1 n)

    lower : (j : ℕ) → 2 ^ (suc j + k) / 2 ^ k % 2 ≡ 0
    lower j = rw (pow-add 2 (suc j) k, shl-shr) (omega (arith, pow-suc 2 j))

    go : (k ≡ n) ⊎ ((k < n) ⊎ (n < k)) → (2 ^ n / 2 ^ k % 2 == 1) ≡ (k == n)
    go (inl e) = rw (e, self) (grind (arith, nat_tests))
    go (inr (inl lt)) =
        let e : n ≡ suc (n - suc k) + k = omega arith in
        let d : 2 ^ n / 2 ^ k % 2 ≡ 0 = rw e (lower (n - suc k)) in
        grind (arith, nat_tests)
    go (inr (inr gt)) = let d = div-eq_of_lt (pow_below n k gt) in grind (arith, nat_tests)

pub member-with_node : (k n : ℕ) (s : NodeSet) → member k (with_node n s) ≡ (member k s || (k == n && nat_lt n 16))
unfolding member
member-with_node k n s =
    let d : bit_or s.bits (2 ^ n) / 2 ^ k % 2 ≡ max (s.bits / 2 ^ k % 2) (2 ^ n / 2 ^ k % 2) = rw (or_shr, or_odd) in
    let e = bit_of_power n k in
    grind (arith, nat_tests)

-- a number has no bits from n on where it is below 2 ^ n
pub none_above : (b n : ℕ) → (b / 2 ^ n == 0) ≡ nat_lt b (2 ^ n)
none_above b n = let below = div-lt_iff_lt-mul {x = b} {y = 1} (pow_pos n) in grind (arith, nat_tests)

-- a set that is not empty has its highest bit for a member
pub highest : (m : ℕ) (s : NodeSet) → 0 < s.bits → s.bits < 2 ^ m → (k : ℕ) × (member k s ≡ true) × (s.bits < 2 ^ suc k)
unfolding member
highest m s p h =
    let t = leading_top m s.bits p h in
    let one : s.bits / 2 ^ t.0 ≡ 1 = div-eq_of_lt-le (2 ^ t.0) (omega arith) (omega (arith, pow-suc 2 t.0)) in
    (t.0, rw one, t.3)

-- the test of bits and the words of members say the same
pub configuration_by_members : (m n : ℕ) (s : NodeSet) → s.bits < 2 ^ m → Decides (legal_configuration n s) (Configuration n s)
configuration_by_members m n s h = (members, bits)
  where
    members : legal_configuration n s ≡ true → Configuration n s
    members t =
        let p = and_parts (nat_lt 0 s.bits) (nat_lt s.bits (2 ^ n)) t in
        let top = highest m s (ltb-true 0 s.bits p.0) h in
        let below = ltb-true s.bits (2 ^ n) p.1 in
        record {
          some = (top.0, top.1);
          known = λ k mem. ⊎_elim (λ lt. lt) (λ ge. absurd (both_ways (member k s) (none_from n k s below ge) mem)) (cases_lt k n);
        }

    bits : Configuration n s → legal_configuration n s ≡ true
    bits c =
        let not_zero : s.bits < 1 → ⊥ = λ z. both_ways (member c.some.0 s) (none_from 0 c.some.0 s z (omega arith)) c.some.1 in
        let pos : 0 < s.bits = ⊎_elim (λ lt. lt) (λ z. absurd (not_zero (omega arith))) (cases_lt 0 s.bits) in
        let top = highest m s pos h in
        let known : suc top.0 ≤ n = c.known top.0 top.1 in
        let below : s.bits < 2 ^ n = omega (arith, pow_mono known) in
        grind (arith, nat_tests)
