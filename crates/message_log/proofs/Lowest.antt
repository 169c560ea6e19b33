-- The lowest entry that is equal to another.
use Rattle.std.proofs.Common.{◌≡◌, ℕ, zero, suc, ◌+◌, ◌<◌, ◌≤◌, Bool, true, false, map, Some, None, Option, MatchOption, sym, refl, ap, ◌∙◌, arith}
use Rattle.std.specs.List.{range_with_len}
use Rattle.std.specs.Option.{option_map}
use Rattle.std.proofs.lemmas.Bool.{cond-true, cond-false}
use Rattle.protocol.specs.Positions.{position}

module _ {X : Type 0} (test : X → Bool) (f : ℕ → X) where
  -- a test that fails at the n places from a on has no place there
  no_place : (n a : ℕ) → ((k : ℕ) → k < n → test (f (a + k)) ≡ false) → position test (map f (range_with_len a n)) ≡ None
  unfolding position
  no_place zero a h = refl
  no_place (suc n) a h =
      cond-false (test (f a)) _ _ (ap (λ (k : ℕ). test (f k)) (omega arith) ∙ h 0 (omega arith))
      ∙ ap (option_map suc)
      (no_place n (a + 1) (λ k l. ap (λ (j : ℕ). test (f j)) (omega arith) ∙ h (k + 1) (omega arith)))

  -- a test that fails at the first i of the n places from a on, and holds at the next
  lowest_place : (n a i : ℕ) → i < n → ((k : ℕ) → k < i → test (f (a + k)) ≡ false) → test (f (a + i)) ≡ true
      → position test (map f (range_with_len a n)) ≡ Some i
  unfolding position
  lowest_place zero a i l h t = absurd (omega arith)
  lowest_place (suc n) a zero l h t = cond-true (test (f a)) _ _ (ap (λ (k : ℕ). test (f k)) (omega arith) ∙ t)
  lowest_place (suc n) a (suc i) l h t =
      cond-false (test (f a)) _ _ (ap (λ (k : ℕ). test (f k)) (omega arith) ∙ h 0 (omega arith))
      ∙ ap (option_map suc)
      (lowest_place n (a + 1) i (omega arith)
      (λ k b. ap (λ (j : ℕ). test (f j)) (omega arith) ∙ h (k + 1) (omega arith))
      (ap (λ (j : ℕ). test (f j)) (omega arith) ∙ t))

  -- the answer of a search through the n places from 0 on is the lowest place
  pub found_below : (n end : ℕ) (answer : Option ℕ) → end ≡ n
      → MatchOption answer ((k : ℕ) → 0 ≤ k → k < end → test (f k) ≡ false)
      (λ i. (0 ≤ i) × (i < end) × (test (f i) ≡ true) × ((k : ℕ) → 0 ≤ k → k < i → test (f k) ≡ false))
      → answer ≡ position test (map f (range_with_len 0 n))
  found_below n end None e h =
      sym (no_place n 0 (λ k l. ap (λ (j : ℕ). test (f j)) (omega arith) ∙ h k (omega arith) (omega arith)))
  found_below n end (Some i) e h =
      sym (lowest_place n 0 i (omega (arith, h.1)) (λ k l. ap (λ (j : ℕ). test (f j)) (omega arith) ∙ h.3 k (omega arith) l)
      (ap (λ (j : ℕ). test (f j)) (omega arith) ∙ h.2))
