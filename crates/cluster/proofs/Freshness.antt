-- Whether every store is fresh, store by store.
use Rattle.std.proofs.Common.{◌≡◌, ℕ, zero, suc, ◌<◌, true, false, List, [], ◌∷◌, length, refl, arith}
use Rattle.std.proofs.lemmas.Bool.{and_from, and_left, and_right}
use Rattle.protocol.specs.Decisions.{Setup}
use Rattle.store.specs.Stores.{Meaning}
use Rattle.store.specs.Banks.{store_at}
use Rattle.cluster.specs.States.{fresh, all_fresh}

module _ (setup : Setup ℕ) where
  pub each_is_fresh : (stores : List Meaning) → ((k : ℕ) → k < length stores → fresh setup (store_at stores k).content ≡ true)
      → all_fresh setup stores ≡ true
  each_is_fresh [] h = refl
  each_is_fresh (s ∷ stores) h = and_from _ _ (h 0 (omega arith)) (each_is_fresh stores (λ k l. h (suc k) (omega arith)))

  pub one_is_not_fresh : (stores : List Meaning) (k : ℕ) → k < length stores → fresh setup (store_at stores k).content ≡ false
      → all_fresh setup stores ≡ false
  one_is_not_fresh [] k l h = absurd (omega arith)
  one_is_not_fresh (s ∷ stores) zero l h = and_left _ _ h
  one_is_not_fresh (s ∷ stores) (suc k) l h = and_right _ _ (one_is_not_fresh stores k (omega arith) h)
