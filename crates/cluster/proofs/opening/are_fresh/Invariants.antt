use Rattle.std.proofs.Common.{◌≡◌, ℕ, ◌<◌, true}
use Rattle.store.specs.Banks.{store_at}
use Rattle.node.specs.Setups.{meant}
use Rattle.cluster.specs.States.{fresh}
use Rattle.cluster.proofs.opening.are_fresh.Given as goal

-- the bank means what it did, and each store so far is fresh
abbrev pub invariant-loop-at : goal.invariant-loop-at
invariant-loop-at g l =
    (g.B.Bank.meaning l.bank ≡ g.B.Bank.meaning l.initial.bank)
    × ((k : ℕ) → k < l.at → fresh (meant g.R.VotingRule.quorum l.setup) (store_at (g.B.Bank.meaning l.initial.bank) k).content ≡ true)
