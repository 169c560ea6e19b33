use Rattle.std.proofs.Common.{List, sym, ap, ◌∙◌, arith}
use Rattle.store.specs.Stores.{Meaning}
use Rattle.store.specs.Banks.{store_at}
use Rattle.node.specs.Setups.{meant}
use Rattle.cluster.specs.States.{fresh}
use Rattle.cluster.proofs.Freshness.{each_is_fresh, one_is_not_fresh}
use Rattle.cluster.proofs.opening.are_fresh.Goals as goal

pub returns-then-not-has_fresh-clause-value : goal.returns-then-not-has_fresh-clause-value
returns-then-not-has_fresh-clause-value g c =
    sym (one_is_not_fresh (meant g.R.VotingRule.quorum c.args.setup.now) (g.B.Bank.meaning c.args.bank.now) c.loop-at.at
    (omega (arith, c.requires))
    (ap (λ (stores : List Meaning). fresh (meant g.R.VotingRule.quorum c.args.setup.now) (store_at stores c.loop-at.at).content) (sym c.loop-at.invariant.0)
    ∙ sym c.if-not-has_fresh.ensures.value))

pub returns-clause-value : goal.returns-clause-value
returns-clause-value g c =
    sym (each_is_fresh (meant g.R.VotingRule.quorum c.args.setup.now) (g.B.Bank.meaning c.args.bank.now)
    (λ k l. c.loop-at.invariant.1 k (omega (arith, c.requires))))
