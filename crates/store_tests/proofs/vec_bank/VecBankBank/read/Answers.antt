use Rattle.std.proofs.Common.{ap, ◌∙◌, rules}
use Rattle.std.proofs.Math.Seq.{map-set_same}
use Rattle.store_tests.proofs.vec_bank.VecBankBank.read.Goals as goal

-- the store means what it meant
pub returns-clause-same : goal.returns-clause-same
returns-clause-same g c =
    map-set_same g.S.Store.meaning c.args.self.now.stores.items c.from.result c.read.new.self c.in_ok-store.store.now
    (c.read.ensures.same ∙ ap g.S.Store.meaning (search rules))
