use Rattle.std.proofs.Common.{rules, vec_items}
use Rattle.store_tests.proofs.InList.{written}
use Rattle.store_tests.proofs.vec_bank.VecBankBank.write.Goals as goal

pub returns : goal.returns
returns g c = rw c.from.ensures (
    written g.S.Store.meaning (vec_items c.args.self.now.stores) c.args.at (search rules) c.in_ok-store.store.now (search rules)
    c.args.change c.args.power c.write.result c.write.new.self c.write.ensures.written)
