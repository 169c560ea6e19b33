use Rattle.std.proofs.Common.{◌∙◌, rules, tests, vec_items}
use Rattle.std.proofs.lemmas.Iterator.{YieldsList-from_slice}
use Rattle.std.proofs.lemmas.Iterator.Search.{all_from_yields_List}
use Rattle.store_tests.proofs.InList.{each_is_sound}
use Rattle.store_tests.proofs.vec_bank.VecBankBank.all_sound.Goals as goal

pub returns : goal.returns
returns g c =
    all_from_yields_List (λ s. (g.S.Store.meaning s).sound) _ _ _ c.all.ensures.ran (YieldsList-from_slice (vec_items c.args.self.now.stores) (search rules)) (λ x b q k. search (rules, tests))
    ∙ each_is_sound g.S.Store.meaning (vec_items c.args.self.now.stores)
