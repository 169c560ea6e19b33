use Rattle.std.proofs.Common.{refl}
use Rattle.store.proofs.NeverTorn.{never_torn}
use Rattle.store.proofs.ring.RingStoreStore.write.Goals as goal

pub returns : goal.returns
returns c =
    let wrote = c.write_ring.ensures in
    record {
      written = never_torn c.args.self.now.bytes.now _ c.args.change c.args.power _ wrote.after wrote.finished wrote.back;
      bytes = wrote.after;
      lender = refl;
    }
