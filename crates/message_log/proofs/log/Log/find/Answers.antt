use Rattle.std.proofs.Common.{◌≡◌, ℕ, true, false, rules}
use Rattle.std.proofs.lemmas.Iterator.{first_from_Range}
use Rattle.message_log.specs.Log.{same_stored, shows, stored_at}
use Rattle.message_log.proofs.Adding.{opened}
use Rattle.message_log.proofs.Lowest.{found_below}
use Rattle.message_log.proofs.log.Log.find.Goals as goal

pub returns : goal.returns
returns c =
    let log = c.args.self.now in
    let is = same_stored (shows c.args.entry.now) in
    let at = stored_at log.bytes.now in
    found_below is at _ log.sizes.count c.find.result (opened log.bytes.now log.sizes log.is_log).count
    (first_from_Range _ _ _ c.find.result (λ (k : ℕ). is (at k) ≡ true) (λ (k : ℕ). is (at k) ≡ false) c.find.ensures.ran
    (λ k q h. search rules) (λ k q h. search rules))
