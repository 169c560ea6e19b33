use Rattle.std.proofs.Common.{◌≡◌, refl, sym, rules, ap, ◌∙◌, ℕ}
use Rattle.message_log.specs.Added.{Holds}
use Rattle.message_log.specs.Log.{added, stored_as, Outcome}
use Rattle.message_log.proofs.Adding.{AddsNew, adds_new}
use Rattle.message_log.proofs.appending.append.Goals as goal

pub write-requires-clause-room : goal.write-requires-clause-room
write-requires-clause-room c =
    let new : AddsNew c.args.bytes.now (stored_as c.args.message.now) c.in_ok-log.log.sizes = adds_new _ _ _ refl (search rules) (search rules) in
    new.room

pub returns-then-place-sizes : goal.returns-then-place-sizes
returns-then-place-sizes c =
    let new : AddsNew c.args.bytes.now (stored_as c.args.message.now) c.in_ok-log.log.sizes = adds_new _ _ _ refl (search rules) (search rules) in
    let place = c.if-place-sizes.true in
    let written = c.write.ensures ∙ ap (added c.args.bytes.now) c.stored-entry.ensures in
    let answer = ap (λ (o : Outcome ℕ). o.answer) new.outcome in
    -- whatever number is answered, if it is the count
    let holds_at : (x : ℕ) → x ≡ c.in_ok-log.log.sizes.count
    → Holds c.args.bytes.now (added c.args.bytes.now (stored_as c.args.message.now)) (stored_as c.args.message.now) x =
    λ x e. rw e new.holds in
    record {
      answer = cc;
      bytes = written ∙ sym (ap (λ (o : Outcome ℕ). o.bytes) new.outcome);
      holds = rw written (holds_at _ cc);
    }
