-- Someone else's store: always sound, a write takes seven byte writes, and a cut may keep either record.
use Rattle.std.specs.Prelude.{ℕ, true}
use Rattle.std.proofs.Common.{arith}
use Rattle.std.proofs.lemmas.Bool.{true≢false}
use Rattle.protocol.specs.declared.record.Record.{Record}
use Rattle.store.specs.Stores.{Meaning, Lawful}

abbrev pub fickle : Record ℕ → Meaning
fickle content = record { content = content; size = 7; sound = true; may_keep = λ _ _ _. true }

pub fickle_lawful : (content : Record ℕ) → Lawful (fickle content)
fickle_lawful content = record { at_least = omega arith; at_most = omega arith; no_record = λ e. absurd (true≢false e) }
