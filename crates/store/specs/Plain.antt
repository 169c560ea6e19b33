-- The plain store: always sound, and a write is a single byte write.
use Rattle.std.specs.Prelude.{ℕ, true}
use Rattle.protocol.specs.declared.record.Record.{Record}
use Rattle.store.specs.Stores.{Meaning, by_last_write}

abbrev pub plain : Record ℕ → Meaning
plain content = record { content = content; size = 1; sound = true; may_keep = by_last_write 1 }
