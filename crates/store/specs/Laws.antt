-- That our own stores are lawful.
use Rattle.std.specs.Prelude.{ℕ, List}
use Rattle.std.proofs.Common.{arith}
use Rattle.std.proofs.lemmas.Bool.{true≢false, cond-false}
use Rattle.protocol.specs.declared.record.Record.{Record}
use Rattle.store.specs.Stores.{Lawful, zeros}
use Rattle.store.specs.Plain.{plain}
use Rattle.store.specs.Ring.{ring, well_formed, record_in, current_of}

pub plain_lawful : (content : Record ℕ) → Lawful (plain content)
plain_lawful content = record { at_least = omega arith; at_most = omega arith; no_record = λ e. absurd (true≢false e) }

pub ring_lawful : (bytes : List ℕ) → Lawful (ring bytes)
ring_lawful bytes = record {
  at_least = omega arith;
  at_most = omega arith;
  no_record = cond-false (well_formed bytes) (record_in (current_of bytes) bytes) zeros;
}
