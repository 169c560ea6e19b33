-- What the radio firmware is answered, as plain numbers.
use Rattle.std.specs.Prelude.{ℕ, Ok, Err, Result}
use Rattle.protocol.specs.Refusals.{refusal_number}
use Rattle.message_log.specs.declared.fault.Fault.{Fault}
use Rattle.message_log.specs.Faults.{refusal_of}

-- clearing: 0, or the number of the refusal
abbrev pub clear_code : Result (Unit {0}) Fault → ℕ
clear_code (Ok done) = 0
clear_code (Err fault) = refusal_number (refusal_of fault)

-- counting: the count, or 65,535
abbrev pub count_code : Result ℕ Fault → ℕ
count_code (Ok count) = count
count_code (Err fault) = 65535
