-- The refusal that a fault is.
use Rattle.protocol.specs.declared.refusal.Refusal.{Refusal}
use Rattle.protocol.specs.declared.refusal.Refusal.TheVariants as refusal
use Rattle.message_log.specs.declared.fault.Fault.{Fault}
use Rattle.message_log.specs.declared.fault.Fault.TheVariants.{IllFormedLog, UnknownKind, InvalidBody, LogFull}

abbrev pub refusal_of : Fault → Refusal
refusal_of IllFormedLog = refusal.IllFormedLog
refusal_of UnknownKind = refusal.UnknownKind
refusal_of InvalidBody = refusal.InvalidBody
refusal_of LogFull = refusal.LogFull
