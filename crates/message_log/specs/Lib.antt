-- What a reader must believe of this crate, in reading order.
-- numbers in bytes, the sizes of a log, and where its entries lie
pub mod Layout
-- the faults, and the refusal that each is
pub mod Faults
-- the nine numbers of a body
pub mod Body
-- which bodies are valid, and the message that each is
pub mod Rules
-- an entry as read
pub mod Entries
-- the entries of a log: reading and looking up, adding, clearing
pub mod Log
-- what clearing and adding mean for the list of entries
pub mod Added
-- a log as the encoding of a list of messages
pub mod Encoded
-- what the radio firmware is answered
pub mod Firmware
