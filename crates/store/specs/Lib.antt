-- What a reader must believe of this crate, in reading order.
-- what a store means, what holds of every store, and what a write does
pub mod Stores
-- the plain store
pub mod Plain
-- a record as the bytes of a slot
pub mod Slots
-- bytes that are written one by one, under a power that may cut them short
pub mod Overwriting
-- the ring store: its form, what its bytes mean, and every byte after a write or a cut
pub mod Ring
-- banks of stores
pub mod Banks
-- what follows, in the words of the subject: no write tears a record, and two worked cuts
pub mod Theorems
-- nothing to believe: that our own stores are lawful, which the ghost members hold as proofs
pub mod Laws
