-- What a reader must believe of this crate, in reading order.
-- the setup that the definitions of the decisions take, from what the code has
pub mod Setups
-- an entry that is delivered to a node
pub mod Deliveries
