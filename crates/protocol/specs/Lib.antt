-- What a reader must believe of this crate, in reading order.
-- the number of each refusal
pub mod Refusals
-- the number of each kind of message
pub mod Kinds
-- the kind of a message, and which messages are legal in a cluster
pub mod Messages
-- numbers in bytes
pub mod Bytes
-- the three changes of a record
pub mod Changes
-- what a node decides: the tests of each call and message, with their refusals, and its effect
pub mod Decisions
-- the place of an element in a list
pub mod Positions
-- what a call does to a cluster
pub mod Calls
-- the public model, under its own names
pub mod Model
-- one history: what is promised of the messages in a log
pub mod History
-- runs: that none splits the history, and that their messages are legal
pub mod Runs
-- a worked run
pub mod WorkedCases
-- that the steps of the calls are the model's
pub mod Steps
-- runs with the model's descendant, which is descent
pub mod Traces
