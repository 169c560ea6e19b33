-- What a reader must believe of this crate, in reading order.
-- a cluster with its log: the stores, the volatile values, the bytes; and its opening
pub mod States
-- what each call does to them
pub mod Calls
-- one step or one refusal: what a call may leave
pub mod Outcomes
-- the world of nodes and messages that a state denotes
pub mod Worlds
-- runs, states that runs reach, and that no run splits the history
pub mod Runs
-- that a step over bytes is the public model's
pub mod Models
-- what a cluster of the code means, and what each of its calls promises
pub mod Clusters
-- what a run of the code promises
pub mod Playing
-- an effect that is carried out, step by step
pub mod Carrying
-- worked cases: a run, an entry as it lies in the log, and a write that is cut
pub mod WorkedCases
