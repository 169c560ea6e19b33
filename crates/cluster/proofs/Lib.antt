-- the nodes that stores and volatile values denote
pub mod NodesDenoted
-- a call over bytes is that call on messages
pub mod CallsAgree
-- what a call may do to the log, and that it keeps all the rest in its form
pub mod Frames
-- an opening over fresh stores
pub mod Openings
-- states that calls reach denote worlds that calls on messages reach
pub mod Reaching
-- no run splits the log
pub mod Unsplitting
-- lists whose numbers are bytes, and that a log of legal messages is one
pub mod Octets
-- steps over bytes are the model's
pub mod Modelling
-- what follows where tests pass
pub mod Passing
-- whether every store is fresh, store by store
pub mod Freshness
-- a call that is lent no log does the same beside every log
pub mod AnyLog
-- what a step of a cluster's call promises besides
pub mod Calling
-- turns that are taken one after the other
pub mod SoFar
-- what a whole run promises
pub mod WholeRuns
-- one step or one refusal
pub mod Refusing
-- the worked run, computed
pub mod WorkedRuns
-- a call whose write to a ring is cut at the slot number
pub mod RingCuts
