-- the voting rule with its laws, and the initial configuration
pub mod Setting
-- the messages of a log, and a log with one message more
pub mod Log
-- the order on points, a point being a term and a version
pub mod Points
-- what a log certifies: points that stand, elections and choices
pub mod Certificates
-- what was certified stays so while the log grows
pub mod Growth
-- the invariant of the log
pub mod LogInvariant
-- descent raises versions, and a committed point below is an ancestor
pub mod Descent
-- the highest commit up to a point
pub mod Latest
-- the view keeps the last committed configuration
pub mod View
-- an election sees every chosen point, and one leader a term
pub mod Election
-- later terms descend from what is chosen
pub mod Ancestors
-- the invariant of a node
pub mod NodeInvariant
-- what the log invariant asks of a message that is sent
pub mod Fits
-- the log invariant with one message more
pub mod Adding
-- the node invariant while the log grows
pub mod NodeGrowth
-- what the steps change in a node
pub mod Effects
-- when a step may be taken, and the steps
pub mod Steps
-- votes: one more in a set, and none in the empty set
pub mod Votes
-- what may follow what a node has accepted
pub mod AcceptedPoint
-- restart, bootstrap, start join and a commit delivered keep the invariant of the node
pub mod RecordSteps
-- a join delivered keeps the invariant of the node
pub mod CountJoin
-- a publication delivered keeps the invariant of the node
pub mod Accept
-- a response delivered keeps the invariant of the node, and decides only what is chosen
pub mod CountResponse
-- a publication made keeps the invariant of the log and of its node
pub mod Publish
-- which messages do not concern a node
pub mod Concerns
-- the invariant of a state, and how a step's frame carries it
pub mod Invariant
-- every step keeps the invariant
pub mod Preservation
-- a fresh start has the invariant
pub mod Start
-- the invariant of the log gives one history
pub mod OneHistory
-- every state that is reached has one history
pub mod Safety
-- a decision that is taken: no test refused
pub mod Deciding
-- equal messages, and the log after a message is sent
pub mod Sending
-- what carrying out an effect leaves
pub mod Carrying
-- a call leaves the world as it was, or is a step of the protocol
pub mod CallsAreSteps
-- no run of calls splits the history
pub mod Unsplit
-- when an effect is carried out, and what the log means afterwards
pub mod Placing
-- each action of the model, and the tests and the effect of ours
pub mod Matching
-- the set descendant of the model and the bases in the log
pub mod Tying
-- the invariant of runs: bare nodes or legal configurations, and legal messages
pub mod Soundness
-- every message that a run has sent is legal in its cluster
pub mod MessagesAreLegal
-- what the model asserts of a node that is not bootstrapped
pub mod Asserting
-- the steps of the calls are the model's
pub mod Stepping
-- on runs the model's descendant is descent
pub mod DescendantIsDescent
