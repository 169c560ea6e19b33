-- What a reader must believe of this crate, in reading order.
-- sets of nodes: members, the empty set, one node more, what two sets share, legal configurations
pub mod Sets
-- the weight of a set, and the two rules that compare weights
pub mod Rules
-- the laws that every voting rule keeps
pub mod Laws
-- a worked case of the weighted rule
pub mod WorkedCases
-- The rest is proof, which the rules' laws cite, and nothing to believe: which nodes the sets have, read off their bits, ..
pub mod MembersLemmas
-- .. facts on the weight of a set, ..
pub mod WeightsLemmas
-- .. and the laws, for every rule that compares weights
pub mod Measure
