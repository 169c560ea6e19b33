-- someone else's store
pub mod Fickle
-- someone else's bank
pub mod VecBanks
-- what code over any bank knows
pub mod Generic
