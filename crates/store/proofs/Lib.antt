-- the two sides of a pair of banks
pub mod Sides
-- bytes that are overwritten one by one, and parts of the bytes
pub mod Overwriting
-- a write to a ring, finished or cut, leaves the old record or the new one, whole
pub mod NeverTorn
