-- bytes that are put in the place of others
pub mod Puts
-- reading what was written, and writing what was read
pub mod RoundTrip
-- numbers that fit their places come back from the body that is made of them
pub mod NumbersBack
-- the lowest entry that is equal to another
pub mod Lowest
-- what is put into bytes, read again
pub mod PutThenRead
-- a log with one more entry, and an empty one
pub mod Adding
-- a log that is the encoding of a list of messages: what it reads as, and one message more
pub mod Encoded
