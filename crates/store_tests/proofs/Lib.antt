-- stores in a list
pub mod InList
