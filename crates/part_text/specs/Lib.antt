pub mod NumberLines
pub mod Part
pub mod Entries
pub mod Answers
pub mod Laws
