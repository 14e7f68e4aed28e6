pub mod Putting
pub mod Answers
pub mod Sheetings
pub mod Pinned
pub mod Accepted
