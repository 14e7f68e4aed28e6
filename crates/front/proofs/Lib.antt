pub mod Choices
pub mod Rounding
pub mod Numbers
pub mod Blocks
pub mod Frontings
pub mod Meaning
pub mod Cases
pub mod Reported
