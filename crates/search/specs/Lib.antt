pub mod Limits
pub mod Decoding
pub mod Work
