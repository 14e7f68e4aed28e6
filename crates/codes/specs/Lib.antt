pub mod Limits
pub mod Codes
pub mod Encoding
pub mod Work
