pub mod Limits
pub mod Rounding
pub mod Symbols
pub mod Reports
pub mod Fronting
pub mod Work
