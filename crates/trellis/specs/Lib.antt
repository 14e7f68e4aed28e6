pub mod Trellis
pub mod Verdict
pub mod Sheet
pub mod Lawful
pub mod Search
pub mod Safe
