pub mod Front
pub mod Pinned
