pub mod Symbols
pub mod Blocks
pub mod Bounds
pub mod Packed
pub mod Machines
pub mod Walks
