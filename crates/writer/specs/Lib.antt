pub mod Work
pub mod Sheeting
