pub mod Face
pub mod Fronts
pub mod Choices
