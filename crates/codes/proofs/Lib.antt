pub mod Codewords
pub mod Encodings
pub mod LawfulCodes
pub mod Registers
pub mod Rules
