pub mod Words
pub mod Rows
pub mod Found
pub mod Scans
