pub mod Bytes
pub mod Lines
pub mod Columns
pub mod Names
