pub mod Bytes
pub mod Columns
pub mod Lines
pub mod Linked
